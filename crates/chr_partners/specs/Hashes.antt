-- The hashes of keys. Proofs use of them only that equal keys have equal hashes.
use Rattle.std.specs.Prelude.{ℕ, ◌+◌, ◌*◌, ◌/◌, ◌%◌, ◌^◌, Option, Some, None}
use Rattle.std.specs.Int.{w64, cast_unsigned}
use Rattle.chr_value.specs.Atoms.{Value, Int, Sym, Comp, Args, Nil, Cons, Atom}
use Rattle.chr_partners.specs.Partners.{arg_at}

-- a word of 64 bits with one more
abbrev pub mixed : ℕ → ℕ → ℕ
mixed w v = ((w * 11400714819323198485) % 2 ^ 64 + v) % 2 ^ 64

-- a word for a value, by its functor alone where it has one
abbrev pub plain_word : Value ℕ → ℕ
plain_word (Int z) = cast_unsigned w64 z
plain_word (Sym s) = s
plain_word (Comp s vs) = s

abbrev pub args_word : ℕ → Args ℕ → ℕ
args_word w Nil = w
args_word w (Cons v vs) = args_word (mixed w (plain_word v)) vs

-- a word for a value, by its functor and its arguments
abbrev pub value_word : Value ℕ → ℕ
value_word (Int z) = cast_unsigned w64 z
value_word (Sym s) = s
value_word (Comp s vs) = args_word s vs

-- the hash of a key: a predicate's name, a place, and the word of the value there
unfoldable pub hash : ℕ → ℕ → ℕ → ℕ
hash name place word = mixed (mixed (name * 256 + place) word) 0 / 2 ^ 32

-- the word of what an atom has at a place, 0 where that is nothing
abbrev pub found_word : Option (Value ℕ) → ℕ
found_word None = 0
found_word (Some v) = value_word v

-- the hash of an atom's key of a place
abbrev pub atom_hash : Atom ℕ → ℕ → ℕ
atom_hash a place = hash a.name place (found_word (arg_at a place))
