-- The digests by which keys stand for compound values.
use Rattle.std.specs.Prelude.{ℕ, ◌+◌, ◌*◌, ◌%◌, ◌^◌}
use Rattle.std.specs.Int.{w64, cast_unsigned}
use Rattle.chr_value.specs.Atoms.{Value, Int, Sym, Comp, Args, Nil, Cons, args_count}

-- a digest of 64 bits with one word more
abbrev pub mixed : ℕ → ℕ → ℕ
mixed d word = ((d * 11400714819323198485) % 2 ^ 64 + word) % 2 ^ 64

-- a digest with a value more, in the order of its text: a functor goes in with how many arguments
-- it has, and a symbol as a functor without any
abbrev mutual
  pub digest_after : ℕ → Value ℕ → ℕ
  digest_after d (Int z) = mixed d (cast_unsigned w64 z)
  digest_after d (Sym s) = mixed (mixed d s) 0
  digest_after d (Comp s vs) = digest_after_all (mixed (mixed d s) (args_count vs)) vs

  pub digest_after_all : ℕ → Args ℕ → ℕ
  digest_after_all d Nil = d
  digest_after_all d (Cons v vs) = digest_after_all (digest_after d v) vs
