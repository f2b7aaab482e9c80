-- Keys, by which atoms are found.
use Rattle.std.specs.Prelude.{◌≡◌, ℕ, zero, suc, ◌&&◌, Bool, true, false, List, length, Option, Some, None, pos, nat_eq, slice_get}
use Rattle.std.specs.Option.{option_map}
use Rattle.std.specs.Ordering.{int_eq}
use Rattle.std.specs.List.{list_any, position_from}
use Rattle.chr_value.specs.Atoms.{Value, Int, Sym, Comp, Atom}
use Rattle.chr_value.specs.declared.atom.Pred.{Pred}
use Rattle.chr_store.specs.KeyParts.{Key, KeyValue}
use Rattle.chr_store.specs.KeyParts as keyed
use Rattle.chr_store.specs.Digests.{digest_after}

-- places of predicates
abbrev pub Places : Type 0
Places = List (Pred × ℕ)

abbrev pub is_pred : Pred → Pred → Bool
is_pred p q = nat_eq p.name.number q.name.number && nat_eq p.arity q.arity

-- the predicate of a key
abbrev pub pred_of : Key → Pred
pred_of k = record { name = k.name; arity = k.arity }

-- the place of the predicate is one of these; the place 0, which is the predicate alone, always
-- counts as one
abbrev pub chosen : Places → Pred → ℕ → Bool
chosen places pred zero = true
chosen places pred (suc i) = list_any (λ p. is_pred p.0 pred && nat_eq p.1 (suc i)) places

-- the number of a chosen place, which the place 0 has none of
abbrev pub is_place : Pred → ℕ → Pred × ℕ → Bool
is_place pred place p = is_pred p.0 pred && nat_eq p.1 place

abbrev pub number_of : Places → Pred → ℕ → Option ℕ
number_of places pred zero = None
number_of places pred (suc i) = position_from (is_place pred (suc i)) 0 places

-- a number or a symbol
abbrev pub is_constant : Value ℕ → Bool
is_constant (Int z) = true
is_constant (Sym s) = true
is_constant (Comp s vs) = false

-- what stands for a value in keys: for a compound one its digest, which others may have too
abbrev pub key_value : Value ℕ → KeyValue
key_value (Int z) = keyed.Int z
key_value (Sym s) = keyed.Sym s
key_value (Comp s vs) = keyed.Digest (digest_after 0 (Comp s vs))

-- the key of a predicate alone
abbrev pub own_key : Pred → Key
own_key pred = record { name = pred.name; arity = pred.arity; place = 0; value = keyed.Int (pos 0) }

-- what stands for what an atom has at a place; at the place 0 that is the number 0
abbrev pub key_value_at : Atom ℕ → ℕ → Option KeyValue
key_value_at a zero = Some (keyed.Int (pos 0))
key_value_at a (suc i) = option_map key_value (slice_get a.args i)

-- the key of an atom at a place
pub record IsKeyAt (a : Atom ℕ) (n : ℕ) (k : Key) : Type 0 where
  pub name : k.name.number ≡ a.name
  pub arity : k.arity ≡ length a.args
  pub place : k.place ≡ n
  pub value : key_value_at a n ≡ Some k.value

-- whether the values of two keys are equal
abbrev pub same_value : KeyValue → KeyValue → Bool
same_value (keyed.Int y) (keyed.Int z) = int_eq y z
same_value (keyed.Int y) (keyed.Sym s) = false
same_value (keyed.Int y) (keyed.Digest d) = false
same_value (keyed.Sym r) (keyed.Int z) = false
same_value (keyed.Sym r) (keyed.Sym s) = nat_eq r s
same_value (keyed.Sym r) (keyed.Digest d) = false
same_value (keyed.Digest c) (keyed.Int z) = false
same_value (keyed.Digest c) (keyed.Sym s) = false
same_value (keyed.Digest c) (keyed.Digest d) = nat_eq c d

-- whether two keys are equal
abbrev pub same_key : Key → Key → Bool
same_key k l =
    (is_pred (pred_of k) (pred_of l) && nat_eq k.place l.place) && same_value k.value l.value

-- the key is that of a predicate alone
abbrev pub is_own : Key → Bool
is_own k = nat_eq k.place 0 && same_value k.value (keyed.Int (pos 0))

-- whether there is one, and it is this
abbrev pub is_value : KeyValue → Option KeyValue → Bool
is_value v None = false
is_value v (Some w) = same_value v w

-- an atom has a key
abbrev pub fits : Key → Atom ℕ → Bool
fits k a =
    (nat_eq k.name.number a.name && nat_eq k.arity (length a.args))
    && is_value k.value (key_value_at a k.place)
