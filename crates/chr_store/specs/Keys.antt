-- What is asked of an atom, and the least label that matches it.
use Rattle.std.specs.Prelude.{◌≡◌, ℕ, zero, suc, ◌<◌, ◌≤◌, length, Option, Some, None, slice_get}
use Rattle.std.specs.Option.{MatchOption, option_map}
use Rattle.chr_value.specs.Atoms.{Value, Atom, said}
use Rattle.chr_value.specs.declared.atom.Pred.{Pred}
use Rattle.chr_value.specs.declared.value.ValueRef.{ValueRef}
use Rattle.chr_value.specs.Stores.{Store, atom_at}

-- the argument at a place, places being numbered from 1
abbrev pub arg_at : Atom ℕ → ℕ → Option (Value ℕ)
arg_at a zero = None
arg_at a (suc i) = slice_get a.args i

-- the atom has this name and so many arguments
abbrev pub HasPred : Pred → Atom ℕ → Type 0
HasPred pred a = (a.name ≡ pred.name.number) × (length a.args ≡ pred.arity)

-- and at the key's place the key's value
abbrev pub HasKey : Option (ℕ × Value ℕ) → Atom ℕ → Type 0
HasKey None a = Unit {0}
HasKey (Some key) a = arg_at a key.0 ≡ Some key.1

-- a place and a value that lies elsewhere
abbrev pub key_of : {A : Type 0} → Option (ℕ × ValueRef A) → Option (ℕ × Value ℕ)
key_of key = option_map (λ k. (k.0, said k.1)) key

-- what is asked for: a predicate, perhaps a place with a value, and the labels between which to
-- look
pub record Query : Type 0 where
  pub pred : Pred
  pub key : Option (ℕ × Value ℕ)
  pub after : ℕ
  pub below : ℕ

-- a label in the store whose atom is as asked
pub record Matches (store : Store) (q : Query) (l : ℕ) : Type 0 where
  pub atom : Atom ℕ
  pub there : atom_at store l ≡ Some atom
  pub pred : HasPred q.pred atom
  pub key : HasKey q.key atom
  pub over : q.after < l
  pub under : l < q.below

-- the least of them, or none where there is none
abbrev pub IsLeastMatch : Store → Query → Option ℕ → Type 0
IsLeastMatch store q found =
    MatchOption found ((l : ℕ) → Matches store q l → ⊥)
    (λ l. Matches store q l × ((m : ℕ) → Matches store q m → l ≤ m))
