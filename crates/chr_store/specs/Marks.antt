-- A table of marks, which tells the places of predicates.
use Rattle.std.specs.Prelude.{◌≡◌, ℕ, zero, suc, ◌+◌, ◌*◌, ◌<◌, ◌&&◌, if◌then◌else◌, List, [], ◌∷◌, Option, Some, None, nat_eq}
use Rattle.std.specs.List.{position_from}
use Rattle.std.specs.Option.{option_or}
use Rattle.chr_value.specs.declared.atom.Pred.{Pred}
use Rattle.chr_store.specs.Index.{Places, is_pred, number_of}

-- the index of the mark of a place
pub record IsMarkOf (pred : Pred) (place i : ℕ) : Type 0 where
  pub low : pred.name.number < 1024
  pub few : pred.arity < 9
  pub within : place < 9
  pub index : i ≡ pred.name.number * 81 + pred.arity * 9 + place

-- the mark at an index, past the end none
abbrev pub mark_at : List (Option ℕ) → ℕ → Option ℕ
mark_at [] i = None
mark_at (m ∷ ms) zero = m
mark_at (m ∷ ms) (suc i) = mark_at ms i

-- marks are as before, but for that of the place, which is set where it was none
abbrev pub IsMarked : Pred → ℕ → ℕ → List (Option ℕ) → List (Option ℕ) → Type 0
IsMarked pred place number old new =
    (p : Pred) (n i : ℕ) → IsMarkOf p n i →
    mark_at new i
    ≡ option_or (mark_at old i) (if is_pred pred p && nat_eq place n then Some number else None)

-- the number of a place, and at the place 0 that of the predicate's first one
abbrev pub first_of : Places → Pred → ℕ → Option ℕ
first_of places pred zero = position_from (λ p. is_pred p.0 pred) 0 places
first_of places pred (suc i) = number_of places pred (suc i)

-- marks tell the numbers of places
abbrev pub AreMarks : List (Option ℕ) → Places → Type 0
AreMarks marks places =
    (pred : Pred) (place i : ℕ) → IsMarkOf pred place i →
    mark_at marks i ≡ first_of places pred place
