-- What a picture of a part of a log has. The entries of the part are its columns, counted from 0.
use Rattle.std.specs.Prelude.{ℕ, ◌+◌, ◌==◌, ◌||◌, Bool, false, if◌then◌else◌, Option, Some, None, List, [], ◌∷◌, map}
use Rattle.chr_log.specs.Events.{Event, Post, Activate, Fire, Drop}
use Rattle.chr_model.specs.Stores.{among}
use Rattle.chr_picture.specs.declared.picture.Row.{Row}
use Rattle.chr_picture.specs.declared.picture.Firing.{Firing as CodeFiring}

-- a firing: its column, the number of its rule, and the labels of its kept and of its removed heads
pub record Firing : Type 0 where
  pub column : ℕ
  pub rule : ℕ
  pub kept : List ℕ
  pub removed : List ℕ

abbrev pub firing_of : CodeFiring → Firing
firing_of f =
    record { column = f.column; rule = f.rule; kept = f.kept.items; removed = f.removed.items }

abbrev pub firings_of : List CodeFiring → List Firing
firings_of fs = map firing_of fs

-- the firings of events, of which the first is column k
abbrev pub firings_in : ℕ → List (Event ℕ) → List Firing
firings_in k [] = []
firings_in k (Post t a ∷ es) = firings_in (k + 1) es
firings_in k (Activate t l ∷ es) = firings_in (k + 1) es
firings_in k (Fire t r kept removed ∷ es) =
    record { column = k; rule = r; kept = kept; removed = removed } ∷ firings_in (k + 1) es
firings_in k (Drop t ∷ es) = firings_in (k + 1) es

-- the labels that events give, each with its column
abbrev pub given_in : ℕ → List (Event ℕ) → List (ℕ × Option ℕ)
given_in k [] = []
given_in k (Post t a ∷ es) = given_in (k + 1) es
given_in k (Activate t l ∷ es) = (l, Some k) ∷ given_in (k + 1) es
given_in k (Fire t r kept removed ∷ es) = given_in (k + 1) es
given_in k (Drop t ∷ es) = given_in (k + 1) es

-- whether the label is a head of one of the firings
abbrev pub is_head : List CodeFiring → ℕ → Bool
is_head [] l = false
is_head (f ∷ fs) l = among f.kept.items l || (among f.removed.items l || is_head fs l)

-- the column that removes a label: that of the first firing which does
abbrev pub removal : List CodeFiring → ℕ → Option ℕ
removal [] l = None
removal (f ∷ fs) l = if among f.removed.items l then Some f.column else removal fs l

-- the place of the row of a label, which is past the last one where there is none
abbrev pub place_of : {Z : Type 0} → List (Row Z) → ℕ → ℕ
place_of [] l = 0
place_of (r ∷ rs) l = if r.label == l then 0 else place_of rs l + 1
