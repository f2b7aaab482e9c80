-- What a search for partners must have found none of.
use Rattle.std.specs.Prelude.{◌≡◌, ℕ, ◌<◌, ◌≤◌, true, List, ◌++◌}
use Rattle.chr_value.specs.Atoms.{Atom}
use Rattle.chr_model.specs.Abstract.{Rules}
use Rattle.chr_model.specs.Stores.{Store, among, Labelled}
use Rattle.chr_model.specs.Goals.{State, IsNumbered}

-- all labels lie below a bound
abbrev pub AllBelow : ℕ → List ℕ → Type 0
AllBelow bound ls = (l : ℕ) → among ls l ≡ true → l < bound

-- no labelled instance over the store has the label, and only labels below the bound
abbrev pub NoneBelow : Rules → Store → ℕ → ℕ → Type 0
NoneBelow I store bound l =
    (r : ℕ) (kept removed : List ℕ) (body : List (Atom ℕ)) → AllBelow bound (kept ++ removed) →
    among (kept ++ removed) l ≡ true → Labelled I store r kept removed body → ⊥

-- the label that was given last
pub record IsYoungest (ls : List ℕ) (y : ℕ) : Type 0 where
  pub there : among ls y ≡ true
  pub greatest : (l : ℕ) → among ls l ≡ true → l ≤ y

-- the youngest label of each labelled instance over the store is a numbered goal
abbrev pub YoungestAreGoals : Rules → State → Type 0
YoungestAreGoals I s =
    (r : ℕ) (kept removed : List ℕ) (body : List (Atom ℕ)) →
    Labelled I s.store r kept removed body → (y : ℕ) → IsYoungest (kept ++ removed) y →
    IsNumbered s y

-- no labelled instance over the store has the label as its youngest
abbrev pub NoneYoungest : Rules → Store → ℕ → Type 0
NoneYoungest I store l =
    (r : ℕ) (kept removed : List ℕ) (body : List (Atom ℕ)) → IsYoungest (kept ++ removed) l →
    Labelled I store r kept removed body → ⊥
