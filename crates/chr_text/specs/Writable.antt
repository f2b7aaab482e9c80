-- Atoms that a log can hold.
use Rattle.std.specs.Prelude.{ℕ, List, map}
use Rattle.std.specs.List.{AllByRecursion}
use Rattle.chr_value.specs.Atoms.{Value, Comp, Args, Nil, Cons, Atom, renamed, text_of, by_texts}
use Rattle.chr_value.specs.Naming.{Table}
use Rattle.chr_value.specs.Limits.{IsWithin}
use Rattle.chr_value.specs.Spelling.{FitsTerm, FitsAtom}
use Rattle.chr_rule.specs.Rules.{Term, Var, Given, Open, Terms, End, And, RuleAtom, BodyItem, Is, Add, Simpagation}

-- a log can hold these atoms, whose names the table has
abbrev pub AreWritable : Table → List (Atom ℕ) → Type 0
AreWritable table atoms = AllByRecursion (λ a. FitsAtom (by_texts table a)) atoms

-- an atom of a log can have this value
abbrev pub CanHold : Table → Value ℕ → Type 0
CanHold table t = FitsTerm (renamed (text_of table) t)

-- a term where v gives the value of each variable, and an atom of a rule
abbrev mutual
  pub term_with : (ℕ → Value ℕ) → Term ℕ → Value ℕ
  term_with v (Var x) = v x
  term_with v (Given t) = t
  term_with v (Open s ts) = Comp s (terms_with v ts)

  pub terms_with : (ℕ → Value ℕ) → Terms ℕ → Args ℕ
  terms_with v End = Nil
  terms_with v (And t ts) = Cons (term_with v t) (terms_with v ts)

abbrev pub atom_with : (ℕ → Value ℕ) → RuleAtom ℕ → Atom ℕ
atom_with v s = record { name = s.name; args = map (term_with v) s.args }

-- whatever values the variables have, a log can hold the atom that is added, if its arguments are
-- within the limits
abbrev pub AddsWritable : Table → BodyItem ℕ → Type 0
AddsWritable table (Is x e) = Unit {0}
AddsWritable table (Add s) =
    (v : ℕ → Value ℕ) → ((x : ℕ) → CanHold table (v x)) →
    AllByRecursion IsWithin (atom_with v s).args
    → FitsAtom (by_texts table (atom_with v s))

abbrev pub HasWritable : Table → List (Simpagation ℕ) → Type 0
HasWritable table rules = AllByRecursion (λ r. AllByRecursion (AddsWritable table) r.body) rules
