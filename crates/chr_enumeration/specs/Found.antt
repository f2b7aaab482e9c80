-- What a search for a labelled instance finds.
use Rattle.std.specs.Prelude.{◌≡◌, ℕ, true, List, ◌++◌, Some}
use Rattle.chr_value.specs.Atoms.{Atom}
use Rattle.chr_rule.specs.Rules.{Simpagation, rule_at}
use Rattle.chr_guard.specs.Matching.{IsInstanceUnder}
use Rattle.chr_model.specs.Stores.{Store, among, Carry, Labelled}
use Rattle.chr_model.specs.Programs.{Instances}
use Rattle.chr_enumeration.specs.declared.search.Found.{Found}

-- a labelled instance over the store that has the label, with the one binding of its rule's
-- variables
pub record IsFound {A : Type 0} (rules : List (Simpagation ℕ)) (store : Store) (label : ℕ)
    (f : Found A) : Type 0 where
  pub rule : Simpagation ℕ
  pub of_program : rule_at rules f.rule ≡ Some rule
  pub atoms : List (Atom ℕ)
  pub there : Carry store (f.kept.items ++ f.removed.items) atoms
  pub under : IsInstanceUnder rule atoms f.binding
  pub labelled : Labelled (Instances rules) store f.rule f.kept.items f.removed.items under.body
  pub has : among (f.kept.items ++ f.removed.items) label ≡ true
