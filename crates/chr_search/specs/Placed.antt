-- What a placed label says, wherever its atom lies in memory.
use Rattle.std.specs.Prelude.{◌≡◌, List, length, take, map, Some}
use Rattle.std.specs.List.{AllByRecursion}
use Rattle.chr_model.specs.Stores.{Store, atom_at}
use Rattle.chr_plan.specs.declared.order.Step.{Step}
use Rattle.chr_search.specs.declared.trial.Placed.{Placed as CodePlaced}
use Rattle.chr_search.specs.Verdicts.{Placed}

abbrev pub placed_as : {Z : Type 0} → CodePlaced Z → Placed
placed_as p = record { head = p.head; label = p.label; atom = p.atom }

-- these stand at the heads of an order's first steps, and each label has its atom in the store
pub record ArePlacedIn (order : List Step) (store : Store) (placed : List Placed) : Type 0 where
  pub heads : map (λ p. p.head) placed ≡ take (length placed) (map (λ step. step.head) order)
  pub live : AllByRecursion (λ p. atom_at store p.label ≡ Some p.atom) placed
