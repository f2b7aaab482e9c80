use Rattle.std.proofs.Common.{◌≡◌, map, take, Some}
use Rattle.std.specs.List.{AllByRecursion}
use Rattle.chr_model.specs.Stores.{atom_at}
use Rattle.chr_search.proofs.Plans.{heads_in}
use Rattle.chr_search.proofs.trial.place_labels.Given as goal

abbrev pub invariant-loop-i : goal.invariant-loop-i
invariant-loop-i g l = record {
  heads : map (λ p. p.head) l.placed.items ≡ take l.i (heads_in l.order);
  labels : map (λ p. p.label) l.placed.items ≡ take l.i l.labels;
  live : AllByRecursion (λ p. atom_at l.store.entries p.label ≡ Some p.atom) l.placed.items;
}
