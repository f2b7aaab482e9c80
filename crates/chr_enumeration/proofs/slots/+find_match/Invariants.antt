use Rattle.std.proofs.Common.{◌≡◌, take}
use Rattle.std.specs.List.{AllByRecursion}
use Rattle.chr_enumeration.specs.Picks.{picks}
use Rattle.chr_enumeration.proofs.Wholes.{left, Tried}
use Rattle.chr_enumeration.proofs.slots.+find_match.Given as goal

abbrev pub decreases-find_match : goal.decreases-find_match
decreases-find_match g l = left (picks l.slots.now)

abbrev pub invariant-loop-candidate : goal.invariant-loop-candidate
invariant-loop-candidate g l = record {
  same : picks l.slots ≡ picks l.fn.slots;
  binding : l.binding ≡ l.fn.binding;
  none : AllByRecursion (Tried l.fn.rule (g.P.Partners.store l.fn.partners) (picks l.fn.slots) l.place) (take l.candidate-index l.labels);
}
