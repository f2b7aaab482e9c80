use Rattle.std.proofs.Common.{◌≡◌, [], map, take}
use Rattle.chr_search.specs.Joined.{join_of}
use Rattle.chr_search.specs.Partners.{IsReady}
use Rattle.chr_search.specs.Tree.{Grows}
use Rattle.chr_search.specs.Trials.{MayFollow}
use Rattle.chr_search.proofs.join.Join.narrow_by_all.Given as goal

abbrev pub invariant-loop-one : goal.invariant-loop-one
invariant-loop-one g l = record {
  labels : l.labels.items ≡ map (λ p. p.label) (take l.one-index l.placed);
  grows : Grows (MayFollow (join_of l.self)) [] l.labels.items;
  ready : IsReady (join_of l.self) l.labels.items l.binding;
}
