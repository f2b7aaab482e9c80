use Rattle.std.proofs.Common.{◌≡◌, ◌++◌, take}
use Rattle.std.specs.List.{flat_map}
use Rattle.chr_explain.specs.Reasons.{reason_of}
use Rattle.chr_explain.specs.Lines.{recorded_view}
use Rattle.chr_explain.specs.Graphs.{node}
use Rattle.chr_explain.proofs.explanation.put_nodes.Given as goal

abbrev pub invariant-loop-reason : goal.invariant-loop-reason
invariant-loop-reason g l = l.out.items ≡ l.fn.out.items ++ flat_map (λ r. node (recorded_view l.recorded) (reason_of r)) (take l.reason-index l.reasons)
