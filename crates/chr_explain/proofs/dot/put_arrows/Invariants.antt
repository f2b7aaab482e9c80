use Rattle.std.proofs.Common.{◌≡◌, ◌++◌, take}
use Rattle.std.specs.List.{flat_map}
use Rattle.chr_explain.specs.Graphs.{arrow}
use Rattle.chr_explain.proofs.dot.put_arrows.Given as goal

abbrev pub invariant-loop-label : goal.invariant-loop-label
invariant-loop-label g l = l.out.items ≡ l.fn.out.items ++ flat_map (arrow l.to l.end) (take l.label-index l.from)
