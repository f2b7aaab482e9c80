use Rattle.std.proofs.Common.{◌≡◌, ◌++◌, take}
use Rattle.std.specs.List.{flat_map}
use Rattle.chr_explain.specs.Graphs.{escaped}
use Rattle.chr_explain.proofs.dot.put_all_escaped.Given as goal

abbrev pub invariant-loop-byte : goal.invariant-loop-byte
invariant-loop-byte g l = l.out.items ≡ l.fn.out.items ++ flat_map escaped (take l.byte-index l.bytes)
