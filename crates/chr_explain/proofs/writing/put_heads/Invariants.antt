use Rattle.std.proofs.Common.{◌≡◌, ◌++◌, take}
use Rattle.std.specs.List.{flat_map}
use Rattle.chr_explain.specs.Lines.{head_words}
use Rattle.chr_explain.proofs.writing.put_heads.Given as goal

abbrev pub invariant-loop-label : goal.invariant-loop-label
invariant-loop-label g l = l.out.items ≡ l.fn.out.items ++ flat_map head_words (take l.label-index l.labels)
