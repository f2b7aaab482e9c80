use Rattle.std.proofs.Common.{◌≡◌, take}
use Rattle.chr_value.proofs.atom.Atom.same.Given as goal

abbrev pub invariant-loop-index : goal.invariant-loop-index
invariant-loop-index g l = take l.index l.self.args ≡ take l.index l.other.args
