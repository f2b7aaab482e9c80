use Rattle.std.proofs.Common.{◌≡◌, drop}
use Rattle.chr_picture.specs.Pictures.{removal}
use Rattle.chr_picture.proofs.picture.removal.Given as goal

abbrev pub invariant-loop-firing : goal.invariant-loop-firing
invariant-loop-firing l = removal (drop l.firing-index l.firings) l.label ≡ removal l.firings l.label
