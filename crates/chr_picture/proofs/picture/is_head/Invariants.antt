use Rattle.std.proofs.Common.{◌≡◌, drop}
use Rattle.chr_picture.specs.Pictures.{is_head}
use Rattle.chr_picture.proofs.picture.is_head.Given as goal

abbrev pub invariant-loop-firing : goal.invariant-loop-firing
invariant-loop-firing l = is_head (drop l.firing-index l.firings) l.label ≡ is_head l.firings l.label
