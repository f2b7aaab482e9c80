use Rattle.std.proofs.Common.{◌≡◌, ◌+◌, drop}
use Rattle.chr_picture.specs.Pictures.{place_of}
use Rattle.chr_picture.proofs.picture.place_of.Given as goal

abbrev pub invariant-loop-place : goal.invariant-loop-place
invariant-loop-place g l = l.place + place_of (drop l.place l.rows) l.label ≡ place_of l.rows l.label
