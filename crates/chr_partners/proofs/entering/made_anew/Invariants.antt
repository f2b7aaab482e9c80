use Rattle.std.proofs.Common.{◌<◌, length, take}
use Rattle.chr_partners.proofs.Completing.{AreComplete}
use Rattle.chr_partners.proofs.entering.made_anew.Given as goal

-- the listed ones of the labels so far are at the homes of their keys
abbrev pub invariant-loop-label : goal.invariant-loop-label
invariant-loop-label g l = record {
  entered : AreComplete l.places l.atoms l.homes (take l.label-index l.labels);
  some : 0 < length l.homes;
}
