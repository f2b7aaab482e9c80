use Rattle.chr_partners.specs.Homes.{HasLive}
use Rattle.chr_partners.proofs.entering.leave.Given as goal

abbrev pub invariant-loop-place : goal.invariant-loop-place
invariant-loop-place g l = HasLive l.atoms.store l.fn.homes l.homes
