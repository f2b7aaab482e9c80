use Rattle.chr_enumeration.specs.Partners.{HasAllBut}
use Rattle.chr_enumeration.specs.Picks.{MayBeHead}
use Rattle.chr_enumeration.proofs.slots.candidates.Given as goal

abbrev pub invariant-loop-index : goal.invariant-loop-index
invariant-loop-index g l = HasAllBut (g.P.Partners.own l.partners) (g.P.Partners.store l.partners) (MayBeHead l.rule l.number l.binding) l.shortest
