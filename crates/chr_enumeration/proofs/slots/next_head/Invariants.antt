use Rattle.std.proofs.Common.{take, MatchOption}
use Rattle.chr_enumeration.specs.Picks.{picks, AllPicked, IsNext}
use Rattle.chr_enumeration.proofs.slots.next_head.Given as goal

abbrev pub invariant-loop-place : goal.invariant-loop-place
invariant-loop-place g l = MatchOption l.next (AllPicked (picks (take l.place l.slots))) (λ next. IsNext l.rule (g.P.Partners.own l.partners) (g.P.Partners.store l.partners) (picks l.slots) l.binding next.0 next.1.now)
