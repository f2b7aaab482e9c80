use Rattle.std.proofs.Common.{IfSome, ap, subst, ◌∙◌}
use Rattle.chr_seats.specs.Accounts.{SeatState}
use Rattle.chr_seats.specs.Versions.{IsSearchOf}
use Rattle.chr_seats.proofs.Alike.{makes_in}
use Rattle.chr_seats.proofs.kept.Kept.hold_known.Goals as goal

pub returns-clause-hold : goal.returns-clause-hold
returns-clause-hold g c = makes_in c.known-known.ensures.same c.in_ok-answer.ensures.hold

pub returns-clause-known : goal.returns-clause-known
returns-clause-known g c =
    let seat = ap (λ (s : SeatState). s.number) c.seat.view_is ∙ c.in_ok-answer.ensures.hold.number in
    subst (λ s. IfSome c.known-known.result (λ k. IsSearchOf c.known-known.new.self s c.args.ticket k.version k.search)) seat c.known-known.ensures.known
