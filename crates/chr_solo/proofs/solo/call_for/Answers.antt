use Rattle.std.proofs.Common.{refl, sym, ◌∙◌, ap, Err, subst}
use Rattle.chr_calls.specs.Tickets.{IsClaimable, state_of}
use Rattle.chr_calls.specs.Calls.{Claims}
use Rattle.chr_solo.specs.Solo.{claims}
use Rattle.chr_solo.proofs.SoloRuns.{open_claimable}
use Rattle.chr_solo.proofs.solo.call_for.Goals as goal

pub returns-in-Ok : goal.returns-in-Ok
returns-in-Ok g c =
    record { ok = claims c.in-Ok.field-0 (subst (λ r. Claims c.args.book.now c.args.seat c.args.ticket r c.claim.new.self) c.in-Ok.is c.claim.ensures) refl; err = tt }

pub unreachable-requires : goal.unreachable-requires
unreachable-requires g c =
    let told = subst (λ r. Claims c.args.book.now c.args.seat c.args.ticket r c.claim.new.self) (c.in-Err-NotWaiting.is ∙ ap Err c.in-Err-NotWaiting.field-0-is) c.claim.ensures in
    told.1 (subst IsClaimable (sym told.0) (open_claimable c.args.seat (state_of c.args.book.now.tickets c.args.ticket) c.requires.free (λ holder held. c.in_default.not-Held holder (c.state.ensures ∙ held))))
