use Rattle.std.proofs.Common.{ap, ◌∙◌}
use Rattle.chr_calls.specs.Batches.{following_of}
use Rattle.chr_sheet.specs.Rows.{judgements_of}
use Rattle.chr_seats.specs.Accounts.{SeatState}
use Rattle.chr_seats.proofs.Alike.{all_following}
use Rattle.chr_seats.proofs.kept.Kept.report_sheet.Goals as goal

pub returns-clause-known : goal.returns-clause-known
returns-clause-known g c =
    let h = c.in_ok-report.ensures.hold in
    all_following (λ k. k.version) (λ k. k.search) c.known_after-known.result h.book c.args.seat.now.number c.args.ticket c.args.most (judgements_of c.judged.inside.judgements) c.in_ok-report.report.reported (following_of c.in_ok-report.report.following) h.next c.hold.new.self c.known_after-known.new.self c.seat.inside.number h.call h.is_next c.known_after-known.ensures.same (ap (λ (s : SeatState). s.number) c.seat.view_is ∙ h.number) c.known_after-known.ensures.known
