use Rattle.std.proofs.Common.{inr, ◌≡◌, ◌≢◌, ◌+◌, Some, None, true, false, drop, sym, ap, ◌∙◌, arith}
use Rattle.std.proofs.lemmas.List.{drop_all}
use Rattle.chr_search.specs.declared.judged.Verdict.TheVariants.{Whole}
use Rattle.chr_calls.specs.Turns.{turn_of}
use Rattle.chr_book.proofs.Sheets.{completes_as, completes_here, asked_as, none_ends, whole_ends, stopped, asked_last, one_reported, one_passed}
use Rattle.chr_book.proofs.book.Book.report_batch.Goals.{then-is_next+in_default-verdict, else-is_next, else-loop-judged-test, then-loop-judged-test+in_default, then-loop-judged-test+in-Some+then-is_next+in-Whole}
use Rattle.chr_book.proofs.book.Book.report_batch.Goals as goal

pub loop-judged-preserved : goal.loop-judged-preserved
loop-judged-preserved g c =
    let b = c.args.self.now in
    let seat = c.args.seat in
    let t = c.args.ticket in
    let js = c.args.judgements.now in
    let i = c.loop-judged.judged-index in
    let j = c.judged-item.result in
    let rest = drop (i + 1) js in
    let now = c.loop-judged.self in
    let n = c.loop-judged.reported in
    let few = c.loop-judged.invariant.few in
    let inv = completes_here seat t b now js i j n c.loop-judged-test.true c.judged-item.is c.loop-judged.invariant.completes in
    elim c.if-is_next.branch [
      | then-is_next+in_default-verdict w ↦
          let next = asked_as now seat t c.trial.result.now j.trial c.is_next.result (Some true) c.trial.ensures (c.in-Some.is ∙ ap Some w.if-is_next.true) c.is_next.ensures in
          let other : j.verdict ≢ Whole = λ whole. w.in_default-verdict.not-Whole (w.verdict.ensures.verdict ∙ whole) in
          record {
            few = (let more : c.if-is_next.reported ≡ n + 1 = w.reported-is in omega arith);
            completes = completes_as seat t b c.if-is_next.self w.move_on.new.self js rest (n + 1) c.if-is_next.reported w.self-is w.reported-is (one_reported seat t b now w.move_on.new.self js rest j n inv next other w.move_on.ensures);
          }
      | else-is_next w ↦
          let other = asked_as now seat t c.trial.result.now j.trial c.is_next.result (Some false) c.trial.ensures (c.in-Some.is ∙ ap Some w.if-is_next.false) c.is_next.ensures in
          record {
            few = (let same : c.if-is_next.reported ≡ n = w.reported-is in omega arith);
            completes = completes_as seat t b c.if-is_next.self now js rest n c.if-is_next.reported w.self-is w.reported-is (one_passed seat t b now js rest j n inv other);
          }
    ]

pub returns : goal.returns
returns g c =
    let b = c.args.self.now in
    let seat = c.args.seat in
    let t = c.args.ticket in
    let js = c.args.judgements.now in
    let i = c.loop-judged.judged-index in
    let now = c.loop-judged.self in
    let last = c.trial-2.new.self in
    let n = c.loop-judged.reported in
    let told = turn_of {Z = g.row.A.Denot} c.trial-2.result in
    elim c.loop-judged-test.branch [
      | else-loop-judged-test w ↦ asked_last seat t b now last js (drop i js) n told (drop_all i js w.loop-judged-test.false) c.loop-judged.invariant.completes c.trial-2.ensures
      | then-loop-judged-test+in_default w ↦
          let j = w.judged-item.result in
          let inv = completes_here seat t b now js i j n w.loop-judged-test.true w.judged-item.is c.loop-judged.invariant.completes in
          let none = asked_as now seat t w.trial.result.now j.trial w.is_next.result None w.trial.ensures w.in_default.is w.is_next.ensures in
          stopped seat t b now last js (drop (i + 1) js) j n told inv c.trial-2.ensures (none_ends now last seat t j told none c.trial-2.ensures)
      | then-loop-judged-test+in-Some+then-is_next+in-Whole w ↦
          let j = w.judged-item.result in
          let inv = completes_here seat t b now js i j n w.loop-judged-test.true w.judged-item.is c.loop-judged.invariant.completes in
          let next = asked_as now seat t w.trial.result.now j.trial w.is_next.result (Some true) w.trial.ensures (w.in-Some.is ∙ ap Some w.if-is_next.true) w.is_next.ensures in
          let whole : j.verdict ≡ Whole = sym w.verdict.ensures.verdict ∙ w.in-Whole.is in
          stopped seat t b now last js (drop (i + 1) js) j n told inv c.trial-2.ensures (whole_ends now last seat t j told next whole c.trial-2.ensures)
    ]

pub move_on-requires-clause-judged : goal.move_on-requires-clause-judged
move_on-requires-clause-judged g c = (c.args.seat, inr (asked_as c.loop-judged.self c.args.seat c.args.ticket c.trial.result.now c.judged-item.result.trial c.is_next.result (Some true) c.trial.ensures (c.in-Some.is ∙ ap Some c.if-is_next.true) c.is_next.ensures))
