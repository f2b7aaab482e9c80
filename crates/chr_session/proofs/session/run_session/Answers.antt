use Rattle.std.proofs.Common.{le_refl, le_trans}
use Rattle.std.proofs.lemmas.Result.{err_from_is_err_and}
use Rattle.chr_session.specs.Commands.{answer_of}
use Rattle.chr_session.specs.Spelling.{received_of}
use Rattle.chr_session.proofs.Causes.{no_cause, failed_either, failed_other}
use Rattle.chr_session.proofs.Underway.{comes_first, session_begins, session_goes_on, session_ends, session_unread, session_unwritten, session_stopped, not_ended}
use Rattle.chr_session.proofs.session.run_session.Goals as goal

pub session-init : goal.session-init
session-init g c = record {
  underway = λ input a. session_begins g.D.Desk.step c.args.desk.now (g.W.Sink.taken c.args.writer.now) input (comes_first input c.new-buffer.ensures a);
  line_room = c.requires.line_room;
  text_room = c.requires.text_room;
  read_cause = le_refl _;
  write_cause = le_refl _;
}

pub session-smaller : goal.session-smaller
session-smaller g c = c.in_ok-received.ensures.budget (not_ended c.in_ok-received.received c.read_command.new.text.items c.in_default.not-Ended)

pub returns-in_err-received-clause-broken : goal.returns-in_err-received-clause-broken
returns-in_err-received-clause-broken g c =
    let p = err_from_is_err_and c.from_residual.result c.from_residual.ensures.1 in
    rw (p.1) (λ input a. session_unread (c.session.invariant.underway input a))

pub returns-in_err-received-clause-unread : goal.returns-in_err-received-clause-unread
returns-in_err-received-clause-unread g c =
    let p = err_from_is_err_and c.from_residual.result c.from_residual.ensures.1 in
    rw (p.1) (λ low same input a. session_stopped (c.session.invariant.underway input a))

pub returns-in_err-received-clause-cause : goal.returns-in_err-received-clause-cause
returns-in_err-received-clause-cause g c = failed_either _ c.session.invariant.read_cause c.session.invariant.write_cause c.in_err-received.ensures.cause

pub returns-in_err-write_answer-clause-broken : goal.returns-in_err-write_answer-clause-broken
returns-in_err-write_answer-clause-broken g c =
    let p = err_from_is_err_and c.from_residual-in_err-write_answer.result c.from_residual-in_err-write_answer.ensures.1 in
    rw (p.1) (λ input a. session_unwritten (received_of c.in_ok-received.received c.read_command.new.text.items) (answer_of c.answer-reply.result) c.in_ok-received.ensures.received (rw c.deref.ensures.value at c.answer-reply.ensures) c.in_err-write_answer.ensures.part (c.session.invariant.underway input a))

pub returns-in_err-write_answer-clause-unread : goal.returns-in_err-write_answer-clause-unread
returns-in_err-write_answer-clause-unread g c =
    let p = err_from_is_err_and c.from_residual-in_err-write_answer.result c.from_residual-in_err-write_answer.ensures.1 in
    rw (p.1) (λ low same input a. absurd (no_cause c.session.invariant.write_cause c.in_err-write_answer.ensures.cause low same))

pub returns-in_err-write_answer-clause-cause : goal.returns-in_err-write_answer-clause-cause
returns-in_err-write_answer-clause-cause g c = failed_other _ (le_trans c.session.invariant.read_cause c.in_ok-received.ensures.cause.later) c.session.invariant.write_cause c.in_err-write_answer.ensures.cause

pub returns-in-Ended-clause-served : goal.returns-in-Ended-clause-served
returns-in-Ended-clause-served g c = λ input a.
    let h = rw c.in-Ended.is at c.in_ok-received.ensures.received in
    let s = rw c.in-Ended.is at (rw c.deref.ensures.value at c.answer-reply.ensures) in
    session_ends c.in-Ended.how (answer_of c.answer-reply.result) h s c.in_ok-write_answer.ensures.whole (c.session.invariant.underway input a)

pub session-preserved : goal.session-preserved
session-preserved g c =
    record {
      underway = λ input a. session_goes_on (received_of c.in_ok-received.received c.read_command.new.text.items) (answer_of c.answer-reply.result) (not_ended c.in_ok-received.received c.read_command.new.text.items c.in_default.not-Ended) c.in_ok-received.ensures.received (rw c.deref.ensures.value at c.answer-reply.ensures) c.in_ok-write_answer.ensures.whole (c.session.invariant.underway input a);
      line_room = c.in_ok-write_answer.ensures.room;
      text_room = c.in_ok-received.ensures.text_room;
      read_cause = le_trans c.session.invariant.read_cause c.in_ok-received.ensures.cause.later;
      write_cause = le_trans c.session.invariant.write_cause c.in_ok-write_answer.ensures.cause.later;
    }
