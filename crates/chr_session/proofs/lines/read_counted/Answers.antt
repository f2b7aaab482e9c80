use Rattle.std.proofs.Common.{◌≡◌, ◌+◌, ◌∙◌, arith, ap, le_trans}
use Rattle.std.proofs.lemmas.Bool.{false≢true}
use Rattle.chr_session.proofs.Passed.{counted_end, counted_all, kept_taken, kept_byte, kept_all, one_passed, grown}
use Rattle.chr_session.proofs.lines.read_counted.Goals as goal

pub returns-in-None-clause-bytes : goal.returns-in-None-clause-bytes
returns-in-None-clause-bytes g c = λ input a. (counted_end c.args.count c.loop-taken-test.true (kept_taken c.loop-taken.invariant.bytes) c.in_ok-next.ensures.byte c.in-None.is input a, λ e. absurd (false≢true e))

pub loop-taken-preserved : goal.loop-taken-preserved
loop-taken-preserved g c = record {
  bytes = one_passed c.in-Some.byte (kept_byte c.loop-taken._taken c.in-Some.byte c.loop-taken.bytes.items c.push.new.out.items c.push.ensures.items) c.loop-taken.invariant.bytes c.in_ok-next.ensures.byte c.in-Some.is;
  count = grown c.loop-taken.bytes.items c.in-Some.byte c.push.ensures.items ∙ ap (λ k. k + 1) c.loop-taken.invariant.count;
  room = le_trans c.loop-taken.invariant.room c.push.ensures.room;
  budget = le_trans c.in_ok-next.ensures.within c.loop-taken.invariant.budget;
  cause = le_trans c.loop-taken.invariant.cause c.in_ok-next.ensures.cause.later;
}

pub returns-clause-bytes : goal.returns-clause-bytes
returns-clause-bytes g c =
    let all : c.loop-taken._taken ≡ c.args.count = omega (arith, c.loop-taken-test.false, c.loop-taken.auto._taken-end) in
    λ input a. (counted_all c.args.count all (kept_taken c.loop-taken.invariant.bytes) input a, λ _. kept_all c.args.count all c.loop-taken.invariant.bytes input a)
