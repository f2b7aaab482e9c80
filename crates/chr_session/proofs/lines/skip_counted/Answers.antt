use Rattle.std.proofs.Common.{le_trans, arith}
use Rattle.chr_session.proofs.Passed.{one_passed, taken_byte, counted_end, counted_all}
use Rattle.chr_session.proofs.lines.skip_counted.Goals as goal

pub returns-in-None-clause-bytes : goal.returns-in-None-clause-bytes
returns-in-None-clause-bytes g c = counted_end c.args.count c.loop-taken-test.true c.loop-taken.invariant.bytes c.in_ok-next.ensures.byte c.in-None.is

pub loop-taken-preserved : goal.loop-taken-preserved
loop-taken-preserved g c = record {
  bytes = one_passed c.in-Some.field-0 (λ rest input tail t e. (taken_byte c.loop-taken._taken c.in-Some.field-0 rest input tail t e).0) c.loop-taken.invariant.bytes c.in_ok-next.ensures.byte c.in-Some.is;
  budget = le_trans c.in_ok-next.ensures.within c.loop-taken.invariant.budget;
  cause = le_trans c.loop-taken.invariant.cause c.in_ok-next.ensures.cause.later;
}

pub returns-clause-bytes : goal.returns-clause-bytes
returns-clause-bytes g c = counted_all c.args.count (omega (arith, c.loop-taken-test.false, c.loop-taken.auto._taken-end)) c.loop-taken.invariant.bytes
