use Rattle.std.proofs.Common.{le_trans}
use Rattle.chr_session.proofs.Passed.{one_passed, skipped_to_end, skipped_byte, skipped_all}
use Rattle.chr_session.proofs.lines.skip_line.Goals as goal

pub returns-then-byte-eq10-clause-line : goal.returns-then-byte-eq10-clause-line
returns-then-byte-eq10-clause-line g c = skipped_to_end c.in-Some.byte c.loop-byte.invariant.line c.in_ok-byte.ensures.byte c.in-Some.is c.if-byte-eq10.true

pub loop-byte-preserved : goal.loop-byte-preserved
loop-byte-preserved g c = record {
  line = one_passed c.in-Some.byte (skipped_byte c.in-Some.byte c.if-byte-eq10.false) c.loop-byte.invariant.line c.in_ok-byte.ensures.byte c.in-Some.is;
  budget = le_trans c.in_ok-byte.ensures.within c.loop-byte.invariant.budget;
  cause = le_trans c.loop-byte.invariant.cause c.in_ok-byte.ensures.cause.later;
}

pub returns-clause-line : goal.returns-clause-line
returns-clause-line g c = skipped_all c.loop-byte.invariant.line c.in_ok-byte.ensures.byte c.in_default.is
