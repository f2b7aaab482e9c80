use Rattle.std.proofs.Common.{◌≡◌, ◌+◌, length, arith, sym, ◌∙◌, le_trans}
use Rattle.chr_session.proofs.Passed.{at_some, line_ends, one_passed, begun_byte, line_passed, line_open, grown, stays_short}
use Rattle.chr_session.proofs.lines.read_line.Goals as goal

pub returns-then-byte-eq10-clause-line : goal.returns-then-byte-eq10-clause-line
returns-then-byte-eq10-clause-line g c = line_ends c.in-Some.byte c.loop-byte.invariant.line c.in_ok-byte.ensures.byte c.in-Some.is c.if-byte-eq10.true c.loop-byte.invariant.short

pub returns-then-len-eq4097-clause-line : goal.returns-then-len-eq4097-clause-line
returns-then-len-eq4097-clause-line g c =
    let long : length c.loop-byte.line.items ≡ 4097 = sym c.loop-byte.line.ok.0 ∙ sym c.len.ensures ∙ c.if-len-eq4097.true in
    line_passed _ c.in_ok-found.found c.long_end.result c.in-Some.byte c.loop-byte.invariant.line c.in_ok-byte.ensures.byte c.in-Some.is c.if-byte-eq10.false long c.in_ok-found.ensures.line c.long_end.ensures

pub loop-byte-preserved : goal.loop-byte-preserved
loop-byte-preserved g c =
    let size : length c.push.new.out.items ≡ length c.loop-byte.line.items + 1 = grown _ _ c.push.ensures.items in
    record {
      line = one_passed c.in-Some.byte (begun_byte c.loop-byte.line.items c.push.new.out.items c.in-Some.byte c.if-byte-eq10.false c.push.ensures.items) c.loop-byte.invariant.line c.in_ok-byte.ensures.byte c.in-Some.is;
      short = stays_short c.loop-byte.invariant.short (λ e. c.if-len-eq4097.false (c.len.ensures ∙ c.loop-byte.line.ok.0 ∙ e)) size;
      room = le_trans c.loop-byte.invariant.room c.push.ensures.room;
      budget = omega (arith, c.loop-byte.invariant.budget, at_some c.in-Some.is c.in_ok-byte.ensures.budget, size);
      cause = le_trans c.loop-byte.invariant.cause c.in_ok-byte.ensures.cause.later;
    }

pub returns-clause-line : goal.returns-clause-line
returns-clause-line g c = line_open _ _ c.loop-byte.line.len c.is_empty.result c.open_end.result c.loop-byte.invariant.line c.in_ok-byte.ensures.byte c.in_default.is c.loop-byte.line.ok.0 c.is_empty.ensures c.open_end.ensures
