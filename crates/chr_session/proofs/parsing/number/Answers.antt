use Rattle.std.proofs.Common.{◌<◌, ◌≤◌, length, arith}
use Rattle.std.proofs.lemmas.Grind.{common_steps}
use Rattle.chr_session.proofs.Words.{answer_some}
use Rattle.chr_session.proofs.parsing.number.Goals as goal

pub returns : goal.returns
returns c =
    let some : 0 < length c.args.text.now = grind (arith, common_steps, c.if-is_empty.false, c.if-is_empty.ensures) in
    let few : length c.args.text.now ≤ 10 = omega (arith, c.if-text-gt10.false) in
    answer_some _ c.loop-rest.rest.now c.loop-rest.n some few c.loop-rest.invariant.same (omega (arith, c.in_default.len_below))
