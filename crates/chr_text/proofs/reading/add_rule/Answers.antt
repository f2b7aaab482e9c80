use Rattle.std.proofs.Common.{arith}
use Rattle.std.proofs.lemmas.Bool.{leb-false}
use Rattle.chr_grammar.specs.Views as by_texts
use Rattle.chr_limits.proofs.Standing.{stands}
use Rattle.chr_text.proofs.Judged.{rule_fits}
use Rattle.chr_text.proofs.reading.add_rule.Goals as goal

pub number_rule-requires : goal.number_rule-requires
number_rule-requires g c = rule_fits _ (by_texts.raw_rule {Z = g.row.A.Denot} c.args.rule.now) c.in_ok-judge_rule.field-0 c.in_ok-judge_rule.ensures.judged c.requires

pub push-requires : goal.push-requires
push-requires g c =
    let room = leb-false 256 c.len.result (stands _ (by_texts.raw_rule {Z = g.row.A.Denot} c.args.rule.now) c.in_ok-judge_rule.ensures.judged).0 in
    omega (arith, room, c.len.ensures.count)
