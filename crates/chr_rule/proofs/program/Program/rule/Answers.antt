use Rattle.std.proofs.Common.{sym, ap, ◌∙◌}
use Rattle.std.specs.Arc.{arc_value}
use Rattle.chr_rule.specs.Rules.{rule_at}
use Rattle.chr_rule.proofs.Index.{numbered_read}
use Rattle.chr_rule.proofs.program.Program.rule.Goals as goal

pub returns-clause-rule : goal.returns-clause-rule
returns-clause-rule g c =
    sym (numbered_read arc_value c.rules-rules.result.now c.args.number c.index-rules-number.result c.if-number-eq0.false c.if-rules-number.false c.index-rules-number.is)
    ∙ ap (λ rules. rule_at rules c.args.number) c.rules-rules.ensures.rules
