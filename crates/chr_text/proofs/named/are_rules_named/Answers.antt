use Rattle.std.proofs.Common.{rules, IsTrue, subst, sym}
use Rattle.std.specs.List.{AllByRecursion}
use Rattle.std.specs.Arc.{arc_value}
use Rattle.chr_text.specs.Named.{RuleIsNamed}
use Rattle.chr_text.proofs.Lists.{all_at}
use Rattle.chr_text.proofs.named.are_rules_named.Goals as goal

pub returns-then-not-is_rule_named : goal.returns-then-not-is_rule_named
returns-then-not-is_rule_named g c =
    let all = subst (AllByRecursion (RuleIsNamed c.args.count)) (sym c.rules-rule-items.ensures.rules) in
    let one = subst (RuleIsNamed c.args.count) (sym c.deref.ensures) in
    let at : AllByRecursion (RuleIsNamed c.args.count) c.args.program.now → IsTrue c.is_rule_named.result
    = λ h. c.is_rule_named.ensures.1 (one (subst (λ x. RuleIsNamed c.args.count (arc_value x)) (sym c.rule-item.is) (all_at (RuleIsNamed c.args.count) arc_value c.rules-rule-items.result.now c.loop-rule.rule-index c.rule-item.result (all h) c.loop-rule-test.true))) in
    let k = c.if-not-is_rule_named.true in
    search rules
