use Rattle.std.proofs.Common.{sym, ◌∙◌}
use Rattle.chr_rule.specs.Parts.{shape, comparison, member}
use Rattle.chr_rule.proofs.Judged.{few-limits, judged}
use Rattle.chr_rule.proofs.rule.variables_of.Goals as goal

pub returns-then-not-are_within_limits-clause-exact : goal.returns-then-not-are_within_limits-clause-exact
returns-then-not-are_within_limits-clause-exact g c = λ n rule.
    sym c.if-not-are_within_limits.true ∙ c.are_within_limits.ensures.1 (few-limits shape comparison member c.args.kept.now c.args.removed.now c.args.guard.now c.args.body.now n rule.limits)

pub returns-then-not-have_terms-clause-exact : goal.returns-then-not-have_terms-clause-exact
returns-then-not-have_terms-clause-exact g c = λ n rule.
    sym c.if-not-have_terms.true ∙ c.have_terms.ensures.1 (record { kept = rule.terms.kept; removed = rule.terms.removed; guard = rule.terms.guard; body = rule.terms.body })

pub returns-clause-rule : goal.returns-clause-rule
returns-clause-rule g c =
    judged shape comparison member c.args.kept.now c.args.removed.now c.args.guard.now c.args.body.now c.in_ok-variables.variables c.if-variables-gt-MOST_VARIABLES.false
    (c.are_within_limits.ensures.0 c.if-not-are_within_limits.false) (c.have_terms.ensures.0 c.if-not-have_terms.false) c.in_ok-variables.ensures
