use Rattle.std.proofs.Common.{length, Some, IsSome, refl, sym, ap, subst, ◌∙◌, arith}
use Rattle.std.proofs.lemmas.List.{length-map}
use Rattle.std.specs.Arc.{arc_value}
use Rattle.chr_rule.specs.Rules.{rule_at}
use Rattle.chr_rule.specs.Occurrences.{IsOccurrence}
use Rattle.chr_rule.proofs.Index.{numbered_read}
use Rattle.chr_search.specs.Trials.{Space, older, IsPlanned}
use Rattle.chr_search.proofs.Descents.{plan_of, rule_low}
use Rattle.chr_search.proofs.Occurring.{come_to_last, plan_there, join_at_occurrence}
use Rattle.chr_search.proofs.search.Search.next_plan.Goals.{In-Some}
use Rattle.chr_search.proofs.search.Search.next_plan.Goals as goal

pub returns-in_default-clause-next : goal.returns-in_default-clause-next
returns-in_default-clause-next g c = λ store active ahead. come_to_last _ _ ahead.active c.requires.plans _ _ (c.in_default.ensures.next _ _ _ ahead.listed)

-- the rule of the program and its head that come next
occurs : (g : _) (c : In-Some g) → IsOccurrence c.args.program.now c.args.walk.now.heads.pred c.in-Some.rule c.in-Some.head
occurs g c = (c.in-Some.ensures.next _ _ _ c.requires.ahead.2.listed).0.occurs

pub bounds-rules-from : goal.bounds-rules-from
bounds-rules-from g c =
    let o = occurs g (goal.at.bounds-rules-from g c).In-Some in
    omega (arith, rule_low c.args.program.now c.in-Some.rule o.rule o.rule_is, c.from.ensures, ap length c.rules.ensures.rules, length-map c.rules.result.now arc_value)

pub plan_at-requires : goal.plan_at-requires
plan_at-requires g c =
    let there = plan_there (older c.args.program.now c.args.plans.now c.requires.ahead.0 c.requires.ahead.1) _ c.requires.plans _ _ (occurs g (goal.at.plan_at-requires g c).In-Some) in
    subst IsSome (sym there.1) refl

pub returns-clause-next : goal.returns-clause-next
returns-clause-next g c = λ store active ahead.
    let s : Space = older c.args.program.now c.args.plans.now store active in
    let o = occurs g (goal.at.returns-clause-next g c).In-Some in
    let low = rule_low c.args.program.now c.in-Some.rule o.rule o.rule_is in
    let read = numbered_read arc_value c.rules.result.now c.from.result c.index-rules-from.result (omega (arith, low, c.from.ensures)) (omega (arith, low, c.from.ensures, ap length c.rules.ensures.rules, length-map c.rules.result.now arc_value)) c.index-rules-from.is in
    let p : IsPlanned s c.in-Some.rule c.in-Some.head c.deref.result.now c.plan_at.result.now = record {
      rule_is = ap (λ n. rule_at c.args.program.now n) (sym c.from.ensures) ∙ ap (λ rules. rule_at rules c.from.result) (sym c.rules.ensures.rules) ∙ read ∙ ap (λ x. Some x) (sym c.deref.ensures);
      order_is = sym c.plan_at.ensures;
    } in
    join_at_occurrence s _ ahead.active c.requires.plans _ _ _ _ (c.in-Some.ensures.next _ _ _ ahead.listed).0 _ (record { planned = p; is = refl; plan = plan_of s c.requires.plans c.rules.ensures.valid c.in-Some.rule c.in-Some.head c.deref.result.now c.plan_at.result.now p })
