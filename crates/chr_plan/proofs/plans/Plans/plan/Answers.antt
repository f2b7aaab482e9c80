use Rattle.std.proofs.Common.{◌-◌, List, Some, Option, Bor, ap, map, ◌∙◌, arith}
use Rattle.std.specs.List.{slice_get}
use Rattle.std.specs.Option.{option_map}
use Rattle.chr_plan.specs.declared.order.Step.{Step}
use Rattle.chr_plan.proofs.Lists.{got_some, got_none, none_of_rule, none_of_head, none_past, plan_there}
use Rattle.chr_plan.proofs.Rows.{plans_length}
use Rattle.chr_plan.proofs.plans.Plans.plan.Goals as goal
use Rattle.chr_plan.proofs.plans.Plans.plan.Goals.{then-rule-eq0-via-then-rule-eq0, then-rule-eq0-via-else-rule-eq0+then-head-eq0, then-rule-eq0-via-else-rule-eq0+else-head-eq0+then-rule-len}

pub returns-then-rule-eq0 : goal.returns-then-rule-eq0
returns-then-rule-eq0 g c = elim c.then-rule-eq0.branch [
  | then-rule-eq0-via-then-rule-eq0 w ↦ none_of_rule c.args.self.now c.args.rule c.args.head (omega (arith, w.if-rule-eq0.true))
  | then-rule-eq0-via-else-rule-eq0+then-head-eq0 w ↦ none_of_head c.args.self.now c.args.rule c.args.head (omega (arith, w.if-head-eq0.true))
  | then-rule-eq0-via-else-rule-eq0+else-head-eq0+then-rule-len w ↦ none_past c.args.self.now c.args.rule c.args.head (omega (arith, w.if-rule-len.true, w.len.ensures, c.self.inside.counts.ok.0, plans_length _ _ _ c.self.view_is))
]

pub orders_at-requires : goal.orders_at-requires
orders_at-requires g c = omega (arith, c.len.ensures, c.self.inside.counts.ok.0, plans_length _ _ _ c.self.view_is)

pub returns-in_err-order : goal.returns-in_err-order
returns-in_err-order g c =
    plan_there c.args.self.now c.args.rule c.args.head (map (λ o. o.items) c.orders_at.result.now) _ (omega arith) (omega arith) c.orders_at.ensures
    (ap (λ (r : Option (Bor (List Step))). option_map (λ s. s.now) r) c.from_residual.ensures ∙ got_none (λ o. o.items) c.orders_at.result.now (c.from.result - 1) c.in_err-order.ensures.lookup.0 ∙ ap (λ n. slice_get (map (λ o. o.items) c.orders_at.result.now) (n - 1)) c.from.ensures)

pub returns : goal.returns
returns g c =
    plan_there c.args.self.now c.args.rule c.args.head (map (λ o. o.items) c.orders_at.result.now) (Some c.as_slice.result.now) (omega arith) (omega arith) c.orders_at.ensures
    (ap (λ (s : List Step). Some s) c.as_slice.ensures.value ∙ got_some (λ o. o.items) c.orders_at.result.now (c.from.result - 1) c.in_ok-order.order.now c.in_ok-order.ensures.lookup.0 c.in_ok-order.ensures.lookup.1 ∙ ap (λ n. slice_get (map (λ o. o.items) c.orders_at.result.now) (n - 1)) c.from.ensures)
