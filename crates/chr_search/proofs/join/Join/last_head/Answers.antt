use Rattle.std.proofs.Common.{◌≡◌, ◌+◌, length, Some, None, IsSome, slice_get, sym, subst, ◌∙◌, arith, length-append}
use Rattle.std.proofs.lemmas.Bool.Decides.{nat_tests}
use Rattle.chr_index.proofs.Slots.{get_there}
use Rattle.chr_rule.specs.Parts.{shape}
use Rattle.chr_rule.specs.Rules.{head_at}
use Rattle.chr_search.specs.Joined.{join_of}
use Rattle.chr_plan.specs.Orders.{heads_of}
use Rattle.chr_search.proofs.Plans.{order_of_plan}
use Rattle.chr_search.proofs.Asking.{past_get, step_head}
use Rattle.chr_search.proofs.join.Join.last_head.Goals.{In_ok-step}
use Rattle.chr_search.proofs.join.Join.last_head.Goals as goal

-- the next step
next : (g : _) (c : In_ok-step g) → slice_get c.args.self.now.order.now (length c.args.labels.now) ≡ Some c.in_ok-step.step.now
next g c = get_there c.args.self.now.order.now (length c.args.labels.now) c.in_ok-step.step.now c.in_ok-step.ensures.lookup.0 c.in_ok-step.ensures.lookup.1

pub returns-in_err-step : goal.returns-in_err-step
returns-in_err-step g c = rw c.from_residual.ensures (λ x m. let z : None ≡ Some m.step = sym (past_get c.args.self.now.order.now (length c.args.labels.now) c.in_err-step.ensures.lookup.0) ∙ m.step_is in cc)

pub head_at-head-requires : goal.head_at-head-requires
head_at-head-requires g c =
    let step = c.in_ok-step.step.now in
    subst (λ n. IsSome (head_at c.args.self.now.rule.now n)) (sym c.from.ensures) (step_head (join_of c.args.self.now) c.requires.plan (length c.args.labels.now) step (next g (goal.at.head_at-head-requires g c).In_ok-step))

pub returns : goal.returns
returns g c =
    let rule = c.args.self.now.rule.now in
    let plan = c.requires.plan in
    let count : length c.args.self.now.order.now ≡ length (heads_of rule) = (order_of_plan (heads_of rule) plan.head c.args.self.now.order.now plan.from plan.to plan.plan).count in
    let all : length (heads_of rule) ≡ length rule.kept + length rule.removed = length-append rule.kept rule.removed in
    record {
      step_is = next g (goal.at.returns g c).In_ok-step;
      head_is = subst (λ n. head_at rule n ≡ Some (shape c.head_at-head.result.now)) c.from.ensures (sym c.head_at-head.ensures.head);
      last = (λ t. grind (arith, nat_tests), λ h. grind (arith, nat_tests));
    }
