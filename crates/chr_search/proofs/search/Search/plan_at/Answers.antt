use Rattle.std.proofs.Common.{◌≡◌, Some, refl, sym, ap, subst, ◌∙◌}
use Rattle.chr_rule.specs.Rules.{rule_at}
use Rattle.chr_plan.specs.Plans.{plan_at}
use Rattle.chr_search.specs.Trials.{Space, older, IsPlanned}
use Rattle.chr_search.proofs.Descents.{plan_of}
use Rattle.chr_search.proofs.search.Search.plan_at.Goals as goal

pub returns : goal.returns
returns g c = λ store active.
    let s : Space = older c.args.program.now c.args.plans.now store active in
    let rule = c.deref.result.now in
    let order = c.in_ok-order.order.now in
    let p : IsPlanned s c.args.rule c.args.head rule order = record {
      rule_is = subst (λ n. rule_at c.args.program.now n ≡ Some rule) c.from-2.ensures (sym c.in_ok-found.ensures.rule ∙ ap (λ x. Some x) (sym c.deref.ensures));
      order_is = subst (λ n. plan_at c.args.plans.now n c.args.head ≡ Some order) c.from.ensures (sym c.in_ok-order.ensures);
    } in
    record { planned = p; is = refl; plan = plan_of s c.requires c.rule.ensures.valid c.args.rule c.args.head rule order p }
