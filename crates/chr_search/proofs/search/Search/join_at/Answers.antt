use Rattle.std.proofs.Common.{sym, subst}
use Rattle.chr_store.specs.Views.{Seen}
use Rattle.chr_search.specs.Trials.{older, join_in}
use Rattle.chr_search.specs.PlanByPlan.{IsJoinOf}
use Rattle.chr_search.proofs.search.Search.join_at.Goals as goal

pub returns-in_default : goal.returns-in_default
returns-in_default g c = c.in_default.ensures c.args.view.now.store.entries c.args.view.now.active

pub returns : goal.returns
returns g c =
    let v = c.args.view.now in
    subst (λ (x : Seen). IsJoinOf (older c.args.program.now c.args.plans.now v.store.entries v.active) c.args.rule c.args.head (join_in (older c.args.program.now c.args.plans.now x.store.entries x.active) c.in-Some.found.now c.in-Some.order.now)) (sym c.copy.ensures) (c.in-Some.ensures v.store.entries v.active)
