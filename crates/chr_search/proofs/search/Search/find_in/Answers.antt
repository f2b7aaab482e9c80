use Rattle.std.proofs.Common.{ℕ, List, [], refl, sym, subst}
use Rattle.chr_search.specs.Tree.{Least, NoneBeyond}
use Rattle.chr_search.specs.Trials.{Join, older, join_in, MayFollow}
use Rattle.chr_search.specs.PlanByPlan.{IsJoinAt, IsNextJoin}
use Rattle.chr_search.proofs.PlanByPlan.{HasJoin, joined, come_on, come_to_end, has_join, found_at_join, on_from_join}
use Rattle.chr_search.proofs.Occurring.{head_fits, nearer}
use Rattle.chr_search.proofs.search.Search.find_in.Goals.{After-copy-view}
use Rattle.chr_search.proofs.search.Search.find_in.Goals as goal

-- the next plan, and its join in the view
next : (g : _) (c : After-copy-view g) → IsNextJoin (older c.args.program.now c.args.plans.now c.args.view.now.store.entries c.args.self.now.label) c.loop-rule.walk.rule c.loop-rule.walk.head c.next_plan.new.walk.rule c.next_plan.new.walk.head (join_in (older c.args.program.now c.args.plans.now c.args.view.now.store.entries c.args.self.now.label) c.in-Some.rule.now c.in-Some.order.now)
next g c = c.in-Some.ensures.next _ _ c.loop-rule.invariant.ahead

abbrev join : (g : _) (c : After-copy-view g) → Join
join g c = join_in (older c.args.program.now c.args.plans.now c.copy-view.result.store.entries c.copy-view.result.active) c.in-Some.rule.now c.in-Some.order.now

here : (g : _) (c : After-copy-view g) → HasJoin (older c.args.program.now c.args.plans.now c.args.view.now.store.entries c.args.self.now.label) c.args.self.now.place c.next_plan.new.walk.rule c.next_plan.new.walk.head (join g c)
here g c =
    has_join _ _ _ _ _ (come_on _ _ _ _ _ _ c.loop-rule.invariant.come (next g c).come)
    (subst (IsJoinAt _ _ _) (sym (joined c.args.program.now c.args.plans.now c.copy-view.result c.args.view.now c.args.self.now.label c.in-Some.rule.now c.in-Some.order.now c.copy-view.ensures c.requires.active)) (next g c).join)
    c.requires.plans c.args.view.now.store refl c.active-given.ensures.labelled

pub invariant_of-found : goal.invariant_of-found
invariant_of-found g c = let makes = (here g (goal.at.invariant_of-found g c).After-copy-view).makes in (makes.number, makes.head)

pub overflow_add-walk : goal.overflow_add-walk
overflow_add-walk g c = head_fits _ _ _ _ _ (here g (goal.at.overflow_add-walk g c).After-copy-view)

pub loop-rule-smaller : goal.loop-rule-smaller
loop-rule-smaller g c =
    let at = (goal.at.loop-rule-smaller g c).After-copy-view in
    nearer _ _ _ _ _ _ _ (next g at).come.later (here g at)

pub loop-rule-preserved : goal.loop-rule-preserved
loop-rule-preserved g c =
    let at = (goal.at.loop-rule-preserved g c).After-copy-view in
    record {
      come = on_from_join _ _ _ _ _ (here g at) (subst (λ (ls : List ℕ). NoneBeyond (MayFollow (join g at)) 1 [] ls) c.labels_in.ensures c.if-find.ensures);
      found = c.loop-rule.invariant.found;
      ahead = c.in-Some.ensures.ahead _ _ c.loop-rule.invariant.ahead;
    }

pub returns-then-find : goal.returns-then-find
returns-then-find g c =
    let at = (goal.at.returns-then-find g c).After-copy-view in
    found_at_join _ _ _ _ _ (here g at) c.find.new.labels.items (subst (λ (ls : List ℕ). Least (MayFollow (join g at)) 1 [] ls c.find.new.labels.items) c.labels_in.ensures c.if-find.ensures)

pub returns : goal.returns
returns g c = come_to_end _ _ _ _ c.loop-rule.invariant.come (c.in_default.ensures.next _ _ c.loop-rule.invariant.ahead)

pub loop-rule-init : goal.loop-rule-init
loop-rule-init g c = record { found = c.found.invariant; come = c.first_walk-walk.ensures.come _ refl; ahead = c.first_walk-walk.ensures.ahead _ refl c.requires.atom }
