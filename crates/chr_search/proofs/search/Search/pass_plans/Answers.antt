use Rattle.std.proofs.Common.{◌≡◌, ◌+◌, ◌-◌, ℕ, List, [], ◌∷◌, refl, sym, ap, ap₂, subst, ◌∙◌, arith}
use Rattle.arrayvec.specs.ArrayVec.{ArrayVec}
use Rattle.chr_store.specs.Views.{Seen}
use Rattle.chr_search.specs.declared.passing.End.{End}
use Rattle.chr_search.specs.declared.passing.End.TheVariants as ends
use Rattle.chr_search.specs.Reach.{SearchState}
use Rattle.chr_search.specs.Trials.{older, join_in}
use Rattle.chr_search.specs.Joined.{join_of}
use Rattle.chr_search.specs.Passing.{PassesIn, EndsIn}
use Rattle.chr_search.specs.PlanByPlan.{IsJoinAt, IsNextJoin, IsThenAfter, labels_in}
use Rattle.chr_search.proofs.Positions.{after_itself}
use Rattle.chr_search.proofs.PlanByPlan.{HasJoin, HasReached, joined, come_to_own, come_to_end, has_join, trials_at, gone_at, reached_first, reached_on, reached_past}
use Rattle.chr_search.proofs.Ending.{none_in, whole_full, none_left_after, comes_after_plan}
use Rattle.chr_search.proofs.Occurring.{head_fits, nearer}
use Rattle.chr_search.proofs.search.Search.pass_plans.Goals.{In_default-then_after, In-Some-next_plan, After-pass_first-passed}
use Rattle.chr_search.proofs.search.Search.pass_plans.Goals as goal

-- the join at which the search stands
here : (g : _) (c : After-pass_first-passed g) → HasJoin (older c.args.program.now c.args.plans.now c.args.view.now.store.entries c.args.self.now.label) c.loop-then.invariant.reached.at c.loop-then.walk.rule c.loop-then.walk.head (join_of c.loop-then.join)
here g c =
    let i = c.loop-then.invariant in
    has_join _ _ _ _ _ i.reached.come i.join c.requires.plans c.args.view.now.store refl c.active-given.ensures.labelled

-- its trials that are passed over
passes : (g : _) (c : After-pass_first-passed g) → PassesIn (join_of c.loop-then.join) c.pass_first-passed.result.count (labels_in c.loop-then.invariant.reached.at c.loop-then.walk.rule c.loop-then.walk.head) c.pass_first-passed.ensures.passes.after
passes g c =
    let walk = c.loop-then.walk in
    let p = c.pass_first-passed.ensures.passes in
    let none = sym (none_in c.args.walk.now.rule c.args.walk.now.head walk.rule walk.head) ∙ c.loop-then.invariant.reached.same walk.rule walk.head (after_itself (walk.rule ∷ walk.head ∷ [])) in
    subst (λ ls. PassesIn (join_of c.loop-then.join) c.pass_first-passed.result.count ls p.after) none p.passes

-- where none of them is left the search stands where it stood, and goes on at the next head
left : (g : _) (c : In_default-then_after g) → (c.pass_first-passed.result.end ≡ ends.NoneLeft) × (c.then_after.new.self ≡ c.args.self.now)
left g c =
    let none = none_left_after _ _ _ _ _ _ c.then_after.new.instance _ _ c.then_after.ensures.then c.in_default-then_after.is in
    let made : ℕ → List ℕ → SearchState = λ l p. record { label = l; place = p } in
    (none.0, ap₂ made c.then_after.ensures.label none.1 ∙ c.loop-then.invariant.stays)

on : (g : _) (c : After-pass_first-passed g) → c.pass_first-passed.result.end ≡ ends.NoneLeft → HasReached (older c.args.program.now c.args.plans.now c.args.view.now.store.entries c.args.self.now.label) (c.args.walk.now.rule ∷ c.args.walk.now.head ∷ []) (c.loop-then.count + c.pass_first-passed.result.count) c.loop-then.walk.rule (c.loop-then.walk.head + 1)
on g c is =
    let h = here g c in
    let none = subst (λ (e : End). EndsIn (join_of c.loop-then.join) c.pass_first-passed.ensures.passes.after e c.pass_first-passed.new.instance.labels.items c.pass_first-passed.new.binding) is c.pass_first-passed.ensures.passes.ends in
    reached_past _ _ _ _ _ _ _ _ c.loop-then.invariant.reached h (gone_at _ _ _ _ h.join h.makes _ _ _ h.come (passes g c)) none

next : (g : _) (c : In-Some-next_plan g) → IsNextJoin (older c.args.program.now c.args.plans.now c.args.view.now.store.entries c.args.self.now.label) c.loop-then.walk.rule (c.loop-then.walk.head + 1) c.next_plan-in-loop-then.new.walk.rule c.next_plan-in-loop-then.new.walk.head (join_in (older c.args.program.now c.args.plans.now c.args.view.now.store.entries c.args.self.now.label) c.in-Some-next_plan.rule.now c.in-Some-next_plan.order.now)
next g c = c.in-Some-next_plan.ensures.next _ _ c.loop-then.invariant.ahead

pub pass_first-passed-requires : goal.pass_first-passed-requires
pass_first-passed-requires g c =
    let i = c.loop-then.invariant in
    let h = has_join _ _ _ _ (join_of c.loop-then.join) i.reached.come i.join c.requires.plans c.args.view.now.store refl c.active-given.ensures.labelled in
    let alone = subst (λ (v : Seen). c.loop-then.instance.labels.items ≡ v.active ∷ []) (sym i.view) i.alone in
    (omega arith, (omega (arith, i.less), (record { begins = h.join.begins; plan = h.join.plan; trials = trials_at _ _ _ _ h.join h.makes }, alone)))

pub then_after-requires : goal.then_after-requires
then_after-requires g c =
    let h = here g (goal.at.then_after-requires g c).After-pass_first-passed in
    record { rule = h.makes.number; head = h.makes.head; whole = whole_full _ _ _ _ _ h _ _ _ _ c.pass_first-passed.ensures.passes.ends }

pub returns-in-Some-then_after-clause-passed : goal.returns-in-Some-then_after-clause-passed
returns-in-Some-then_after-clause-passed g c =
    let at = (goal.at.returns-in-Some-then_after-clause-passed g c).After-pass_first-passed in
    let i = c.loop-then.invariant in
    comes_after_plan _ _ _ _ _ _ i.reached (here g at) _ _ (passes g at) _ (λ e. let all : c.pass_first-passed.result.count ≡ c.args.most - c.loop-then.count = c.pass_first-passed.ensures.counted.enough e in omega (arith, i.less, all)) _ _ c.pass_first-passed.ensures.passes.ends _ c.then_after.new.instance _ _
    (subst (λ (p : List ℕ). IsThenAfter (join_of c.loop-then.join) c.loop-then.walk.rule c.loop-then.walk.head c.pass_first-passed.new.instance.labels.items c.pass_first-passed.result.end c.then_after.result c.then_after.new.instance.whole p c.then_after.new.self.place) (ap (λ (s : SearchState). s.place) i.stays) c.then_after.ensures.then)
    _ c.in-Some-then_after.is _ refl

pub overflow_add-walk : goal.overflow_add-walk
overflow_add-walk g c = head_fits _ _ _ _ _ (here g (goal.at.overflow_add-walk g c).After-pass_first-passed)

pub returns-in_default-next_plan-clause-passed : goal.returns-in_default-next_plan-clause-passed
returns-in_default-next_plan-clause-passed g c =
    let at = goal.at.returns-in_default-next_plan-clause-passed g c in
    let left = left g at.In_default-then_after in
    let k = on g at.After-pass_first-passed left.0 in
    record { after = k.at; passes = k.passed; next = come_to_end _ _ _ _ k.come (c.in_default-next_plan.ensures.next _ _ c.loop-then.invariant.ahead); stands = ap (λ (s : SearchState). s.place) left.1 }

pub loop-then-smaller : goal.loop-then-smaller
loop-then-smaller g c =
    let at = goal.at.loop-then-smaller g c in
    let n = next g at.In-Some-next_plan in
    let k = reached_on _ _ _ _ _ _ _ (on g at.After-pass_first-passed (left g at.In_default-then_after).0) n.come in
    nearer _ _ _ _ _ _ _ n.come.later (has_join _ _ _ _ _ k.come n.join c.requires.plans c.args.view.now.store refl c.active-given.ensures.labelled)

pub loop-then-preserved : goal.loop-then-preserved
loop-then-preserved g c =
    let at = goal.at.loop-then-preserved g c in
    let i = c.loop-then.invariant in
    let n = next g at.In-Some-next_plan in
    let left = left g at.In_default-then_after in
    record {
      less = omega (arith, i.less, c.pass_first-passed.ensures.counted.less left.0);
      stays = left.1;
      view = i.view;
      alone = ap (λ (v : ArrayVec ℕ). v.items) c.then_after.ensures.labels ∙ subst (λ (v : Seen). c.pass_first-passed.new.instance.labels.items ≡ v.active ∷ []) i.view (c.pass_first-passed.ensures.alone left.0);
      join = subst (IsJoinAt _ _ _) (sym (joined c.args.program.now c.args.plans.now c.loop-then.join.view c.args.view.now c.args.self.now.label c.in-Some-next_plan.rule.now c.in-Some-next_plan.order.now i.view c.requires.active)) n.join;
      reached = reached_on _ _ _ _ _ _ _ (on g at.After-pass_first-passed left.0) n.come;
      ahead = c.in-Some-next_plan.ensures.ahead _ _ i.ahead;
    }

pub returns-in_default-clause-passed : goal.returns-in_default-clause-passed
returns-in_default-clause-passed g c = record { after = c.args.walk.now.rule ∷ c.args.walk.now.head ∷ []; passes = refl; next = c.in_default.ensures.next _ _ c.requires.ahead; stands = refl }

pub loop-then-init : goal.loop-then-init
loop-then-init g c =
    let n = c.in-Some.ensures.next _ _ c.requires.ahead in
    record {
      less = omega (arith, c.requires.some);
      stays = refl;
      view = c.copy-view.ensures;
      alone = c.requires.alone;
      join = subst (IsJoinAt _ _ _) (sym (joined c.args.program.now c.args.plans.now c.copy-view.result c.args.view.now c.args.self.now.label c.in-Some.rule.now c.in-Some.order.now c.copy-view.ensures c.requires.active)) n.join;
      reached = reached_on _ _ _ _ _ _ _ (reached_first _ _ _ _ (come_to_own _ c.args.walk.now.rule c.args.walk.now.head [])) n.come;
      ahead = c.in-Some.ensures.ahead _ _ c.requires.ahead;
    }
