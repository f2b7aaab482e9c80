use Rattle.std.proofs.Common.{◌≡◌, ◌+◌, ℕ, List, [], ◌∷◌, refl, sym, ap, subst, ◌∙◌, arith}
use Rattle.arrayvec.specs.ArrayVec.{ArrayVec}
use Rattle.chr_store.specs.Views.{Seen}
use Rattle.chr_search.specs.declared.passing.End.{End}
use Rattle.chr_search.specs.declared.passing.End.TheVariants as ends
use Rattle.chr_search.specs.Reach.{SearchState}
use Rattle.chr_search.specs.Trials.{Join, older, join_in}
use Rattle.chr_search.specs.Passing.{PassesIn, EndsIn, PassesFrom}
use Rattle.chr_search.specs.PlanByPlan.{AreAhead, HasComeTo, IsJoinAt, IsNextJoin, labels_in}
use Rattle.chr_search.proofs.Positions.{after_itself}
use Rattle.chr_search.proofs.PlanByPlan.{HasJoin, HasReached, joined, come_on, come_to_end, has_join, trials_at, gone_at, none_ahead, reached_first, reached_past}
use Rattle.chr_search.proofs.Ending.{whole_full, none_left_after, comes_after_plan, passes_on, passes_to}
use Rattle.chr_search.proofs.Occurring.{head_fits}
use Rattle.chr_search.proofs.search.Search.pass_in.Goals.{After-first_walk-walk, After-copy, After-pass_in_plan-first, In_default-then_after}
use Rattle.chr_search.proofs.search.Search.pass_in.Goals as goal

-- the walk goes through the heads of the active atom's predicate
ahead : (g : _) (c : After-first_walk-walk g) → AreAhead (older c.args.program.now c.args.plans.now c.args.view.now.store.entries c.args.self.now.label) c.first_walk-walk.result.rule c.first_walk-walk.result.head c.first_walk-walk.result.heads
ahead g c = c.first_walk-walk.ensures.ahead (older c.args.program.now c.args.plans.now c.args.view.now.store.entries c.args.self.now.label) refl c.requires.atom

pub next_plan-requires-clause-ahead : goal.next_plan-requires-clause-ahead
next_plan-requires-clause-ahead g c = (c.args.view.now.store.entries, c.args.self.now.label, ahead g (goal.at.next_plan-requires-clause-ahead g c).After-first_walk-walk)

pub returns-in_default-clause-passed : goal.returns-in_default-clause-passed
returns-in_default-clause-passed g c = record {
  after = c.args.self.now.place;
  passes = refl;
  next = come_to_end _ _ _ _ (c.first_walk-walk.ensures.come _ refl) (c.in_default.ensures.next _ _ (ahead g (goal.at.returns-in_default-clause-passed g c).After-first_walk-walk));
  stands = refl;
}

-- the first plan, and its join in the view
next : (g : _) (c : After-copy g) → IsNextJoin (older c.args.program.now c.args.plans.now c.args.view.now.store.entries c.args.self.now.label) c.first_walk-walk.result.rule c.first_walk-walk.result.head c.next_plan.new.walk.rule c.next_plan.new.walk.head (join_in (older c.args.program.now c.args.plans.now c.args.view.now.store.entries c.args.self.now.label) c.in-Some.rule.now c.in-Some.order.now)
next g c = c.in-Some.ensures.next _ _ (c.first_walk-walk.ensures.ahead (older c.args.program.now c.args.plans.now c.args.view.now.store.entries c.args.self.now.label) refl c.requires.atom)

abbrev join : (g : _) (c : After-copy g) → Join
join g c = join_in (older c.args.program.now c.args.plans.now c.copy.result.store.entries c.copy.result.active) c.in-Some.rule.now c.in-Some.order.now

come : (g : _) (c : After-copy g) → HasComeTo (older c.args.program.now c.args.plans.now c.args.view.now.store.entries c.args.self.now.label) c.args.self.now.place c.next_plan.new.walk.rule c.next_plan.new.walk.head
come g c = come_on _ _ _ _ _ _ (c.first_walk-walk.ensures.come _ refl) (next g c).come

reached : (g : _) (c : After-copy g) → HasReached (older c.args.program.now c.args.plans.now c.args.view.now.store.entries c.args.self.now.label) c.args.self.now.place 0 c.next_plan.new.walk.rule c.next_plan.new.walk.head
reached g c = reached_first _ _ _ _ (come g c)

here : (g : _) (c : After-copy g) → HasJoin (older c.args.program.now c.args.plans.now c.args.view.now.store.entries c.args.self.now.label) (reached g c).at c.next_plan.new.walk.rule c.next_plan.new.walk.head (join g c)
here g c =
    has_join _ _ _ _ _ (reached g c).come
    (subst (IsJoinAt _ _ _) (sym (joined c.args.program.now c.args.plans.now c.copy.result c.args.view.now c.args.self.now.label c.in-Some.rule.now c.in-Some.order.now c.copy.ensures c.requires.active)) (next g c).join)
    c.requires.plans c.args.view.now.store refl c.active-given.ensures.labelled

-- its trials that are passed over
passes : (g : _) (c : After-pass_in_plan-first g) → (k : HasReached (older c.args.program.now c.args.plans.now c.args.view.now.store.entries c.args.self.now.label) c.args.self.now.place 0 c.next_plan.new.walk.rule c.next_plan.new.walk.head) → PassesIn (join_in (older c.args.program.now c.args.plans.now c.copy.result.store.entries c.copy.result.active) c.in-Some.rule.now c.in-Some.order.now) c.pass_in_plan-first.result.count (labels_in k.at c.next_plan.new.walk.rule c.next_plan.new.walk.head) c.pass_in_plan-first.ensures.passes.after
passes g c k = subst (λ ls. PassesIn (join_in (older c.args.program.now c.args.plans.now c.copy.result.store.entries c.copy.result.active) c.in-Some.rule.now c.in-Some.order.now) c.pass_in_plan-first.result.count ls c.pass_in_plan-first.ensures.passes.after) (k.same c.next_plan.new.walk.rule c.next_plan.new.walk.head (after_itself (c.next_plan.new.walk.rule ∷ c.next_plan.new.walk.head ∷ []))) c.pass_in_plan-first.ensures.passes.passes

pub pass_in_plan-first-requires : goal.pass_in_plan-first-requires
pass_in_plan-first-requires g c =
    let h = here g (goal.at.pass_in_plan-first-requires g c).After-copy in
    (omega arith, (c.requires.some, (record { begins = h.join.begins; plan = h.join.plan; trials = trials_at _ _ _ _ h.join h.makes }, c.set_alone.ensures ∙ ap (λ (x : ℕ). x ∷ []) (ap (λ (s : SearchState). s.label) c.self.view_is ∙ sym (ap (λ (v : Seen). v.active) c.copy.ensures ∙ c.requires.active)))))

pub then_after-requires : goal.then_after-requires
then_after-requires g c =
    let h = here g (goal.at.then_after-requires g c).After-copy in
    record { rule = h.makes.number; head = h.makes.head; whole = whole_full _ _ _ _ _ h _ _ _ _ c.pass_in_plan-first.ensures.passes.ends }

pub returns-in-Some-then_after-clause-passed : goal.returns-in-Some-then_after-clause-passed
returns-in-Some-then_after-clause-passed g c =
    let at = goal.at.returns-in-Some-then_after-clause-passed g c in
    let k = reached g at.After-copy in
    passes_to _ _ _ _ _ _ (comes_after_plan _ _ _ _ _ _ k (here g at.After-copy) _ _ (passes g at.After-pass_in_plan-first k) _ (λ e. omega (arith, c.requires.some, c.pass_in_plan-first.ensures.counted.enough e)) _ _ c.pass_in_plan-first.ensures.passes.ends _ c.then_after.new.instance _ _ c.then_after.ensures.then _ c.in-Some-then_after.is _ (omega arith))

pub overflow_add-walk : goal.overflow_add-walk
overflow_add-walk g c = head_fits _ _ _ _ _ (here g (goal.at.overflow_add-walk g c).After-copy)

-- where none of them is left the search stands where it stood, and goes on at the next head
left : (g : _) (c : In_default-then_after g) → (c.pass_in_plan-first.result.end ≡ ends.NoneLeft) × (c.then_after.new.self.place ≡ c.args.self.now.place)
left g c = none_left_after _ _ _ _ _ _ c.then_after.new.instance _ _ c.then_after.ensures.then c.in_default-then_after.is

on : (g : _) (c : After-pass_in_plan-first g) → (k : HasReached (older c.args.program.now c.args.plans.now c.args.view.now.store.entries c.args.self.now.label) c.args.self.now.place 0 c.next_plan.new.walk.rule c.next_plan.new.walk.head) → HasJoin (older c.args.program.now c.args.plans.now c.args.view.now.store.entries c.args.self.now.label) k.at c.next_plan.new.walk.rule c.next_plan.new.walk.head (join_in (older c.args.program.now c.args.plans.now c.copy.result.store.entries c.copy.result.active) c.in-Some.rule.now c.in-Some.order.now) → c.pass_in_plan-first.result.end ≡ ends.NoneLeft → HasReached (older c.args.program.now c.args.plans.now c.args.view.now.store.entries c.args.self.now.label) c.args.self.now.place (0 + c.pass_in_plan-first.result.count) c.next_plan.new.walk.rule (c.next_plan.new.walk.head + 1)
on g c k h is =
    let none = subst (λ (e : End). EndsIn (join_in (older c.args.program.now c.args.plans.now c.copy.result.store.entries c.copy.result.active) c.in-Some.rule.now c.in-Some.order.now) c.pass_in_plan-first.ensures.passes.after e c.pass_in_plan-first.new.instance.labels.items c.pass_in_plan-first.new.bound) is c.pass_in_plan-first.ensures.passes.ends in
    reached_past _ _ _ _ _ _ _ _ k h (gone_at _ _ _ _ h.join h.makes _ _ _ h.come (passes g c k)) none

pub pass_plans-rest-requires : goal.pass_plans-rest-requires
pass_plans-rest-requires g c =
    let at = goal.at.pass_plans-rest-requires g c in
    let left = left g at.In_default-then_after in
    let label = c.then_after.ensures.label in
    let on = c.in-Some.ensures.ahead _ _ (ahead g at.After-first_walk-walk) in
    let same = ap (λ (v : ArrayVec ℕ). v.items) c.then_after.ensures.labels ∙ subst (λ (v : Seen). c.pass_in_plan-first.new.instance.labels.items ≡ v.active ∷ []) c.copy.ensures (c.pass_in_plan-first.ensures.alone left.0) in
    (omega arith, (omega (arith, c.pass_in_plan-first.ensures.counted.less left.0), (c.requires.plans, (c.requires.active ∙ sym label, (subst (λ (l : ℕ). AreAhead (older c.args.program.now c.args.plans.now c.args.view.now.store.entries l) c.next_plan.new.walk.rule (c.next_plan.new.walk.head + 1) c.next_plan.new.walk.heads) (sym label) on, same)))))

pub returns-clause-passed : goal.returns-clause-passed
returns-clause-passed g c =
    let at = goal.at.returns-clause-passed g c in
    let left = left g at.In_default-then_after in
    let start = reached g at.After-copy in
    let k = on g at.After-pass_in_plan-first start (here g at.After-copy) left.0 in
    let free = none_ahead c.args.self.now.place c.next_plan.new.walk.rule c.next_plan.new.walk.head c.next_plan.new.walk.rule (c.next_plan.new.walk.head + 1) (come g at.After-copy).later (after_itself (c.next_plan.new.walk.rule ∷ (c.next_plan.new.walk.head + 1) ∷ [])) in
    let rest = c.pass_plans-rest in
    let less = c.pass_in_plan-first.ensures.counted.less left.0 in
    let from =
    subst (λ (l : ℕ). PassesFrom (older c.args.program.now c.args.plans.now c.args.view.now.store.entries l) (c.next_plan.new.walk.rule ∷ (c.next_plan.new.walk.head + 1) ∷ []) rest.result rest.new.instance rest.new.bound c.args.self.now.place rest.new.self.place) c.then_after.ensures.label
    (subst (λ (p : List ℕ). PassesFrom (older c.args.program.now c.args.plans.now c.args.view.now.store.entries c.then_after.new.self.label) (c.next_plan.new.walk.rule ∷ (c.next_plan.new.walk.head + 1) ∷ []) rest.result rest.new.instance rest.new.bound p rest.new.self.place) left.1 rest.ensures.passed) in
    passes_to _ _ _ _ _ _ (passes_on _ _ _ _ _ k free rest.result rest.new.instance rest.new.bound _ _ (λ e. omega (arith, rest.ensures.more e, less)) from _ (omega arith))
