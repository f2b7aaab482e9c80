use Rattle.std.proofs.Common.{◌≡◌, ◌≤◌, map, length, Some, None, slice_get, refl, sym, ◌∙◌, ap, subst, arith, true≢false}
use Rattle.std.proofs.lemmas.List.{length-map}
use Rattle.chr_store.specs.Views.{Seen}
use Rattle.chr_index.proofs.Slots.{get_there}
use Rattle.chr_search.specs.Trials.{Space, older, MayFollow}
use Rattle.chr_search.specs.Joined.{join_of}
use Rattle.chr_search.specs.PlanByPlan.{IsUnplanned, IsJoinOf}
use Rattle.chr_search.specs.Partners.{IsReady}
use Rattle.chr_search.specs.Passing.{IsLevel}
use Rattle.chr_search.proofs.Asking.{free_ready, past_get}
use Rattle.chr_search.proofs.Fronts.{grown_in, follows_in, ends_unplanned, active_first}
use Rattle.chr_search.proofs.front.Front.of.Goals.{In_ok-join, After-as_slice}
use Rattle.chr_search.proofs.front.Front.of.Goals as goal

-- the join of the rule's head
join : (g : _) (c : In_ok-join g) → IsJoinOf (older c.args.program.now c.args.plans.now c.args.store.now.entries c.args.active) c.args.at.0 c.args.at.1 (join_of c.in_ok-join.join)
join g c = subst (λ (v : Seen). IsJoinOf (older c.args.program.now c.args.plans.now v.store.entries v.active) c.args.at.0 c.args.at.1 (join_of c.in_ok-join.join)) c.of-view.ensures c.in_ok-join.ensures

pub returns-in_err-join : goal.returns-in_err-join
returns-in_err-join g c =
    let s : Space = older c.args.program.now c.args.plans.now c.args.store.now.entries c.args.active in
    let none : IsUnplanned s c.args.at.0 c.args.at.1 = subst (λ (v : Seen). IsUnplanned (older c.args.program.now c.args.plans.now v.store.entries v.active) c.args.at.0 c.args.at.1) c.of-view.ensures c.in_err-join.ensures in
    rw c.from_residual.ensures (ends_unplanned s c.args.at.0 c.args.at.1 (map (λ p. p.label) c.args.placed.now) none)

pub returns-then-not-begins : goal.returns-then-not-begins
returns-then-not-begins g c = λ x t.
    let at = goal.at.returns-then-not-begins g c in
    let j = join_of c.in_ok-join.join in
    true≢false (sym (c.begins.ensures.1 (active_first j (map (λ p. p.label) c.args.placed.now) x (grown_in _ _ _ j (map (λ p. p.label) c.args.placed.now) x (join g at.In_ok-join).planned (join g at.In_ok-join).is t))) ∙ c.if-not-begins.true)

pub narrow_by_all-requires : goal.narrow_by_all-requires
narrow_by_all-requires g c = (omega arith, ((join g (goal.at.narrow_by_all-requires g c).In_ok-join).plan, free_ready (join_of c.in_ok-join.join) c.variables.result c.reset.new.self c.variables.ensures.count c.reset.ensures))

pub returns-in_err-labels : goal.returns-in_err-labels
returns-in_err-labels g c =
    let at = goal.at.returns-in_err-labels g c in
    rw c.from_residual-in_err-labels.ensures (λ x t. c.in_err-labels.ensures x (grown_in _ _ _ (join_of c.in_ok-join.join) (map (λ p. p.label) c.args.placed.now) x (join g at.In_ok-join).planned (join g at.In_ok-join).is t))

pub returns-in_err-step : goal.returns-in_err-step
returns-in_err-step g c =
    let at = goal.at.returns-in_err-step g c in
    let j = join_of c.in_ok-join.join in
    let ls = map (λ p. p.label) c.args.placed.now in
    let count : c.len.result ≡ length ls = c.len.ensures.value ∙ ap length c.in_ok-labels.ensures.0 in
    let none : slice_get j.order (length ls) ≡ None = subst (λ n. slice_get j.order n ≡ None) count (past_get j.order c.len.result c.in_err-step.ensures.lookup.0) in
    rw c.from_residual-in_err-step.ensures (λ x t. let m = follows_in _ _ _ j ls x (join g at.In_ok-join).planned (join g at.In_ok-join).is t in let z : None ≡ Some m.step = sym none ∙ m.step_is in cc)

-- the labels as they are seen
seen : (g : _) (c : After-as_slice g) → map (λ p. p.label) c.args.placed.now ≡ c.as_slice.result.now
seen g c = sym (c.as_slice.ensures.value ∙ c.in_ok-labels.ensures.0)

pub level-requires : goal.level-requires
level-requires g c =
    let at = goal.at.level-requires g c in
    let some : 1 ≤ length c.args.placed.now = c.requires.some in
    (omega arith, (subst (λ ls. 1 ≤ length ls) (seen g at.After-as_slice) (omega (arith, length-map c.args.placed.now (λ p. p.label))), ((join g at.In_ok-join).plan, subst (λ ls. IsReady (join_of c.in_ok-join.join) ls c.narrow_by_all.new.binding) (seen g at.After-as_slice) c.in_ok-labels.ensures.2)))

pub returns-in_err-level : goal.returns-in_err-level
returns-in_err-level g c =
    let at = goal.at.returns-in_err-level g c in
    let j = join_of c.in_ok-join.join in
    rw c.from_residual-in_err-level.ensures (λ x t. c.in_err-level.ensures x (subst (λ zs. MayFollow j zs x) (seen g at.After-as_slice) (follows_in _ _ _ j (map (λ p. p.label) c.args.placed.now) x (join g at.In_ok-join).planned (join g at.In_ok-join).is t)))

pub returns : goal.returns
returns g c =
    let at = goal.at.returns g c in
    let j = join_of c.in_ok-join.join in
    let k = join g at.In_ok-join in
    let some : 1 ≤ length c.args.placed.now = c.requires.some in
    let step = c.in_ok-step.step.now in
    record {
      join = record { planned = k.planned; is = k.is; plan = k.plan; begins = c.begins.ensures.0 c.if-not-begins.false };
      labels = c.in_ok-labels.ensures.0;
      some = omega (arith, length-map c.args.placed.now (λ p. p.label));
      grows = c.in_ok-labels.ensures.1;
      ready = c.in_ok-labels.ensures.2;
      level = subst (λ zs. IsLevel j zs c.narrow_by_all.new.binding c.in_ok-level.level) (sym (seen g at.After-as_slice)) c.in_ok-level.ensures;
      step = step;
      step_is = subst (λ n. slice_get j.order n ≡ Some step) (c.len.ensures.value ∙ ap length c.in_ok-labels.ensures.0) (get_there j.order c.len.result step c.in_ok-step.ensures.lookup.0 c.in_ok-step.ensures.lookup.1);
      head_is = refl;
    }
