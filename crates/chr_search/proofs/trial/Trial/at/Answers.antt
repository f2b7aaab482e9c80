use Rattle.std.proofs.Common.{◌≡◌, ◌∷◌, ℕ, List, map, Some, refl, sym, ap, subst, ◌∙◌}
use Rattle.std.specs.Arc.{arc_value}
use Rattle.chr_rule.specs.Rules.{rule_at}
use Rattle.chr_plan.specs.Plans.{plan_at}
use Rattle.chr_search.specs.Trials.{older}
use Rattle.chr_search.specs.Placed.{placed_as}
use Rattle.chr_search.specs.Verdicts.{Placed, Trial}
use Rattle.chr_search.proofs.Descents.{rule_scoped}
use Rattle.chr_search.proofs.Making.{Parts, map_twice, parts, formed, parts_as}
use Rattle.chr_search.proofs.trial.Trial.at.Goals.{After-as_slice, In_ok-placed}
use Rattle.chr_search.proofs.trial.Trial.at.Goals as goal

-- the position as it is seen, its rule and its plan
seen : (g : _) (c : After-as_slice g) → c.position.inside.rule ∷ c.position.inside.head ∷ c.as_slice.result.now ≡ c.args.position.now
seen g c = ap (λ (xs : List ℕ). c.position.inside.rule ∷ c.position.inside.head ∷ xs) c.as_slice.ensures.value ∙ c.position.view_is

ruled : (g : _) (c : After-as_slice g) → rule_at c.args.program.now c.position.inside.rule ≡ Some (arc_value c.in-Some.rule.now)
ruled g c = subst (λ n. rule_at c.args.program.now n ≡ Some (arc_value c.in-Some.rule.now)) c.from.ensures (sym c.in-Some.ensures.rule)

planned : (g : _) (c : After-as_slice g) → plan_at c.args.plans.now c.position.inside.rule c.position.inside.head ≡ Some c.in-Some-plan.order.now
planned g c = subst (λ n. plan_at c.args.plans.now n c.position.inside.head ≡ Some c.in-Some-plan.order.now) c.from-2.ensures (sym c.in-Some-plan.ensures)

-- what they are of an admissible trial
made : (g : _) (c : After-as_slice g) → Parts (older c.args.program.now c.args.plans.now c.args.store.now.entries c.requires.admissible.0) c.position.inside.rule c.position.inside.head c.as_slice.result.now (arc_value c.in-Some.rule.now) c.in-Some-plan.order.now
made g c = parts _ _ _ _ c.args.position.now _ _ (seen g c) c.requires.admissible.1 (ruled g c) (planned g c)

-- and its labels
labelled : (g : _) (c : In_ok-placed g) → map (λ (p : Placed). p.label) (map placed_as c.in_ok-placed.placed.items) ≡ c.as_slice.result.now
labelled g c = map_twice placed_as (λ (p : Placed). p.label) c.in_ok-placed.placed.items ∙ c.in_ok-placed.ensures.0

pub place_labels-requires-clause-count : goal.place_labels-requires-clause-count
place_labels-requires-clause-count g c = (made g (goal.at.place_labels-requires-clause-count g c).After-as_slice).count

pub place_labels-requires-clause-live : goal.place_labels-requires-clause-live
place_labels-requires-clause-live g c = (made g (goal.at.place_labels-requires-clause-live g c).After-as_slice).live

pub invariant_of-result : goal.invariant_of-result
invariant_of-result g c =
    let at = goal.at.invariant_of-result g c in
    let t : Trial = record { rule = arc_value c.in_ok-try_clone.field-0; number = c.position.inside.rule; head = c.position.inside.head; placed = map placed_as c.in_ok-placed.placed.items } in
    formed (older c.args.program.now c.args.plans.now c.args.store.now.entries c.requires.admissible.0) t c.in-Some-plan.order.now c.args.store.now c.requires.plans refl c.next_label-given.ensures.labelled
    (rule_scoped c.args.program.now c.in-Some.ensures.valid c.position.inside.rule t.rule (ruled g at.After-as_slice ∙ ap (λ x. Some x) (sym c.in_ok-try_clone.ensures)))
    c.position.invariant.0 c.position.invariant.1
    (parts_as _ _ _ _ _ _ t.rule _ (made g at.After-as_slice) (labelled g at.In_ok-placed) c.in_ok-try_clone.ensures)
    c.in_ok-placed.ensures.1.heads c.in_ok-placed.ensures.1.live

pub returns : goal.returns
returns g c =
    let at = goal.at.returns g c in (
      ap (λ (xs : List ℕ). c.position.inside.rule ∷ c.position.inside.head ∷ xs) (labelled g at.In_ok-placed) ∙ seen g at.After-as_slice,
      record {
        rule_is = ruled g at.After-as_slice ∙ ap (λ x. Some x) (sym c.in_ok-try_clone.ensures);
        order = c.in-Some-plan.order.now;
        order_is = planned g at.After-as_slice;
        heads_are = c.in_ok-placed.ensures.1.heads;
        live = c.in_ok-placed.ensures.1.live;
      },
    )
