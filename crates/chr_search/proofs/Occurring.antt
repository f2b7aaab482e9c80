-- Trials where a program has heads of the active atom's predicate.
use Rattle.std.proofs.Common.{◌≡◌, ℕ, ◌+◌, ◌-◌, ◌*◌, ◌<◌, Fits, w8, true, List, [], ◌∷◌, length, Some, slice_get, sym, ◌∙◌, ap, subst, arith}
use Rattle.std.proofs.lemmas.Bool.Decides.{nat_tests}
use Rattle.chr_value.specs.declared.atom.Pred.{Pred}
use Rattle.chr_value.proofs.Chosen.{some_is}
use Rattle.chr_rule.specs.Rules.{Simpagation, head_at}
use Rattle.chr_rule.specs.Occurrences.{IsOccurrence, AtOrAfter, NoneFrom, IsNextOccurrence}
use Rattle.chr_model.specs.Stores.{atom_at}
use Rattle.chr_plan.specs.Orders.{heads_of, first_step}
use Rattle.chr_plan.specs.Plans.{plan_at, ArePlans}
use Rattle.chr_plan.specs.declared.order.Step.{Step}
use Rattle.chr_search.specs.Positions.{at_or_after}
use Rattle.chr_search.specs.Trials.{HasHeadPred, Join, Space, IsTrial, NoneLeft}
use Rattle.chr_search.specs.PlanByPlan.{IsActive, IsJoinOf, IsJoinAt, HasComeTo, IsNextJoin}
use Rattle.chr_search.proofs.Plans.{planned, has_plan}
use Rattle.chr_search.proofs.Descents.{each_trial, none_left, rule_low}
use Rattle.chr_search.proofs.PlanByPlan.{HasJoin, head_bounds, joins_at, head_at_most}

-- rules and heads in the order of trials
in_order : (r h x y : ℕ) (ls : List ℕ) → at_or_after (r ∷ h ∷ []) (x ∷ y ∷ ls) ≡ true → AtOrAfter r h x y
in_order r h x y ls e = grind (arith, nat_tests)

pub order_in : (r h x y : ℕ) (ls : List ℕ) → AtOrAfter r h x y → at_or_after (r ∷ h ∷ []) (x ∷ y ∷ ls) ≡ true
order_in r h x y ls a = grind (arith, nat_tests)

-- each trial has the predicate of the active atom at its head
pub trial_occurs : (s : Space) (p : Pred) → IsActive s p → ArePlans s.rules s.plans → (r h : ℕ) (ls : List ℕ) → IsTrial s (r ∷ h ∷ ls) → IsOccurrence s.rules p r h
trial_occurs s p a ps r h [] i = absurd (omega (arith, i.deep))
trial_occurs s p a ps r h (l ∷ ls) i =
    let c = i.grows.1.1.0 in
    let rule = c.0 in
    let m = c.3 in
    let q = planned s.rules s.plans ps r h rule c.1 c.2.rule_is c.2.order_is in
    let first : Step = first_step (heads_of rule) h in
    let step : m.step ≡ first = some_is m.step first (sym m.step_is ∙ ap (λ (z : List Step). slice_get z 0) q.plan.first) in
    let live : atom_at s.store s.active ≡ Some m.atom = subst (λ x. atom_at s.store x ≡ Some m.atom) m.turn m.live in
    let pred : HasHeadPred m.head a.atom = subst (HasHeadPred m.head) (some_is m.atom a.atom (sym live ∙ a.live)) m.pred in
    record {
      rule = rule;
      rule_is = c.2.rule_is;
      at = record {
        head = m.head;
        head_is = subst (λ (x : Step). head_at rule x.head ≡ Some m.head) step m.head_is;
        pred = record { name = sym pred.0 ∙ sym a.name; arity = sym pred.1 ∙ sym a.arity };
      };
    }

-- on to the next occurrence, and to the end
come_to_occurrence : (s : Space) (p : Pred) → IsActive s p → ArePlans s.rules s.plans → (r h x y : ℕ) → IsNextOccurrence s.rules p r h (x, y) → HasComeTo s (r ∷ h ∷ []) x y
come_to_occurrence s p a ps r h x y o = record {
  later = order_in r h x y [] o.after;
  none = each_trial s (λ t. at_or_after (r ∷ h ∷ []) t ≡ true → at_or_after (x ∷ y ∷ []) t ≡ true) (λ b c l ls i first e. order_in x y b c (l ∷ ls) (o.least b c (in_order r h b c (l ∷ ls) e) (trial_occurs s p a ps b c (l ∷ ls) i)));
}

pub come_to_last : (s : Space) (p : Pred) → IsActive s p → ArePlans s.rules s.plans → (r h : ℕ) → NoneFrom s.rules p r h → NoneLeft s (r ∷ h ∷ [])
come_to_last s p a ps r h n =
    (none_left s (r ∷ h ∷ [])).1 (each_trial s (λ t. at_or_after (r ∷ h ∷ []) t ≡ true → ⊥) (λ x y l ls i first e. n x y (in_order r h x y (l ∷ ls) e) (trial_occurs s p a ps x y (l ∷ ls) i)))

-- an occurrence has a plan, and that makes a join
pub plan_there : (s : Space) (p : Pred) → ArePlans s.rules s.plans → (r h : ℕ) → IsOccurrence s.rules p r h → (order : List Step) × (plan_at s.plans r h ≡ Some order)
plan_there s p ps r h o = let bounds = head_bounds o.rule h o.at.head o.at.head_is in has_plan s.rules s.plans ps r h o.rule o.rule_is bounds.0 bounds.1

join_there : (s : Space) (p : Pred) → IsActive s p → ArePlans s.rules s.plans → (r h : ℕ) (j : Join) → IsOccurrence s.rules p r h → IsJoinOf s r h j → IsJoinAt s r h j
join_there s p a ps r h j o k =
    let same : o.rule ≡ j.rule = some_is o.rule j.rule (sym o.rule_is ∙ k.planned.rule_is) in
    let pred : HasHeadPred o.at.head a.atom = (sym a.name ∙ sym o.at.pred.name, sym a.arity ∙ sym o.at.pred.arity) in
    joins_at s r h j o.at.head a.atom ps k (subst (λ (x : Simpagation ℕ). head_at x h ≡ Some o.at.head) same o.at.head_is) a.live pred

-- the join of the next one
pub join_at_occurrence : (s : Space) (p : Pred) → IsActive s p → ArePlans s.rules s.plans → (r h x y : ℕ) → IsNextOccurrence s.rules p r h (x, y) → (j : Join) → IsJoinOf s x y j → IsNextJoin s r h x y j
join_at_occurrence s p a ps r h x y o j k = record { come = come_to_occurrence s p a ps r h x y o; join = join_there s p a ps x y j o.occurs k }

-- a walk through the plans that goes on from one: the next head's number fits, and it is nearer to the end
pub head_fits : (s : Space) (place : List ℕ) (r h : ℕ) (j : Join) → HasJoin s place r h j → Fits w8 (h + 1)
head_fits s place r h j k = omega (arith, head_at_most s r h j.rule j.order k.makes)

pub nearer : (s : Space) (place : List ℕ) (r h x y : ℕ) (j : Join) → at_or_after (r ∷ h ∷ []) (x ∷ y ∷ []) ≡ true → HasJoin s place x y j → (length s.rules + 1 - x) * 8 + (8 - (y + 1)) < (length s.rules + 1 - r) * 8 + (8 - h)
nearer s place r h x y j later k = omega (arith, in_order r h x y [] later, head_at_most s x y j.rule j.order k.makes, rule_low s.rules x j.rule k.makes.planned.rule_is)
