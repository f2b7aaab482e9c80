-- From labels to heads and rules.
use Rattle.std.proofs.Common.{◌≡◌, ◌↔◌, ℕ, zero, suc, ◌≤◌, true, List, [], ◌∷◌, ◌++◌, length, Option, Some, None, slice_get, refl, sym, ◌∙◌, ap, subst, arith, ◌<◌}
use Rattle.std.specs.List.{AllByRecursion}
use Rattle.std.proofs.lemmas.Option.{slice_get_within}
use Rattle.chr_value.proofs.Chosen.{some_is}
use Rattle.chr_rule.specs.Rules.{Simpagation, rule_at}
use Rattle.chr_rule.specs.Scope.{IsRule}
use Rattle.chr_plan.specs.Plans.{PlanList, order_in, orders_at, plan_at, ArePlans}
use Rattle.chr_plan.specs.declared.order.Step.{Step}
use Rattle.chr_search.specs.Positions.{at_or_after}
use Rattle.chr_search.specs.Tree.{Grows, Least}
use Rattle.chr_search.specs.Trials.{MayFollow, Space, join_in, IsPlanned, Child, IsTrial, IsNext, NoneLeft}
use Rattle.chr_search.specs.Partners.{HasPlan}
use Rattle.chr_search.proofs.Plans.{planned}

-- a trial is a rule, a head, and labels of which the active one is the first
pub each_trial : (s : Space) (P : List ℕ → Type 0) → ((r h l : ℕ) (ls : List ℕ) → IsTrial s (r ∷ h ∷ l ∷ ls) → l ≡ s.active → P (r ∷ h ∷ l ∷ ls)) → (t : List ℕ) → IsTrial s t → P t
each_trial s P f (r ∷ h ∷ l ∷ ls) i = f r h l ls i i.grows.1.1.0.3.turn
each_trial s P f t i = absurd (omega (arith, i.deep))

-- the trial that comes next is the first at or after the place
pub record IsFirst (s : Space) (place t : List ℕ) : Type 0 where
  pub trial : IsTrial s t
  pub there : at_or_after place t ≡ true
  pub first : (u : List ℕ) → IsTrial s u → at_or_after place u ≡ true → at_or_after t u ≡ true

pub is_first : (s : Space) (place t : List ℕ) → IsNext s place t ↔ IsFirst s place t
is_first s place t = (
  λ l. subst (IsFirst s place) (sym l.is) (record {
    trial = record { grows = l.beyond.grows; deep = l.beyond.deep };
    there = l.beyond.there;
    first = λ u i h. l.least u (record { grows = i.grows; deep = i.deep; there = h });
  }),
  λ f. record {
    more = t;
    is = refl;
    beyond = record { grows = f.trial.grows; deep = f.trial.deep; there = f.there };
    least = λ u b. f.first u (record { grows = b.grows; deep = b.deep }) b.there;
  },
)

pub none_left : (s : Space) (place : List ℕ) → NoneLeft s place ↔ ((t : List ℕ) → IsTrial s t → at_or_after place t ≡ true → ⊥)
none_left s place = (
  λ n t i h. n t (record { grows = i.grows; deep = i.deep; there = h }),
  λ n t b. n t (record { grows = b.grows; deep = b.deep }) b.there,
)

child_is : (s : Space) (r h : ℕ) (rule : Simpagation ℕ) (order : List Step) → IsPlanned s r h rule order → (path : List ℕ) (l : ℕ) → Child s (r ∷ h ∷ path) l → MayFollow (join_in s rule order) path l
child_is s r h rule order p path l c =
    let same_rule : c.0 ≡ rule = some_is c.0 rule (sym c.2.rule_is ∙ p.rule_is) in
    let same_order : c.1 ≡ order = some_is c.1 order (sym c.2.order_is ∙ p.order_is) in
    subst (λ x. MayFollow (join_in s rule x) path l) same_order (subst (λ x. MayFollow (join_in s x c.1) path l) same_rule c.3)

pub grows_in : (s : Space) (r h : ℕ) (rule : Simpagation ℕ) (order : List Step) → IsPlanned s r h rule order → (path more : List ℕ) → Grows (Child s) (r ∷ h ∷ path) more → Grows (MayFollow (join_in s rule order)) path more
grows_in s r h rule order p path [] g = tt
grows_in s r h rule order p path (x ∷ more) g = (child_is s r h rule order p path x g.0, grows_in s r h rule order p (path ++ x ∷ []) more g.1)

grows_out : (s : Space) (r h : ℕ) (rule : Simpagation ℕ) (order : List Step) → IsPlanned s r h rule order → (path more : List ℕ) → Grows (MayFollow (join_in s rule order)) path more → Grows (Child s) (r ∷ h ∷ path) more
grows_out s r h rule order p path [] g = tt
grows_out s r h rule order p path (x ∷ more) g = ((rule, order, p, g.0), grows_out s r h rule order p (path ++ x ∷ []) more g.1)

-- a trial of a plan
pub trial_of : (s : Space) (r h : ℕ) (labels : List ℕ) (rule : Simpagation ℕ) (order : List Step) → IsPlanned s r h rule order → 1 ≤ length labels → Grows (MayFollow (join_in s rule order)) [] labels → IsTrial s (r ∷ h ∷ labels)
trial_of s r h labels rule order p some g = record { grows = ((rule, p.rule_is), ((rule, order, p), grows_out s r h rule order p [] labels g)); deep = omega arith }

-- the least trial of a plan is the least one with its rule and head
pub least_out : (s : Space) (r h : ℕ) (rule : Simpagation ℕ) (order : List Step) → IsPlanned s r h rule order → (place found : List ℕ) → Least (MayFollow (join_in s rule order)) 1 [] place found → Least (Child s) 3 (r ∷ h ∷ []) place (r ∷ h ∷ found)
least_out s r h rule order p place found l = record {
  more = l.more;
  is = ap (λ (z : List ℕ). r ∷ h ∷ z) l.is;
  beyond = record { grows = grows_out s r h rule order p [] l.more l.beyond.grows; deep = omega (arith, l.beyond.deep); there = l.beyond.there };
  least = λ other b. l.least other (record { grows = grows_in s r h rule order p [] other b.grows; deep = omega (arith, b.deep); there = b.there });
}

-- a head with a plan has a number from 1 on
pub head_low : (plans : PlanList) (r h : ℕ) (order : List Step) → plan_at plans r h ≡ Some order → 1 ≤ h
head_low plans r zero order e = absurd (let z : None ≡ Some order = sym (no_zero (orders_at plans r)) ∙ e in cc)
  where
    no_zero : (o : Option (List (List Step))) → order_in o zero ≡ None
    no_zero None = refl
    no_zero (Some os) = refl
head_low plans r (suc h) order e = omega arith

-- a rule's number
pub rule_low : (rules : List (Simpagation ℕ)) (r : ℕ) (rule : Simpagation ℕ) → rule_at rules r ≡ Some rule → (1 ≤ r) × (r ≤ length rules)
rule_low rules zero rule e = absurd (let z : None ≡ Some rule = e in cc)
rule_low rules (suc r) rule e = let less : r < length rules = slice_get_within rules r rule e in omega arith

-- the plans of a program are plans
scoped_at : (rules : List (Simpagation ℕ)) → AllByRecursion IsRule rules → (k : ℕ) (rule : Simpagation ℕ) → slice_get rules k ≡ Some rule → IsRule rule
scoped_at [] all k rule e = absurd (let z : None ≡ Some rule = e in cc)
scoped_at (x ∷ xs) all zero rule e = subst IsRule (some_is x rule e) all.0
scoped_at (x ∷ xs) all (suc k) rule e = scoped_at xs all.1 k rule e

pub rule_scoped : (rules : List (Simpagation ℕ)) → AllByRecursion IsRule rules → (r : ℕ) (rule : Simpagation ℕ) → rule_at rules r ≡ Some rule → IsRule rule
rule_scoped rules all zero rule e = absurd (let z : None ≡ Some rule = e in cc)
rule_scoped rules all (suc r) rule e = scoped_at rules all r rule e

pub plan_of : (s : Space) → ArePlans s.rules s.plans → AllByRecursion IsRule s.rules → (r h : ℕ) (rule : Simpagation ℕ) (order : List Step) → IsPlanned s r h rule order → HasPlan (join_in s rule order)
plan_of s ps all r h rule order p =
    let q = planned s.rules s.plans ps r h rule order p.rule_is p.order_is in
    record { head = h; from = q.from; to = q.to; plan = q.plan; scoped = rule_scoped s.rules all r rule p.rule_is }
