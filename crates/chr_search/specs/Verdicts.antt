-- A trial with its atoms, and the verdict on it.
use Rattle.std.specs.Prelude.{◌≡◌, ℕ, zero, suc, ◌<◌, ◌≤◌, true, ◌==◌, if◌then◌else◌, List, [], ◌∷◌, map, length, take, Option, Some}
use Rattle.std.specs.List.{AllByRecursion}
use Rattle.chr_value.specs.Atoms.{Value, Atom}
use Rattle.chr_value.specs.Bounds.{greatest_label}
use Rattle.chr_rule.specs.Rules.{Simpagation, rule_at}
use Rattle.chr_rule.specs.Scope.{IsRule}
use Rattle.chr_guard.specs.Values.{Valuation, Holds}
use Rattle.chr_guard.specs.Bindings.{bound_at}
use Rattle.chr_guard.specs.Matching.{AreAtHeads}
use Rattle.chr_guard.specs.Instances.{AreMadeUnder, IsRight, added}
use Rattle.chr_model.specs.Stores.{Store, atom_at, among, Distinct}
use Rattle.chr_plan.specs.Orders.{heads_of}
use Rattle.chr_plan.specs.Plans.{PlanList, plan_at}
use Rattle.chr_plan.specs.declared.order.Step.{Step}

-- a label with its atom, and the head at which it stands
pub record Placed : Type 0 where
  pub head : ℕ
  pub label : ℕ
  pub atom : Atom ℕ

-- a trial: a rule with its number, a head, and labels with their atoms in the plan's order
pub record Trial : Type 0 where
  pub rule : Simpagation ℕ
  pub number : ℕ
  pub head : ℕ
  pub placed : List Placed

abbrev pub heads : Trial → List ℕ
heads t = map (λ p. p.head) t.placed

abbrev pub labels : Trial → List ℕ
labels t = map (λ p. p.label) t.placed

-- where it stands in the order of trials
abbrev pub position : Trial → List ℕ
position t = t.number ∷ t.head ∷ labels t

-- its labels with their atoms, as a store
abbrev pub stored : Trial → Store
stored t = map (λ p. (p.label, p.atom)) t.placed

-- What holds of every trial: its labels stand at different heads of its rule, one at least, and at
-- each head where there are as many labels as heads.
pub record IsFormed (t : Trial) : Type 0 where
  pub scoped : IsRule t.rule
  pub number : 1 ≤ t.number
  pub head : 1 ≤ t.head
  pub some : 1 ≤ length t.placed
  pub few : length t.placed ≤ length (heads_of t.rule)
  pub distinct : Distinct (heads t)
  pub within : AllByRecursion
      (λ p. (1 ≤ p.head) × (p.head ≤ length (heads_of t.rule)) × (p.label ≤ greatest_label))
      t.placed
  pub full : length t.placed ≡ length (heads_of t.rule) → (h : ℕ) → 1 ≤ h →
      h ≤ length (heads_of t.rule) → among (heads t) h ≡ true

-- the label at a head, 0 where there is none; and the labels at the next n heads
abbrev pub label_at : List Placed → ℕ → ℕ
label_at [] h = 0
label_at (p ∷ ps) h = if p.head == h then p.label else label_at ps h

abbrev pub labels_from : List Placed → ℕ → ℕ → List ℕ
labels_from ps h zero = []
labels_from ps h (suc n) = label_at ps h ∷ labels_from ps (suc h) n

-- the labels at the kept and at the removed heads, in head order
abbrev pub kept_labels : Trial → List ℕ
kept_labels t = labels_from t.placed 1 (length t.rule.kept)

abbrev pub removed_labels : Trial → List ℕ
removed_labels t = labels_from t.placed (suc (length t.rule.kept)) (length t.rule.removed)

-- its labels' atoms with their heads
abbrev pub at_heads : Trial → List (ℕ × Atom ℕ)
at_heads t = map (λ p. (p.head, p.atom)) t.placed

-- Part: heads are left, and the labels are distinct and fit.
pub record IsPart (t : Trial) : Type 0 where
  pub left : length t.placed < length (heads_of t.rule)
  pub distinct : Distinct (labels t)
  pub valuation : Valuation
  pub fits : AreAtHeads t.rule (at_heads t) valuation

-- Whole: a labelled instance as to its labels and atoms. No head is left, the labels are distinct
-- and fit, the guard holds and the body has values.
pub record IsWhole (t : Trial) : Type 0 where
  pub full : length t.placed ≡ length (heads_of t.rule)
  pub distinct : Distinct (labels t)
  pub valuation : Valuation
  pub fits : AreAtHeads t.rule (at_heads t) valuation
  pub guard : AllByRecursion (Holds valuation) t.rule.guard
  pub right : AllByRecursion (IsRight valuation) t.rule.body
  pub body : List (Atom ℕ)
  pub body_is : AreMadeUnder valuation (added t.rule.body) body

-- the trial is whole, and its body is the rule's under the binding
pub record IsWholeUnder (t : Trial) (binding : List (Option (Value ℕ))) : Type 0 where
  pub whole : IsWhole t
  pub body_is : AreMadeUnder (bound_at binding) (added t.rule.body) whole.body

-- the trial has the rule of its number, the heads of a plan of it, and its labels' atoms in the
-- store
pub record IsTrialOf (rules : List (Simpagation ℕ)) (plans : PlanList) (store : Store) (t : Trial)
    : Type 0 where
  pub rule_is : rule_at rules t.number ≡ Some t.rule
  pub order : List Step
  pub order_is : plan_at plans t.number t.head ≡ Some order
  pub heads_are : heads t ≡ take (length t.placed) (map (λ step. step.head) order)
  pub live : AllByRecursion (λ p. atom_at store p.label ≡ Some p.atom) t.placed

-- the same of a trial that was admissible once: each of its labels has its atom in the store or has
-- left it
pub record WasTrialOf (rules : List (Simpagation ℕ)) (plans : PlanList) (store : Store) (t : Trial)
    : Type 0 where
  pub rule_is : rule_at rules t.number ≡ Some t.rule
  pub order : List Step
  pub order_is : plan_at plans t.number t.head ≡ Some order
  pub heads_are : heads t ≡ take (length t.placed) (map (λ step. step.head) order)
  pub atoms : AllByRecursion (λ p. (a : Atom ℕ) → atom_at store p.label ≡ Some a → a ≡ p.atom)
      t.placed
