-- Trials that differ in their last label: what they begin with, and how they end.
use Rattle.std.specs.Prelude.{◌≡◌, ℕ, ◌+◌, ◌≤◌, ◌↔◌, true, List, [], ◌∷◌, ◌++◌, length, Option, Some, MatchOption, slice_get}
use Rattle.chr_value.specs.Atoms.{Value}
use Rattle.chr_value.specs.Stores.{atom_at}
use Rattle.chr_rule.specs.Rules.{Simpagation}
use Rattle.chr_guard.specs.Bindings.{AreKnown}
use Rattle.chr_guard.specs.Matching.{AreAtHeads, IsFit}
use Rattle.chr_model.specs.Stores.{Distinct}
use Rattle.chr_plan.specs.Orders.{heads_of}
use Rattle.chr_plan.specs.Plans.{plan_at}
use Rattle.chr_plan.specs.declared.order.Step.{Step}
use Rattle.chr_search.specs.declared.front.Front.{Front as CodeFront}
use Rattle.chr_search.specs.declared.fitted.Fitted.{Fitted as CodeFitted}
use Rattle.chr_search.specs.Joined.{join_of}
use Rattle.chr_search.specs.Partners.{IsReady}
use Rattle.chr_search.specs.Passing.{IsLevel}
use Rattle.chr_search.specs.PlanByPlan.{IsJoinAt}
use Rattle.chr_search.specs.Positions.{at_or_after, just_after}
use Rattle.chr_search.specs.Tree.{Grows, LeastFrom, NoneFrom}
use Rattle.chr_search.specs.Trials.{Space, MayFollow, IsTrial}
use Rattle.chr_search.specs.Verdicts.{Placed, Trial, labels, at_heads}

-- a trial with one label more
abbrev pub lengthened : Trial → Placed → Trial
lengthened t p = record t { placed = t.placed ++ p ∷ [] }

-- the trial of one label
abbrev pub trial_alone : Simpagation ℕ → ℕ → Placed → Trial
trial_alone rule number p = record { rule = rule; number = number; head = p.head; placed = p ∷ [] }

-- an admissible trial has these numbers and one label more
abbrev pub MayEnd : Space → List ℕ → ℕ → Type 0
MayEnd s path l = IsTrial s (path ++ l ∷ [])

-- the least label from one on with which an admissible trial ends so, or none
abbrev pub IsEndFrom : Space → List ℕ → ℕ → Option ℕ → Type 0
IsEndFrom s path from found =
    MatchOption found (NoneFrom (MayEnd s path) from) (LeastFrom (MayEnd s path) from)

-- the label has its atom in the store, and stands at the head that comes after so many in the plan
-- of a rule's head
pub record IsPlacedAfter (s : Space) (r h n : ℕ) (p : Placed) : Type 0 where
  pub order : List Step
  pub order_is : plan_at s.plans r h ≡ Some order
  pub step : Step
  pub step_is : slice_get order n ≡ Some step
  pub head_is : p.head ≡ step.head
  pub live : atom_at s.store p.label ≡ Some p.atom

-- what a front keeps: the plan of a rule's head, and labels that begin trials with their binding
pub record IsFront {Z : Type 0} (s : Space) (r h : ℕ) (ls : List ℕ) (f : CodeFront Z) : Type 0 where
  pub join : IsJoinAt s r h (join_of f.join)
  pub labels : f.labels.items ≡ ls
  pub some : 1 ≤ length ls
  pub grows : Grows (MayFollow (join_of f.join)) [] ls
  pub ready : IsReady (join_of f.join) ls f.binding.now
  pub level : IsLevel (join_of f.join) ls f.binding.now f.level
  pub step : Step
  pub step_is : slice_get f.join.order.now (length ls) ≡ Some step
  pub head_is : f.head ≡ step.head

-- what is kept for judging the trials that have one label more than this one, and all heads then:
-- its labels are distinct, and its heads fit by this binding
pub record IsFitted {Z : Type 0} (t : Trial) (j : CodeFitted Z) (binding : List (Option (Value ℕ)))
    : Type 0 where
  pub part : j.part.now ≡ t
  pub last : length t.placed + 1 ≡ length (heads_of t.rule)
  pub distinct : Distinct (labels t)
  pub fit : IsFit t.rule (AreAtHeads t.rule (at_heads t)) binding
  pub known : AreKnown j.known binding

-- from the one position on lie the admissible trials that come after the other
abbrev pub ComeAfter : Space → List ℕ → List ℕ → Type 0
ComeAfter s place t =
    (u : List ℕ) → IsTrial s u →
    (at_or_after place u ≡ true) ↔ (at_or_after (just_after t) u ≡ true)
