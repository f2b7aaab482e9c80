-- What follows from the definition of a plan.
use Rattle.std.specs.Prelude.{◌≡◌, ℕ, suc, ◌≤◌, true, List, length, Some, slice_get, take}
use Rattle.chr_rule.specs.Rules.{RuleAtom}
use Rattle.chr_plan.specs.Orders.{is_named, IsNext, IsPlan}
use Rattle.chr_plan.specs.declared.order.Step.{Step}

-- a head has one plan
abbrev pub OnePlan : Type 0
OnePlan =
    (heads : List (RuleAtom ℕ)) (h : ℕ) (p q : List Step) → IsPlan heads h p → IsPlan heads h q →
    p ≡ q

-- a plan names every head
abbrev pub NamesEachHead : Type 0
NamesEachHead =
    (heads : List (RuleAtom ℕ)) (h : ℕ) (p : List Step) → IsPlan heads h p → (j : ℕ) → 1 ≤ j →
    j ≤ length heads → is_named p j ≡ true

-- each step after the first is the next after those before it: none of them names its head, and
-- they bind its key
abbrev pub EachStepIsNext : Type 0
EachStepIsNext =
    (heads : List (RuleAtom ℕ)) (h : ℕ) (p : List Step) → IsPlan heads h p → (i : ℕ) (s : Step) →
    slice_get p (suc i) ≡ Some s → IsNext heads (take (suc i) p) s
