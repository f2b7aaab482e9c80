-- Trials of an active label: a rule, a head, and labels for the heads in the plan's order, the
-- active one first.
use Rattle.std.specs.Prelude.{◌≡◌, ℕ, zero, suc, ◌<◌, ◌≤◌, List, [], ◌∷◌, length, Option, Some, None, slice_get}
use Rattle.chr_value.specs.Atoms.{Value, Atom}
use Rattle.chr_rule.specs.Rules.{Term, RuleAtom, Simpagation, head_at, rule_at}
use Rattle.chr_guard.specs.Values.{Valuation, term_under}
use Rattle.chr_guard.specs.Matching.{IsAtHead}
use Rattle.chr_model.specs.Stores.{Store, atom_at, Distinct}
use Rattle.chr_plan.specs.Plans.{PlanList, plan_at}
use Rattle.chr_plan.specs.declared.order.Step.{Step}
use Rattle.chr_store.specs.Keys.{arg_at}
use Rattle.chr_search.specs.Tree.{Children, Grows, Least, NoneBeyond}

-- where the partners of an active label are looked for: a rule and a plan of it, over a store,
-- below a bound
pub record Join : Type 0 where
  pub rule : Simpagation ℕ
  pub order : List Step
  pub store : Store
  pub active : ℕ
  pub bound : ℕ

-- under the valuation the step's head is the label's atom
pub record StandsAt (j : Join) (v : Valuation) (step : Step) (l : ℕ) : Type 0 where
  pub atom : Atom ℕ
  pub live : atom_at j.store l ≡ Some atom
  pub fits : IsAtHead j.rule v (step.head, atom)

-- under the valuation the heads of the steps are the labels' atoms, in this order
abbrev pub Fit : Join → Valuation → List Step → List ℕ → Type 0
Fit j v steps [] = Unit {0}
Fit j v [] (l ∷ ls) = ⊥
Fit j v (step ∷ steps) (l ∷ ls) = StandsAt j v step l × Fit j v steps ls

-- the atom has the head's predicate
abbrev pub HasHeadPred : RuleAtom ℕ → Atom ℕ → Type 0
HasHeadPred head atom = (atom.name ≡ head.name) × (length atom.args ≡ length head.args)

-- what the head has at a place, places being numbered from 1
abbrev pub value_in : Valuation → Option (Term ℕ) → Option (Value ℕ)
value_in v None = None
value_in v (Some t) = term_under v t

abbrev pub given_at : Valuation → RuleAtom ℕ → ℕ → Option (Value ℕ)
given_at v head zero = None
given_at v head (suc i) = value_in v (slice_get head.args i)

-- the atom has at the key's place the value that the head has there
abbrev pub HasKeyValue : Valuation → RuleAtom ℕ → Option ℕ → Atom ℕ → Type 0
HasKeyValue v head None atom = Unit {0}
HasKeyValue v head (Some place) atom =
    (value : Value ℕ) × (given_at v head place ≡ Some value) × (arg_at atom place ≡ Some value)

-- the active label comes first, and each other label lies below the bound
abbrev pub IsInTurn : Join → List ℕ → ℕ → Type 0
IsInTurn j [] l = l ≡ j.active
IsInTurn j (x ∷ xs) l = l < j.bound

-- the label is live, and its atom has the predicate of the step's head
pub record IsLiveFor (j : Join) (step : Step) (l : ℕ) : Type 0 where
  pub head : RuleAtom ℕ
  pub head_is : head_at j.rule step.head ≡ Some head
  pub atom : Atom ℕ
  pub live : atom_at j.store l ≡ Some atom
  pub pred : HasHeadPred head atom

-- A label may be tried after these: they are distinct and fit, and its atom has the next head's
-- predicate and, under that fit, the value of the plan's key.
pub record MayFollow (j : Join) (before : List ℕ) (l : ℕ) : Type 0 where
  pub turn : IsInTurn j before l
  pub distinct : Distinct before
  pub valuation : Valuation
  pub fits : Fit j valuation j.order before
  pub step : Step
  pub step_is : slice_get j.order (length before) ≡ Some step
  pub here : IsLiveFor j step l
  pub open here use *
  pub key : HasKeyValue valuation head step.key atom

-- what a search looks through: a program and its plans, over a store, for an active label with
-- partners below a bound
pub record Space : Type 0 where
  pub rules : List (Simpagation ℕ)
  pub plans : PlanList
  pub store : Store
  pub active : ℕ
  pub bound : ℕ

-- each partner is older than the active label
abbrev pub older : List (Simpagation ℕ) → PlanList → Store → ℕ → Space
older rules plans store label =
    record { rules = rules; plans = plans; store = store; active = label; bound = label }

abbrev pub join_in : Space → Simpagation ℕ → List Step → Join
join_in s rule order =
    record { rule = rule; order = order; store = s.store; active = s.active; bound = s.bound }

-- a rule and the plan of one of its heads
pub record IsPlanned (s : Space) (r h : ℕ) (rule : Simpagation ℕ) (order : List Step) : Type 0 where
  pub rule_is : rule_at s.rules r ≡ Some rule
  pub order_is : plan_at s.plans r h ≡ Some order

-- how trials grow: a rule of the program, a head of it that has a plan, and labels
abbrev pub Child : Space → Children
Child s [] r = (rule : Simpagation ℕ) × (rule_at s.rules r ≡ Some rule)
Child s (r ∷ []) h = (rule : Simpagation ℕ) × (order : List Step) × IsPlanned s r h rule order
Child s (r ∷ h ∷ before) l =
    (rule : Simpagation ℕ) × (order : List Step) × IsPlanned s r h rule order ×
    MayFollow (join_in s rule order) before l

-- an admissible trial: a rule, a head and at least the active label
pub record IsTrial (s : Space) (t : List ℕ) : Type 0 where
  pub grows : Grows (Child s) [] t
  pub deep : 3 ≤ length t

-- the least admissible trial at or after a position, and none
abbrev pub IsNext : Space → List ℕ → List ℕ → Type 0
IsNext s place t = Least (Child s) 3 [] place t

abbrev pub NoneLeft : Space → List ℕ → Type 0
NoneLeft s place = NoneBeyond (Child s) 3 [] place
