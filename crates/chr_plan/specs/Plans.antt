-- The plans of a program: one for each rule and head.
use Rattle.std.specs.Prelude.{◌≡◌, ℕ, zero, suc, ◌*◌, ◌≤◌, List, [], ◌∷◌, ◌++◌, length, map, take, drop, Option, Some, None, slice_get}
use Rattle.std.specs.List.{AllByRecursion}
use Rattle.chr_value.specs.Bounds.{most_heads}
use Rattle.chr_rule.specs.Rules.{Simpagation}
use Rattle.chr_plan.specs.Orders.{heads_of, IsPlan}
use Rattle.chr_plan.specs.declared.order.Step.{Step}

abbrev pub PlanList : Type 0
PlanList = List (List (List Step))

-- the plans of each rule, where all orders stand in one list, six for each rule: its plans come
-- first, as many as its count says, and the others are not used
abbrev pub in_rows : List ℕ → List (List Step) → PlanList
in_rows [] orders = []
in_rows (n ∷ counts) orders = take n orders ∷ in_rows counts (drop most_heads orders)

-- there are six orders for each rule, and it has at most six plans
pub record AreRows (counts : List ℕ) (many : ℕ) : Type 0 where
  pub six : many ≡ most_heads * length counts
  pub few : AllByRecursion (λ n. n ≤ most_heads) counts

abbrev pub order_in : Option (List (List Step)) → ℕ → Option (List Step)
order_in None h = None
order_in (Some orders) zero = None
order_in (Some orders) (suc h) = slice_get orders h

abbrev pub orders_at : PlanList → ℕ → Option (List (List Step))
orders_at plans zero = None
orders_at plans (suc r) = slice_get plans r

-- the plan of a rule and a head, both by their numbers from 1
abbrev pub plan_at : PlanList → ℕ → ℕ → Option (List Step)
plan_at plans r h = order_in (orders_at plans r) h

-- a plan for each head of the rule
pub record AreOrders (rule : Simpagation ℕ) (orders : List (List Step)) : Type 0 where
  pub count : length orders ≡ length (heads_of rule)
  pub each : (i : ℕ) (order : List Step) → slice_get orders i ≡ Some order →
      IsPlan (heads_of rule) (suc i) order

-- and for each rule of the program
pub record ArePlans (rules : List (Simpagation ℕ)) (plans : PlanList) : Type 0 where
  pub count : length plans ≡ length rules
  pub each : (i : ℕ) (rule : Simpagation ℕ) (orders : List (List Step)) →
      slice_get rules i ≡ Some rule → slice_get plans i ≡ Some orders → AreOrders rule orders

-- n orders more, of which the i-th is the plan of the rule's i-th head
pub record IsRowOf {O : Type 0} (items : O → List Step) (rule : Simpagation ℕ) (n : ℕ)
    (old new : List O) : Type 0 where
  pub row : List O
  pub is : new ≡ old ++ row
  pub count : length row ≡ n
  pub each : (i : ℕ) (order : List Step) → slice_get (map items row) i ≡ Some order →
      suc i ≤ length (heads_of rule) → IsPlan (heads_of rule) (suc i) order
