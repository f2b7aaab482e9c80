-- The places that the plans of a program look up.
use Rattle.std.specs.Prelude.{ℕ, ◌&&◌, Bool, not, List, [], ◌∷◌, ◌++◌, length, Option, Some, None, nat_eq}
use Rattle.std.specs.List.{filter}
use Rattle.chr_value.specs.declared.atom.Pred.{Pred}
use Rattle.chr_rule.specs.Rules.{RuleAtom, Simpagation}
use Rattle.chr_plan.specs.Orders.{heads_of, head_in}
use Rattle.chr_plan.specs.Plans.{PlanList}
use Rattle.chr_plan.specs.declared.order.Step.{Step}

-- a predicate and one of its places, from 1
abbrev pub Place : Type 0
Place = Pred × ℕ

abbrev pub same_place : Place → Place → Bool
same_place p q =
    (nat_eq p.0.name.number q.0.name.number && nat_eq p.0.arity q.0.arity) && nat_eq p.1 q.1

-- a head's predicate with a key
abbrev pub key_place : Option (RuleAtom ℕ) → Option ℕ → List Place
key_place None key = []
key_place (Some head) None = []
key_place (Some head) (Some key) =
    (record { name = record { number = head.name }; arity = length head.args }, key) ∷ []

-- what a function gives for each, in order
abbrev pub for_each : {X : Type 0} → (X → List Place) → List X → List Place
for_each f [] = []
for_each f (x ∷ xs) = f x ++ for_each f xs

-- the keys of a plan's steps, each with the predicate of its head
abbrev pub order_places : List (RuleAtom ℕ) → List Step → List Place
order_places heads order = for_each (λ s. key_place (head_in heads s.head) s.key) order

-- those of each plan, by rule and head
abbrev pub keys_met : List (Simpagation ℕ) → PlanList → List Place
keys_met [] plans = []
keys_met (rule ∷ rules) [] = []
keys_met (rule ∷ rules) (orders ∷ plans) =
    for_each (order_places (heads_of rule)) orders ++ keys_met rules plans

-- each once, where it is first
abbrev pub once : List Place → List Place
once [] = []
once (p ∷ ps) = p ∷ filter (λ q. not (same_place q p)) (once ps)

-- each place that is a key in some plan, once, in the order in which it is first met by rule, head
-- and step
abbrev pub places_of : List (Simpagation ℕ) → PlanList → List Place
places_of rules plans = once (keys_met rules plans)
