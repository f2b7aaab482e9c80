-- Trials of the active label alone, at rules of one head.
use Rattle.std.specs.Prelude.{⊤, ◌≡◌, ℕ, ◌+◌, List, [], ◌∷◌, length, map, Option, Some, None}
use Rattle.std.specs.List.{AllByRecursion}
use Rattle.chr_value.specs.declared.atom.Pred.{Pred}
use Rattle.chr_rule.specs.Rules.{Simpagation, of_parts, rule_at}
use Rattle.chr_rule.specs.Occurrences.{IsNextOccurrence}
use Rattle.chr_plan.specs.Orders.{heads_of}
use Rattle.chr_search.specs.Verdicts.{Placed, Trial, IsFormed}
use Rattle.chr_sheet.specs.declared.column.OneHead.{OneHead as CodeOneHead}

-- a rule with its number, and a head of it
pub record Head : Type 0 where
  pub rule : Simpagation ℕ
  pub number : ℕ
  pub head : ℕ

-- a rule, and one without heads where there is none
abbrev pub rule_or_none : Option (Simpagation ℕ) → Simpagation ℕ
rule_or_none (Some rule) = rule
rule_or_none None = of_parts 0 [] [] [] []

-- a head of a rule of a number among these
abbrev pub head_in : List (Simpagation ℕ) → CodeOneHead → Head
head_in rules h =
    record { rule = rule_or_none (rule_at rules h.number); number = h.number; head = h.head }

-- a trial, and heads of other rules
pub record Column : Type 0 where
  pub first : Trial
  pub more : List Head

-- a trial's label at another head
abbrev pub at_head : Trial → Head → Trial
at_head t h =
    record {
      rule = h.rule;
      number = h.number;
      head = h.head;
      placed = map (λ (p : Placed). record p { head = h.head }) t.placed;
    }

-- its trials: the first one, and its label at each of the heads
abbrev pub column_trials : Column → List Trial
column_trials c = c.first ∷ map (at_head c.first) c.more

-- they have one label, and all heads
pub record IsColumn (c : Column) : Type 0 where
  pub alone : length c.first.placed ≡ 1
  pub full : AllByRecursion (λ t. length (heads_of t.rule) ≡ 1) (column_trials c)
  pub formed : AllByRecursion IsFormed (column_trials c)

-- heads of rules of one head: the first is the next one with a predicate past a rule and a head,
-- and each other the next past the one before
abbrev pub AreNextHeads : List (Simpagation ℕ) → Pred → ℕ → ℕ → List Head → Type 0
AreNextHeads rules p r h [] = ⊤
AreNextHeads rules p r h (o ∷ os) =
    IsNextOccurrence rules p r (h + 1) (o.number, o.head) × (rule_at rules o.number ≡ Some o.rule) ×
    (length (heads_of o.rule) ≡ 1) × AreNextHeads rules p o.number o.head os
