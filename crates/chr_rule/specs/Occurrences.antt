-- Where a program has heads of a predicate.
use Rattle.std.specs.Prelude.{◌≡◌, ℕ, ◌+◌, ◌<◌, ◌≤◌, ◌⊎◌, List, [], ◌∷◌, length, Some}
use Rattle.chr_value.specs.declared.atom.Pred.{Pred}
use Rattle.chr_rule.specs.declared.occurrences.Occurrence.{Occurrence}
use Rattle.chr_rule.specs.Rules.{RuleAtom, Simpagation, head_at, rule_at}

-- the predicate of a name with so many arguments
abbrev pub pred_of : ℕ → ℕ → Pred
pred_of n arity = record { name = record { number = n }; arity = arity }

-- a head has a predicate
pub record HasPred (head : RuleAtom ℕ) (p : Pred) : Type 0 where
  pub name : head.name ≡ p.name.number
  pub arity : length head.args ≡ p.arity

-- the head of a number has a predicate
pub record HasPredAt (rule : Simpagation ℕ) (p : Pred) (h : ℕ) : Type 0 where
  pub head : RuleAtom ℕ
  pub head_is : head_at rule h ≡ Some head
  pub pred : HasPred head p

-- the rule of a number has, at the head of a number, a predicate
pub record IsOccurrence (rules : List (Simpagation ℕ)) (p : Pred) (r h : ℕ) : Type 0 where
  pub rule : Simpagation ℕ
  pub rule_is : rule_at rules r ≡ Some rule
  pub at : HasPredAt rule p h

-- rule r and head h stand at or after rule s and head i: by rule, then by head
abbrev pub AtOrAfter : ℕ → ℕ → ℕ → ℕ → Type 0
AtOrAfter s i r h = (s < r) ⊎ ((s ≡ r) × (i ≤ h))

-- no occurrence stands at or after a rule and a head
abbrev pub NoneFrom : List (Simpagation ℕ) → Pred → ℕ → ℕ → Type 0
NoneFrom rules p s i = (r h : ℕ) → AtOrAfter s i r h → IsOccurrence rules p r h → ⊥

-- the least occurrence at or after a rule and a head
pub record IsNextOccurrence (rules : List (Simpagation ℕ)) (p : Pred) (s i : ℕ) (found : ℕ × ℕ)
    : Type 0 where
  pub occurs : IsOccurrence rules p found.0 found.1
  pub after : AtOrAfter s i found.0 found.1
  pub least : (r h : ℕ) → AtOrAfter s i r h → IsOccurrence rules p r h →
      AtOrAfter found.0 found.1 r h

-- heads of a predicate, as they are listed in order; heads of the same name with other numbers of
-- arguments may lie between
pub record HeadsFrom : Type 0 where
  pub pred : Pred
  pub rest : List Occurrence

-- the occurrences of a predicate at or after a rule and a head are those in a list that have its
-- number of arguments, in order
abbrev pub AreListedFrom : List (Simpagation ℕ) → Pred → ℕ → ℕ → List Occurrence → Type 0
AreListedFrom rules p s i [] = NoneFrom rules p s i
AreListedFrom rules p s i (o ∷ os) =
    ((o.arity ≡ p.arity → ⊥) → AreListedFrom rules p s i os)
    × (o.arity ≡ p.arity →
    IsNextOccurrence rules p s i (o.rule, o.head) ×
    AreListedFrom rules p o.rule (o.head + 1) os)

-- these are the heads of their predicate at or after a rule and a head
abbrev pub AreHeadsFrom : List (Simpagation ℕ) → HeadsFrom → ℕ → ℕ → Type 0
AreHeadsFrom rules heads s i = AreListedFrom rules heads.pred s i heads.rest
