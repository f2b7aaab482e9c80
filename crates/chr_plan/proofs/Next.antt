-- The search for the next step, head by head.
use Rattle.std.proofs.Common.{◌≡◌, ℕ, ◌+◌, ◌≤◌, Bool, true, false, List, length, Option, Some, None, is_some, MatchOption, sym, ap, ◌∙◌, arith}
use Rattle.std.specs.Option.{unwrap_or}
use Rattle.std.proofs.lemmas.Bool.{false≢true, cases_eq, cases_lt}
use Rattle.chr_rule.specs.Rules.{RuleAtom}
use Rattle.chr_plan.specs.Orders.{head_in, is_bound, key_in, key_of, fresh_in, fresh_of, is_named, IsOpen, IsNext}
use Rattle.chr_plan.specs.declared.order.Step.{Step}

-- the least open head so far, without a key
pub record IsFirst (heads : List (RuleAtom ℕ)) (before : List Step) (i : ℕ) (s : Step) : Type 0 where
  pub open_head : IsOpen heads before s.head
  pub within : s.head ≤ i
  pub none : s.key ≡ None
  pub key : s.key ≡ key_of heads before s.head
  pub fresh : s.fresh ≡ fresh_of heads before s.head s.key
  pub least : (j : ℕ) → IsOpen heads before j → s.head ≤ j

-- the heads up to i have no key where they are open, and this is the first of them
pub record Passed (heads : List (RuleAtom ℕ)) (before : List Step) (i : ℕ) (first : Option Step) : Type 0 where
  pub unkeyed : (j : ℕ) → IsOpen heads before j → j ≤ i → key_of heads before j ≡ None
  pub first_is : MatchOption first ((j : ℕ) → IsOpen heads before j → j ≤ i → ⊥) (IsFirst heads before i)

-- the same key, wherever the bound variables are read
pub same_key : (heads : List (RuleAtom ℕ)) (before : List Step) (f : ℕ → Bool) (j : ℕ) → ((x : ℕ) → f x ≡ is_bound heads before x) → key_in f (head_in heads j) ≡ key_of heads before j
same_key heads before f j h = let e : f ≡ is_bound heads before = λ i x. h x i in ap (λ (g : ℕ → Bool). key_in g (head_in heads j)) e

-- the same of what is new
pub same_fresh : (heads : List (RuleAtom ℕ)) (before : List Step) (f : ℕ → Bool) (j : ℕ) (key : Option ℕ) → ((x : ℕ) → f x ≡ is_bound heads before x) → fresh_in f (head_in heads j) key ≡ fresh_of heads before j key
same_fresh heads before f j key h = let e : f ≡ is_bound heads before = λ i x. h x i in ap (λ (g : ℕ → Bool). fresh_in g (head_in heads j) key) e

pub passed_start : (heads : List (RuleAtom ℕ)) (before : List Step) → Passed heads before 0 None
passed_start heads before = record { unkeyed = λ j o h. absurd (omega (arith, o.from, h)); first_is = λ j o h. omega (arith, o.from, h) }

pub passed_named : (heads : List (RuleAtom ℕ)) (before : List Step) (i : ℕ) (first : Option Step) → is_named before (i + 1) ≡ true → Passed heads before i first → Passed heads before (i + 1) first
passed_named heads before i first n h = record { unkeyed = λ j o l. h.unkeyed j o (below j o l); first_is = firsts first h.first_is }
  where
    below : (j : ℕ) → IsOpen heads before j → j ≤ i + 1 → j ≤ i
    below j o l = grind (arith, cases_eq j (i + 1), o.unnamed)

    firsts : (first : Option Step) → MatchOption first ((j : ℕ) → IsOpen heads before j → j ≤ i → ⊥) (IsFirst heads before i) → MatchOption first ((j : ℕ) → IsOpen heads before j → j ≤ i + 1 → ⊥) (IsFirst heads before (i + 1))
    firsts None k = λ j o l. k j o (below j o l)
    firsts (Some s) k = record { open_head = k.open_head; within = (let w : s.head ≤ i = k.within in omega arith); none = k.none; key = k.key; fresh = k.fresh; least = k.least }

pub passed_open : (heads : List (RuleAtom ℕ)) (before : List Step) (i : ℕ) (first : Option Step) (s : Step) → s.head ≡ i + 1 → IsOpen heads before s.head → s.key ≡ key_of heads before s.head → s.fresh ≡ fresh_of heads before s.head s.key → s.key ≡ None → Passed heads before i first → Passed heads before (i + 1) (Some (unwrap_or first s))
passed_open heads before i first s e o k f n h = record { unkeyed = λ j p l. grind (arith, cases_eq j s.head, h.unkeyed j p); first_is = firsts first h.first_is }
  where
    firsts : (first : Option Step) → MatchOption first ((j : ℕ) → IsOpen heads before j → j ≤ i → ⊥) (IsFirst heads before i) → IsFirst heads before (i + 1) (unwrap_or first s)
    firsts None m = record { open_head = o; within = omega arith; none = n; key = k; fresh = f; least = λ j p. grind (arith, cases_lt i j, m j p) }
    firsts (Some t) m = record { open_head = m.open_head; within = (let w : t.head ≤ i = m.within in omega arith); none = m.none; key = m.key; fresh = m.fresh; least = m.least }

pub passed_found : (heads : List (RuleAtom ℕ)) (before : List Step) (i : ℕ) (first : Option Step) (s : Step) → s.head ≡ i + 1 → IsOpen heads before s.head → s.key ≡ key_of heads before s.head → s.fresh ≡ fresh_of heads before s.head s.key → is_some s.key ≡ true → Passed heads before i first → IsNext heads before s
passed_found heads before i first s e o k f t h = record { open_head = o; key = k; fresh = f; keyed = λ j p q. t; least = λ j p q. grind (arith, cases_lt i j, h.unkeyed j p) }

pub passed_end : (heads : List (RuleAtom ℕ)) (before : List Step) (first : Option Step) → Passed heads before (length heads) first → MatchOption first ((j : ℕ) → IsOpen heads before j → ⊥) (IsNext heads before)
passed_end heads before first h = ends first h.first_is
  where
    ends : (first : Option Step) → MatchOption first ((j : ℕ) → IsOpen heads before j → j ≤ length heads → ⊥) (IsFirst heads before (length heads)) → MatchOption first ((j : ℕ) → IsOpen heads before j → ⊥) (IsNext heads before)
    ends None m = λ j o. m j o o.to
    ends (Some s) m = record {
      open_head = m.open_head;
      key = m.key;
      fresh = m.fresh;
      keyed = λ j o t. absurd (false≢true (ap is_some (sym (h.unkeyed j o o.to)) ∙ t));
      least = λ j o q. m.least j o;
    }

pub key_none : (key : Option ℕ) → is_some key ≡ false → key ≡ None
key_none key h = grind arith
