-- A plan while it grows.
use Rattle.std.proofs.Common.{◌≡◌, ℕ, zero, suc, ◌+◌, ◌<◌, ◌≤◌, Bool, false, ◌==◌, ◌||◌, if◌then◌else◌, List, [], ◌∷◌, ◌++◌, length, refl, sym, ap, subst, ◌∙◌, arith, append_assoc, length-append}
use Rattle.std.specs.List.{list_any}
use Rattle.std.proofs.lemmas.Bool.Decides.{nat_tests}
use Rattle.std.proofs.lemmas.List.{append-nil}
use Rattle.std.proofs.lemmas.List.Folds.{list_any-append}
use Rattle.chr_rule.specs.Rules.{RuleAtom}
use Rattle.chr_plan.specs.Orders.{head_in, binds, is_bound, is_named, IsOpen, IsNext, EachNext, first_step, IsPlan}
use Rattle.chr_plan.specs.declared.order.Step.{Step}

-- how many of the first n heads are open
abbrev pub opens : ℕ → List Step → ℕ
opens zero before = 0
opens (suc n) before = (if is_named before (suc n) then 0 else 1) + opens n before

pub any_push : {A : Type 0} (p : A → Bool) (xs : List A) (x : A) → list_any p (xs ++ x ∷ []) ≡ (p x || list_any p xs)
any_push p xs x = let apart = list_any-append p xs (x ∷ []) in grind arith

named_push : (before : List Step) (s : Step) (j : ℕ) → is_named (before ++ s ∷ []) j ≡ ((s.head == j) || is_named before j)
named_push before s j = any_push (λ s. s.head == j) before s

opens_above : (n : ℕ) (before : List Step) (s : Step) → n < s.head → opens n (before ++ s ∷ []) ≡ opens n before
opens_above zero before s h = refl
opens_above (suc n) before s h = let below = opens_above n before s (omega arith) in grind (arith, nat_tests, named_push before s (suc n))

pub opens_push : (n : ℕ) (before : List Step) (s : Step) → is_named before s.head ≡ false → 1 ≤ s.head → s.head ≤ n → opens n (before ++ s ∷ []) + 1 ≡ opens n before
opens_push zero before s u f t = absurd (omega arith)
opens_push (suc n) before s u f t = grind (arith, nat_tests, named_push before s (suc n), opens_above n before s, opens_push n before s u f)

opens_all : (n : ℕ) → opens n [] ≡ n
opens_all zero = refl
opens_all (suc n) = omega (arith, opens_all n)

pub record Planning (heads : List (RuleAtom ℕ)) (h : ℕ) (bound : ℕ → Bool) (order : List Step) : Type 0 where
  pub rest : List Step
  pub first : order ≡ first_step heads h ∷ rest
  pub next : EachNext heads (first_step heads h ∷ []) rest
  pub count : length order + opens (length heads) order ≡ length heads
  pub agrees : (x : ℕ) → bound x ≡ is_bound heads order x

each_push : (heads : List (RuleAtom ℕ)) (before steps : List Step) (s : Step) → EachNext heads before steps → IsNext heads (before ++ steps) s → EachNext heads before (steps ++ s ∷ [])
each_push heads before [] s e n = (subst (λ (b : List Step). IsNext heads b s) (append-nil before) n, tt)
each_push heads before (t ∷ steps) s e n = (e.0, each_push heads (before ++ t ∷ []) steps s e.1 (subst (λ (b : List Step). IsNext heads b s) (sym (append_assoc before (t ∷ []) steps)) n))

pub planning_start : (heads : List (RuleAtom ℕ)) (h : ℕ) (bound : ℕ → Bool) → 1 ≤ h → h ≤ length heads → ((x : ℕ) → bound x ≡ (binds (head_in heads h) x || false)) → Planning heads h bound (first_step heads h ∷ [])
planning_start heads h bound f t b = record {
  rest = [];
  first = refl;
  next = tt;
  count = (let one = opens_push (length heads) [] (first_step heads h) refl f t in let all = opens_all (length heads) in omega (arith, one, all));
  agrees = b;
}

pub planning_push : (heads : List (RuleAtom ℕ)) (h : ℕ) (old new : ℕ → Bool) (order : List Step) (s : Step) → Planning heads h old order → IsNext heads order s → ((x : ℕ) → new x ≡ (binds (head_in heads s.head) x || old x)) → Planning heads h new (order ++ s ∷ [])
planning_push heads h old new order s p n b = record {
  rest = p.rest ++ s ∷ [];
  first = ap (λ (z : List Step). z ++ s ∷ []) p.first;
  next = each_push heads (first_step heads h ∷ []) p.rest s p.next (subst (λ (z : List Step). IsNext heads z s) p.first n);
  count = (let one = opens_push (length heads) order s n.open_head.unnamed n.open_head.from n.open_head.to in let c = p.count in let l = length-append order (s ∷ []) in omega (arith, one, c, l));
  agrees = λ x. b x ∙ ap (λ v. binds (head_in heads s.head) x || v) (p.agrees x) ∙ sym (any_push (λ t. binds (head_in heads t.head) x) order s);
}

pub planning_room : (heads : List (RuleAtom ℕ)) (h : ℕ) (old : ℕ → Bool) (order : List Step) (s : Step) → Planning heads h old order → IsNext heads order s → length order < length heads
planning_room heads h old order s p n = let one = opens_push (length heads) order s n.open_head.unnamed n.open_head.from n.open_head.to in let c = p.count in omega (arith, one, c)

pub planning_end : (heads : List (RuleAtom ℕ)) (h : ℕ) (old : ℕ → Bool) (order : List Step) → Planning heads h old order → ((j : ℕ) → IsOpen heads order j → ⊥) → IsPlan heads h order
planning_end heads h old order p a = record { rest = p.rest; first = p.first; next = p.next; all = a }
