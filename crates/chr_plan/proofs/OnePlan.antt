-- The definition of a plan leaves no choice.
use Rattle.std.proofs.lemmas.Bool.{true_from_ne_false}
use Rattle.std.proofs.Common.{◌≡◌, ℕ, ◌≤◌, Bool, true, List, [], ◌∷◌, ◌++◌, length, Some, None, is_some, refl, sym, ap, ap₂, subst, ◌∙◌, arith, append_assoc, zero, suc, take, slice_get}
use Rattle.std.proofs.lemmas.List.{append-nil}
use Rattle.chr_rule.specs.Rules.{RuleAtom}
use Rattle.chr_plan.specs.Orders.{key_of, fresh_of, is_named, IsOpen, IsNext, EachNext, first_step, IsPlan}
use Rattle.chr_plan.specs.declared.order.Step.{Step}

same_kind : (a b : Bool) → (a ≡ true → b ≡ true) → (b ≡ true → a ≡ true) → a ≡ b
same_kind a b f g = grind arith

next_same : (heads : List (RuleAtom ℕ)) (before : List Step) (s t : Step) → IsNext heads before s → IsNext heads before t → s ≡ t
next_same heads before s t m n =
    let kind : is_some s.key ≡ is_some t.key = same_kind (is_some s.key) (is_some t.key)
    (λ e. n.keyed s.head m.open_head (sym (ap is_some m.key) ∙ e)) (λ e. m.keyed t.head n.open_head (sym (ap is_some n.key) ∙ e)) in
    let head : s.head ≡ t.head = omega (arith, m.least t.head n.open_head (sym (ap is_some n.key) ∙ sym kind), n.least s.head m.open_head (sym (ap is_some m.key) ∙ kind)) in
    let key : s.key ≡ t.key = m.key ∙ ap (key_of heads before) head ∙ sym n.key in
    let fresh : s.fresh ≡ t.fresh = m.fresh ∙ ap₂ (fresh_of heads before) head key ∙ sym n.fresh in
    λ i. record { head = head i; key = key i; fresh = fresh i }

each_same : (heads : List (RuleAtom ℕ)) (before xs ys : List Step) → EachNext heads before xs → EachNext heads before ys → ((j : ℕ) → IsOpen heads (before ++ xs) j → ⊥) → ((j : ℕ) → IsOpen heads (before ++ ys) j → ⊥) → xs ≡ ys
each_same heads before [] [] m n a b = refl
each_same heads before [] (y ∷ ys) m n a b = absurd (a y.head (subst (λ (z : List Step). IsOpen heads z y.head) (sym (append-nil before)) n.0.open_head))
each_same heads before (x ∷ xs) [] m n a b = absurd (b x.head (subst (λ (z : List Step). IsOpen heads z x.head) (sym (append-nil before)) m.0.open_head))
each_same heads before (x ∷ xs) (y ∷ ys) m n a b =
    let same : y ≡ x = next_same heads before y x n.0 m.0 in
    let rest : xs ≡ ys = each_same heads (before ++ x ∷ []) xs ys m.1 (subst (λ (z : Step). EachNext heads (before ++ z ∷ []) ys) same n.1)
    (λ j o. a j (subst (λ (z : List Step). IsOpen heads z j) (append_assoc before (x ∷ []) xs) o))
    (λ j o. b j (subst (λ (z : List Step). IsOpen heads z j) (append_assoc before (x ∷ []) ys ∙ ap (λ (z : Step). before ++ z ∷ ys) (sym same)) o)) in
    ap₂ (λ (z : Step) (zs : List Step). z ∷ zs) (sym same) rest

pub one_plan_fact : (heads : List (RuleAtom ℕ)) (h : ℕ) (p q : List Step) → IsPlan heads h p → IsPlan heads h q → p ≡ q
one_plan_fact heads h p q m n =
    let rest : m.rest ≡ n.rest = each_same heads (first_step heads h ∷ []) m.rest n.rest m.next n.next
    (λ j o. m.all j (subst (λ (z : List Step). IsOpen heads z j) (sym m.first) o)) (λ j o. n.all j (subst (λ (z : List Step). IsOpen heads z j) (sym n.first) o)) in
    m.first ∙ ap (λ (z : List Step). first_step heads h ∷ z) rest ∙ sym n.first

pub names_each_fact : (heads : List (RuleAtom ℕ)) (h : ℕ) (p : List Step) → IsPlan heads h p → (j : ℕ) → 1 ≤ j → j ≤ length heads → is_named p j ≡ true
names_each_fact heads h p m j f t = true_from_ne_false (is_named p j) (λ e. m.all j (record { from = f; to = t; unnamed = e }))

next_at : (heads : List (RuleAtom ℕ)) (before xs : List Step) → EachNext heads before xs → (i : ℕ) (s : Step) → slice_get xs i ≡ Some s → IsNext heads (before ++ take i xs) s
next_at heads before [] e i s g = let n : None ≡ Some s = g in absurd (cc)
next_at heads before (x ∷ xs) e zero s g =
    let same : x ≡ s = (let q : Some x ≡ Some s = g in cc) in
    subst (λ (z : List Step). IsNext heads z s) (sym (append-nil before)) (subst (IsNext heads before) same e.0)
next_at heads before (x ∷ xs) e (suc i) s g =
    subst (λ (z : List Step). IsNext heads z s) (append_assoc before (x ∷ []) (take i xs)) (next_at heads (before ++ x ∷ []) xs e.1 i s g)

pub each_next_fact : (heads : List (RuleAtom ℕ)) (h : ℕ) (p : List Step) → IsPlan heads h p → (i : ℕ) (s : Step) → slice_get p (suc i) ≡ Some s → IsNext heads (take (suc i) p) s
each_next_fact heads h p m i s g =
    let there : slice_get m.rest i ≡ Some s = ap (λ (z : List Step). slice_get z (suc i)) (sym m.first) ∙ g in
    subst (λ (z : List Step). IsNext heads (take (suc i) z) s) (sym m.first) (next_at heads (first_step heads h ∷ []) m.rest m.next i s there)
