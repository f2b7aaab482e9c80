-- The heads' atoms fix the body's.
use Rattle.std.proofs.Common.{◌≡◌, ℕ, suc, ◌<◌, true, List, [], ◌∷◌, ◌++◌, map, Some, sym, ◌∙◌, ap, ap₂, subst, refl, arith, option_map}
use Rattle.std.specs.List.{AllByRecursion, list_all}
use Rattle.std.proofs.lemmas.Bool.{and_parts, ltb-true}
use Rattle.chr_value.specs.Atoms.{Int, Comp, Atom}
use Rattle.chr_rule.specs.Rules.{Term, Var, Given, Open, Terms, End, And, RuleAtom, Expression, Number, Variable, Operation, Comparison, Compared, Same, Differ, BodyItem, Is, Add, Simpagation}
use Rattle.chr_rule.specs.Scope.{known_after_heads, known_after_body, argument_known, arguments_known, expression_known, test_known, IsRule}
use Rattle.chr_guard.specs.Values.{Valuation, value_of, number_in, term_under, terms_under, within_limits, value_under, Holds}
use Rattle.chr_guard.specs.Instances.{all_values, made_under, AreUnder, IsRight, added, Instance}
use Rattle.chr_guard.proofs.Scoped.{is_known, add_known, scoped, body_below, args_later}
use Rattle.chr_guard.proofs.Under.{under_append, somes, heads_walk}

-- two valuations that give the first n variables the same terms
abbrev pub Agree : Valuation → Valuation → ℕ → Type 0
Agree v w n = (x : ℕ) → x < n → v x ≡ w x

agree_next : (v w : Valuation) (n : ℕ) → Agree v w n → v n ≡ w n → Agree v w (suc n)
agree_next v w n a e x h = grind (arith, a x)

-- valuations that give the same atoms agree on the heads' variables
pub heads_agree : (v w : Valuation) (n m : ℕ) (hs : List (RuleAtom ℕ)) (atoms : List (Atom ℕ)) → known_after_heads n hs ≡ Some m → AreUnder v hs atoms → AreUnder w hs atoms → Agree v w n → Agree v w m
heads_agree v w n m hs atoms k e f a = heads_walk v w (Agree v w) (λ x u i j b. agree_next v w x b (i ∙ sym j)) n m hs atoms k e f a

pub value_agrees : (v w : Valuation) (n : ℕ) (e : Expression) → Agree v w n → expression_known n e ≡ true → value_of v e ≡ value_of w e
value_agrees v w n (Number z) a k = refl
value_agrees v w n (Variable x) a k = ap number_in (a x (ltb-true x n k))
value_agrees v w n (Operation o l r) a k = grind (arith, value_agrees v w n l a, value_agrees v w n r a)

mutual
  pub term_agrees : (v w : Valuation) (n : ℕ) (t : Term ℕ) → Agree v w n → argument_known n t ≡ true → term_under v t ≡ term_under w t
  term_agrees v w n (Var x) a k = a x (ltb-true x n k)
  term_agrees v w n (Given t) a k = refl
  term_agrees v w n (Open s ts) a k = ap (option_map (Comp s)) (terms_agrees v w n ts a k)

  terms_agrees : (v w : Valuation) (n : ℕ) (ts : Terms ℕ) → Agree v w n → arguments_known n ts ≡ true → terms_under v ts ≡ terms_under w ts
  terms_agrees v w n End a k = refl
  terms_agrees v w n (And t ts) a k = grind (arith, term_agrees v w n t a, terms_agrees v w n ts a)

pub limited_agrees : (v w : Valuation) (n : ℕ) (t : Term ℕ) → Agree v w n → argument_known n t ≡ true → value_under v t ≡ value_under w t
limited_agrees v w n t a k = ap within_limits (term_agrees v w n t a k)

pub args_known_agree : (v w : Valuation) (n : ℕ) (args : List (Term ℕ)) → Agree v w n → list_all (argument_known n) args ≡ true → all_values (value_under v) args ≡ all_values (value_under w) args
args_known_agree v w n [] a k = refl
args_known_agree v w n (t ∷ args) a k = grind (arith, limited_agrees v w n t a, args_known_agree v w n args a)

pub made_agrees : (v w : Valuation) (n : ℕ) (s : RuleAtom ℕ) → Agree v w n → list_all (argument_known n) s.args ≡ true → made_under v s ≡ made_under w s
made_agrees v w n s a k = ap (option_map (λ values. record { name = s.name; args = values })) (args_known_agree v w n s.args a k)

test_agrees : (v w : Valuation) (n : ℕ) (t : Comparison ℕ) → Agree v w n → test_known n t ≡ true → Holds v t → Holds w t
test_agrees v w n (Compared r l m) a k h = grind (arith, value_agrees v w n l a, value_agrees v w n m a)
test_agrees v w n (Same s t) a k h = grind (arith, limited_agrees v w n s a, limited_agrees v w n t a)
test_agrees v w n (Differ s t) a k h = grind (arith, limited_agrees v w n s a, limited_agrees v w n t a)

pub guard_agrees : (v w : Valuation) (n : ℕ) (ts : List (Comparison ℕ)) → Agree v w n → list_all (test_known n) ts ≡ true → AllByRecursion (Holds v) ts → AllByRecursion (Holds w) ts
guard_agrees v w n [] a k h = tt
guard_agrees v w n (t ∷ ts) a k h = let two = and_parts (test_known n t) (list_all (test_known n) ts) k in (test_agrees v w n t a two.0 h.0, guard_agrees v w n ts a two.1 h.1)

-- valuations under which each `is` is right agree on the body's variables
body_agrees : (v w : Valuation) (n m : ℕ) (ms : List (BodyItem ℕ)) → known_after_body n ms ≡ Some m → Agree v w n → AllByRecursion (IsRight v) ms → AllByRecursion (IsRight w) ms → Agree v w m
body_agrees v w n m [] k a p q = let s : n ≡ m = cc in subst (Agree v w) s a
body_agrees v w n m (Is x e ∷ ms) k a p q =
    is_known n m x e ms k (λ s known j.
    let left : Some p.0.0 ≡ Some q.0.0 = sym p.0.1 ∙ value_agrees v w n e a known ∙ q.0.1 in
    let number : p.0.0 ≡ q.0.0 = cc in
    body_agrees v w (suc n) m ms j (agree_next v w n a (subst (λ y. v y ≡ w y) s (p.0.2 ∙ ap (λ z. Some (Int z)) number ∙ sym q.0.2))) p.1 q.1)
body_agrees v w n m (Add s ∷ ms) k a p q = add_known n m s ms k (λ _ j. body_agrees v w n m ms j a p.1 q.1)

-- the same constraints are added where all variables agree
pub added_agrees : (v w : Valuation) (n m : ℕ) (ms : List (BodyItem ℕ)) → known_after_body n ms ≡ Some m → Agree v w m → map (made_under v) (added ms) ≡ map (made_under w) (added ms)
added_agrees v w n m [] k a = refl
added_agrees v w n m (Is x e ∷ ms) k a = is_known n m x e ms k (λ _ _ j. added_agrees v w (suc n) m ms j a)
added_agrees v w n m (Add s ∷ ms) k a =
    add_known n m s ms k (λ known j.
    ap₂ (λ y ys. y ∷ ys) (made_agrees v w m s a (args_later n m s.args (body_below n m ms j) known)) (added_agrees v w n m ms j a))

-- an instance's body is fixed by its heads
pub body_fixed : (rule : Simpagation ℕ) → IsRule rule → (kept removed body other : List (Atom ℕ)) → Instance rule kept removed body → Instance rule kept removed other → body ≡ other
body_fixed rule r kept removed body other i j =
    let s = scoped rule r in
    let agree = heads_agree i.valuation j.valuation 0 s.count (rule.kept ++ rule.removed) (kept ++ removed) s.heads (under_append i.valuation rule.kept rule.removed kept removed i.kept_are i.removed_are) (under_append j.valuation rule.kept rule.removed kept removed j.kept_are j.removed_are) (λ x h. absurd (omega arith)) in
    somes body other (sym i.body_is ∙ added_agrees i.valuation j.valuation s.count rule.variables rule.body s.body (body_agrees i.valuation j.valuation s.count rule.variables rule.body s.body agree i.right j.right) ∙ j.body_is)
