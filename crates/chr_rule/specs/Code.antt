-- A code of expressions, by which proofs tell them apart: an expression as a list of marks,
-- operators before their sides.
use Rattle.std.specs.Prelude.{◌≡◌, ℕ, zero, suc, ℤ, List, [], ◌∷◌, refl}
use Rattle.std.proofs.Common.{◌⊎◌, inl, inr, ap, ◌∙◌}
use Rattle.std.specs.Coded.{Coded, code_by, coded⊎, coded_ℕ, coded_ℤ, coded_list}
use Rattle.chr_rule.specs.declared.expression.Operator.{Operator}
use Rattle.chr_rule.specs.declared.expression.Operator.TheVariants as operators
use Rattle.chr_rule.specs.Rules.{Expression, Number, Variable, Operation}

abbrev pub number_of : Operator → ℕ
number_of operators.Add = 0
number_of operators.Sub = 1
number_of operators.Mul = 2
number_of operators.Quot = 3
number_of operators.Rem = 4
number_of operators.Mod = 5

abbrev pub operator_of : ℕ → Operator
operator_of zero = operators.Add
operator_of (suc zero) = operators.Sub
operator_of (suc (suc zero)) = operators.Mul
operator_of (suc (suc (suc zero))) = operators.Quot
operator_of (suc (suc (suc (suc zero)))) = operators.Rem
operator_of (suc (suc (suc (suc (suc n))))) = operators.Mod

abbrev pub operator_again : (o : Operator) → operator_of (number_of o) ≡ o
operator_again operators.Add = refl
operator_again operators.Sub = refl
operator_again operators.Mul = refl
operator_again operators.Quot = refl
operator_again operators.Rem = refl
operator_again operators.Mod = refl

-- a number, a variable or an operator
abbrev pub Mark : Type 0
Mark = ℤ ⊎ (ℕ ⊎ ℕ)

abbrev pub marks : Expression → List Mark → List Mark
marks (Number z) k = inl z ∷ k
marks (Variable x) k = inr (inl x) ∷ k
marks (Operation o a b) k = inr (inr (number_of o)) ∷ marks a (marks b k)

-- the expressions that marks spell, read from their end
abbrev pub step : Mark → List Expression → List Expression
step (inl z) es = Number z ∷ es
step (inr (inl x)) es = Variable x ∷ es
step (inr (inr o)) (a ∷ b ∷ es) = Operation (operator_of o) a b ∷ es
step (inr (inr o)) (a ∷ []) = []
step (inr (inr o)) [] = []

abbrev pub spelled : List Mark → List Expression
spelled [] = []
spelled (m ∷ ms) = step m (spelled ms)

abbrev pub first : List Expression → Expression
first [] = Variable 0
first (e ∷ es) = e

abbrev pub marks_back : (e : Expression) (k : List Mark) (es : List Expression) → spelled k ≡ es →
    spelled (marks e k) ≡ e ∷ es
marks_back (Number z) k es h = ap (λ (w : List Expression). Number z ∷ w) h
marks_back (Variable x) k es h = ap (λ (w : List Expression). Variable x ∷ w) h
marks_back (Operation o a b) k es h =
    ap (step (inr (inr (number_of o)))) (marks_back a (marks b k) (b ∷ es) (marks_back b k es h)) ∙
    ap (λ (p : Operator). Operation p a b ∷ es) (operator_again o)

abbrev pub expression_again : (e : Expression) → first (spelled (marks e [])) ≡ e
expression_again e = ap first (marks_back e [] [] refl)

abbrev pub expression_code : Coded Expression
expression_code =
    code_by (List Mark) (coded_list (coded⊎ coded_ℤ (coded⊎ coded_ℕ coded_ℕ))) (λ e. marks e [])
    (λ ms. first (spelled ms)) expression_again
