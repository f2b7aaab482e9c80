-- A code of terms, by which proofs tell them apart: a term as a list of marks, a functor with its
-- count before its arguments.
use Rattle.std.specs.Prelude.{◌≡◌, ℕ, zero, suc, List, [], ◌∷◌, refl}
use Rattle.std.proofs.Common.{◌⊎◌, inl, inr, ap, ◌∙◌}
use Rattle.std.specs.Coded.{Coded, code_by, coded⊎, coded_ℕ, coded×, coded_list}
use Rattle.chr_value.specs.Atoms.{Value}
use Rattle.chr_value.specs.Code.{value_code}
use Rattle.chr_rule.specs.Rules.{Term, Var, Given, Open, Terms, End, And}
use Rattle.chr_rule.specs.Terms.{terms_count}

-- a variable, a value, or a functor with how many arguments it has
abbrev pub Mark : Type 0
Mark = ℕ ⊎ (Value ℕ ⊎ (ℕ × ℕ))

abbrev mutual
  pub marks : Term ℕ → List Mark → List Mark
  marks (Var x) k = inl x ∷ k
  marks (Given v) k = inr (inl v) ∷ k
  marks (Open s ts) k = inr (inr (s, terms_count ts)) ∷ terms_marks ts k

  pub terms_marks : Terms ℕ → List Mark → List Mark
  terms_marks End k = k
  terms_marks (And t ts) k = marks t (terms_marks ts k)

-- the first terms, and those behind them
abbrev pub front : ℕ → List (Term ℕ) → Terms ℕ
front zero ts = End
front (suc n) [] = End
front (suc n) (t ∷ ts) = And t (front n ts)

abbrev pub behind : ℕ → List (Term ℕ) → List (Term ℕ)
behind zero ts = ts
behind (suc n) [] = []
behind (suc n) (t ∷ ts) = behind n ts

-- the terms that marks spell, read from their end
abbrev pub step : Mark → List (Term ℕ) → List (Term ℕ)
step (inl x) ts = Var x ∷ ts
step (inr (inl v)) ts = Given v ∷ ts
step (inr (inr f)) ts = Open f.0 (front f.1 ts) ∷ behind f.1 ts

abbrev pub spelled : List Mark → List (Term ℕ)
spelled [] = []
spelled (m ∷ ms) = step m (spelled ms)

abbrev pub first : List (Term ℕ) → Term ℕ
first [] = Var 0
first (t ∷ ts) = t

-- arguments before others
abbrev pub before : Terms ℕ → List (Term ℕ) → List (Term ℕ)
before End ts = ts
before (And u us) ts = u ∷ before us ts

abbrev pub front_back : (us : Terms ℕ) (ts : List (Term ℕ))
    → front (terms_count us) (before us ts) ≡ us
front_back End ts = refl
front_back (And u us) ts = ap (λ (ws : Terms ℕ). And u ws) (front_back us ts)

abbrev pub behind_back : (us : Terms ℕ) (ts : List (Term ℕ))
    → behind (terms_count us) (before us ts) ≡ ts
behind_back End ts = refl
behind_back (And u us) ts = behind_back us ts

abbrev pub step_back : (s : ℕ) (us : Terms ℕ) (ts ws : List (Term ℕ))
    → ws ≡ before us ts → step (inr (inr (s, terms_count us))) ws ≡ Open s us ∷ ts
step_back s us ts ws h =
    ap (step (inr (inr (s, terms_count us)))) h
    ∙ ap (λ (a : Terms ℕ). Open s a ∷ behind (terms_count us) (before us ts)) (front_back us ts)
    ∙ ap (λ (r : List (Term ℕ)). Open s us ∷ r) (behind_back us ts)

abbrev mutual
  pub marks_back : (t : Term ℕ) (k : List Mark) (ts : List (Term ℕ))
      → spelled k ≡ ts → spelled (marks t k) ≡ t ∷ ts
  marks_back (Var x) k ts h = ap (λ (w : List (Term ℕ)). Var x ∷ w) h
  marks_back (Given v) k ts h = ap (λ (w : List (Term ℕ)). Given v ∷ w) h
  marks_back (Open s us) k ts h =
      step_back s us ts (spelled (terms_marks us k)) (terms_back us k ts h)

  pub terms_back : (us : Terms ℕ) (k : List Mark) (ts : List (Term ℕ))
      → spelled k ≡ ts → spelled (terms_marks us k) ≡ before us ts
  terms_back End k ts h = h
  terms_back (And u us) k ts h =
      marks_back u (terms_marks us k) (before us ts) (terms_back us k ts h)

abbrev pub term_again : (t : Term ℕ) → first (spelled (marks t [])) ≡ t
term_again t = ap first (marks_back t [] [] refl)

abbrev pub term_code : Coded (Term ℕ)
term_code =
    code_by (List Mark) (coded_list (coded⊎ coded_ℕ (coded⊎ value_code (coded× coded_ℕ coded_ℕ))))
    (λ t. marks t []) (λ ms. first (spelled ms)) term_again
