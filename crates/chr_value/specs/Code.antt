-- A code of values, by which proofs tell them apart: a value as a list of marks, a functor with its
-- count before its arguments.
use Rattle.std.specs.Prelude.{◌≡◌, ℕ, zero, suc, ℤ, List, [], ◌∷◌, refl}
use Rattle.std.proofs.Common.{◌⊎◌, inl, inr, ap, ◌∙◌}
use Rattle.std.specs.Coded.{Coded, code_by, coded⊎, coded_ℕ, coded_ℤ, coded×, coded_list, codes}
use Rattle.chr_value.specs.Atoms.{Value, Int, Sym, Comp, Args, Nil, Cons, args_count}

-- a number, a symbol, or a functor with how many arguments it has
abbrev pub Mark : Type 0
Mark = ℤ ⊎ (ℕ ⊎ (ℕ × ℕ))

abbrev mutual
  pub marks : Value ℕ → List Mark → List Mark
  marks (Int z) k = inl z ∷ k
  marks (Sym s) k = inr (inl s) ∷ k
  marks (Comp s vs) k = inr (inr (s, args_count vs)) ∷ args_marks vs k

  pub args_marks : Args ℕ → List Mark → List Mark
  args_marks Nil k = k
  args_marks (Cons v vs) k = marks v (args_marks vs k)

-- the first values, and those behind them
abbrev pub front : ℕ → List (Value ℕ) → Args ℕ
front zero vs = Nil
front (suc n) [] = Nil
front (suc n) (v ∷ vs) = Cons v (front n vs)

abbrev pub behind : ℕ → List (Value ℕ) → List (Value ℕ)
behind zero vs = vs
behind (suc n) [] = []
behind (suc n) (v ∷ vs) = behind n vs

-- the values that marks spell, read from their end
abbrev pub step : Mark → List (Value ℕ) → List (Value ℕ)
step (inl z) vs = Int z ∷ vs
step (inr (inl s)) vs = Sym s ∷ vs
step (inr (inr f)) vs = Comp f.0 (front f.1 vs) ∷ behind f.1 vs

abbrev pub spelled : List Mark → List (Value ℕ)
spelled [] = []
spelled (m ∷ ms) = step m (spelled ms)

abbrev pub first : List (Value ℕ) → Value ℕ
first [] = Int (ℤ.pos 0)
first (v ∷ vs) = v

-- arguments before others
abbrev pub before : Args ℕ → List (Value ℕ) → List (Value ℕ)
before Nil vs = vs
before (Cons w ws) vs = w ∷ before ws vs

abbrev pub front_back : (ws : Args ℕ) (vs : List (Value ℕ)) →
    front (args_count ws) (before ws vs) ≡ ws
front_back Nil vs = refl
front_back (Cons w ws) vs = ap (λ (us : Args ℕ). Cons w us) (front_back ws vs)

abbrev pub behind_back : (ws : Args ℕ) (vs : List (Value ℕ)) →
    behind (args_count ws) (before ws vs) ≡ vs
behind_back Nil vs = refl
behind_back (Cons w ws) vs = behind_back ws vs

abbrev pub step_back : (s : ℕ) (ws : Args ℕ) (vs us : List (Value ℕ)) → us ≡ before ws vs →
    step (inr (inr (s, args_count ws))) us ≡ Comp s ws ∷ vs
step_back s ws vs us h =
    ap (step (inr (inr (s, args_count ws)))) h ∙ ap
    (λ (a : Args ℕ). Comp s a ∷ behind (args_count ws) (before ws vs)) (front_back ws vs) ∙ ap
    (λ (r : List (Value ℕ)). Comp s ws ∷ r) (behind_back ws vs)

abbrev mutual
  pub marks_back : (v : Value ℕ) (k : List Mark) (vs : List (Value ℕ)) → spelled k ≡ vs →
      spelled (marks v k) ≡ v ∷ vs
  marks_back (Int z) k vs h = ap (λ (w : List (Value ℕ)). Int z ∷ w) h
  marks_back (Sym s) k vs h = ap (λ (w : List (Value ℕ)). Sym s ∷ w) h
  marks_back (Comp s ws) k vs h =
      step_back s ws vs (spelled (args_marks ws k)) (args_back ws k vs h)

  pub args_back : (ws : Args ℕ) (k : List Mark) (vs : List (Value ℕ)) → spelled k ≡ vs →
      spelled (args_marks ws k) ≡ before ws vs
  args_back Nil k vs h = h
  args_back (Cons w ws) k vs h = marks_back w (args_marks ws k) (before ws vs) (args_back ws k vs h)

abbrev pub value_again : (v : Value ℕ) → first (spelled (marks v [])) ≡ v
value_again v = ap first (marks_back v [] [] refl)

abbrev pub value_code : Coded (Value ℕ)
value_code =
    code_by (List Mark) (coded_list (coded⊎ coded_ℤ (coded⊎ coded_ℕ (coded× coded_ℕ coded_ℕ))))
    (λ v. marks v []) (λ ms. first (spelled ms)) value_again

-- by these `hlevel` finds the code of what is made of values
pub ruleset value_codes = (codes, value_code)
