-- Labels in lists.
use Rattle.std.proofs.Common.{◌≡◌, inl, inr, ℕ, ◌++◌, if◌then◌else◌, Bool, true, false, List, [], ◌∷◌, refl, sym, ap, subst, ◌∙◌, filter}
use Rattle.chr_partners.specs.Partners.{IsIn}

pub in_filter : (p : ℕ → Bool) (l : ℕ) (ms : List ℕ) → IsIn l ms → p l ≡ true → IsIn l (filter p ms)
in_filter p l [] i t = elim i [ ]
in_filter p l (m ∷ ms) i t = elim i [
  | inl e ↦ subst (λ (b : Bool). IsIn l (if b then m ∷ filter p ms else filter p ms)) (sym (ap p e ∙ t)) (inl e)
  | inr j ↦ elim (p m) as (λ b. IsIn l (if b then m ∷ filter p ms else filter p ms)) [ true ↦ inr (in_filter p l ms j t) | false ↦ in_filter p l ms j t ]
]

pub in_front : (l : ℕ) (ms ns : List ℕ) → IsIn l ms → IsIn l (ms ++ ns)
in_front l [] ns i = elim i [ ]
in_front l (m ∷ ms) ns i = elim i [ inl e ↦ inl e | inr j ↦ inr (in_front l ms ns j) ]

pub in_last : (l : ℕ) (ms : List ℕ) → IsIn l (ms ++ l ∷ [])
in_last l [] = inl refl
in_last l (m ∷ ms) = inr (in_last l ms)
