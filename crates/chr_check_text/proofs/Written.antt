-- Texts written one after another.
use Rattle.std.proofs.Common.{◌≡◌, ℕ, List, [], ◌∷◌, ◌++◌, ap, ◌∙◌, append_assoc}

-- a word, and then the rest
pub word_first : (before word rest after all : List ℕ) → after ≡ before ++ word → all ≡ after ++ rest → all ≡ before ++ (word ++ rest)
word_first before word rest after all e h = h ∙ ap (λ (x : List ℕ). x ++ rest) e ∙ append_assoc before word rest

-- the parts of a refusal's line
pub refusal_written : (out front place line kind : List ℕ) (a b c d e f all : List ℕ) → a ≡ out ++ front → b ≡ a ++ place → c ≡ b ++ 32 ∷ [] → d ≡ c ++ line → e ≡ d ++ 32 ∷ [] → f ≡ e ++ kind → all ≡ f ++ 10 ∷ [] → all ≡ out ++ (front ++ (place ++ (32 ∷ line ++ (32 ∷ kind ++ 10 ∷ []))))
refusal_written out front place line kind a b c d e f all is_a is_b is_c is_d is_e is_f is_all =
    word_first out front _ a all is_a
    (word_first a place _ b all is_b
    (word_first b (32 ∷ []) _ c all is_c
    (word_first c line _ d all is_d
    (word_first d (32 ∷ []) _ e all is_e
    (word_first e kind _ f all is_f is_all)))))
