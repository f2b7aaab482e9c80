-- Laws of positions.
use Rattle.std.proofs.Common.{◌≡◌, ◌≢◌, ℕ, ◌+◌, true, false, List, [], ◌∷◌, ◌++◌, refl, ap, arith}
use Rattle.std.proofs.lemmas.Bool.Decides.{nat_tests}
use Rattle.chr_search.specs.Positions.{at_or_after, begins, just_after, past}

pub after_itself : (xs : List ℕ) → at_or_after xs xs ≡ true
after_itself [] = refl
after_itself (x ∷ xs) = grind (arith, nat_tests, after_itself xs)

pub after_by : (xs ys zs : List ℕ) → at_or_after xs ys ≡ true → at_or_after ys zs ≡ true → at_or_after xs zs ≡ true
after_by (x ∷ xs) (y ∷ ys) (z ∷ zs) h k = let r = after_by xs ys zs in grind (arith, nat_tests)
after_by xs ys zs h k = cc

-- two positions, each at or after the other
pub same_place : (xs ys : List ℕ) → at_or_after xs ys ≡ true → at_or_after ys xs ≡ true → xs ≡ ys
same_place (x ∷ xs) (y ∷ ys) h k = let r = same_place xs ys in grind (arith, nat_tests)
same_place [] [] h k = refl
same_place xs ys h k = absurd (cc)

-- after t, if it isn't t
pub after : (t p : List ℕ) → at_or_after t p ≡ true → t ≢ p → at_or_after (just_after t) p ≡ true
after (x ∷ xs) (y ∷ ys) h ne = let r = after xs ys in grind (arith, nat_tests)
after t p h ne = grind (arith, nat_tests)

pub just_after_reaches : (t p : List ℕ) → at_or_after (just_after t) p ≡ true → at_or_after t p ≡ true
just_after_reaches (x ∷ xs) (y ∷ ys) h = grind (arith, nat_tests, just_after_reaches xs ys)
just_after_reaches t p h = cc

-- after t and all that it begins
pub passed : (t p : List ℕ) → at_or_after t p ≡ true → begins t p ≡ false → at_or_after (past t) p ≡ true
passed (x ∷ z ∷ zs) (y ∷ ys) h n = let r = passed (z ∷ zs) ys in grind (arith, nat_tests)
passed t p h n = grind (arith, nat_tests)

pub passed_reaches : (t p : List ℕ) → at_or_after (past t) p ≡ true → at_or_after t p ≡ true
passed_reaches (x ∷ z ∷ zs) (y ∷ ys) h = grind (arith, nat_tests, passed_reaches (z ∷ zs) ys)
passed_reaches t p h = grind (arith, nat_tests)

pub past_last : (xs : List ℕ) (x : ℕ) → past (xs ++ x ∷ []) ≡ xs ++ (x + 1) ∷ []
past_last (y ∷ z ∷ ys) x = ap (λ w. y ∷ w) (past_last (z ∷ ys) x)
past_last xs x = refl
