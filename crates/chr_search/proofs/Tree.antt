-- The least path, child by child.
use Rattle.std.proofs.Common.{◌≡◌, ◌≢◌, ℕ, ◌+◌, ◌<◌, ◌≤◌, true, false, ◌==◌, if◌then◌else◌, List, [], ◌∷◌, ◌++◌, length, append_assoc, refl, sym, ap, ◌∙◌, subst, arith, ◌⊎◌, inr}
use Rattle.std.proofs.lemmas.Bool.Decides.{nat_tests}
use Rattle.std.proofs.lemmas.List.{append-nil, length-append}
use Rattle.chr_search.specs.Positions.{at_or_after}
use Rattle.chr_search.specs.Tree.{Children, Grows, Beyond, Least, NoneBeyond, LeastFrom, NoneFrom}
use Rattle.chr_search.proofs.Positions.{same_place}

-- with a longer path there is a shorter rest
pub append_one : (path more : List ℕ) (x : ℕ) → (path ++ x ∷ []) ++ more ≡ path ++ x ∷ more
append_one path more x = append_assoc path (x ∷ []) more

-- The search for the least path beyond `place` has come to the children from `from` on, and below that one to `below`.
pub record Come (C : Children) (d : ℕ) (path place : List ℕ) (from : ℕ) (below : List ℕ) : Type 0 where
  pub into : (other : List ℕ) → Beyond C d path place other → at_or_after (from ∷ below) other ≡ true
  pub back : (other : List ℕ) → at_or_after (from ∷ below) other ≡ true → at_or_after place other ≡ true

-- a list that is deep enough is the least at the beginning
pub here : (C : Children) (d : ℕ) (path : List ℕ) → d ≤ length path → Least C d path [] path
here C d path long = record {
  more = [];
  is = sym (append-nil path);
  beyond = record { grows = tt; deep = subst (λ (p : List ℕ). d ≤ length p) (sym (append-nil path)) long; there = refl };
  least = λ other b. refl;
}

pub come_first : (C : Children) (d : ℕ) (path : List ℕ) → length path < d → Come C d path [] 0 []
come_first C d path short = record { into = any; back = λ other h. refl }
  where
    any : (other : List ℕ) → Beyond C d path [] other → at_or_after (0 ∷ []) other ≡ true
    any [] b = absurd (omega (arith, b.deep, length-append path []))
    any (y ∷ ys) b = grind (arith, nat_tests)

pub come_at : (C : Children) (d : ℕ) (path : List ℕ) (x : ℕ) (xs : List ℕ) → Come C d path (x ∷ xs) x xs
come_at C d path x xs = record { into = λ other b. b.there; back = λ other h. h }

pub come_to_end : (C : Children) (d : ℕ) (path place : List ℕ) (from : ℕ) (below : List ℕ) → Come C d path place from below → NoneFrom (C path) from → NoneBeyond C d path place
come_to_end C d path place from below c none [] b = let e : false ≡ true = c.into [] b in absurd (cc)
come_to_end C d path place from below c none (y ∷ ys) b = let e = c.into (y ∷ ys) b in none y b.grows.0 (grind (arith, nat_tests))

-- a path below the least child is one below the path, from where the search goes on below that child
under_child : (C : Children) (d : ℕ) (path place : List ℕ) (from : ℕ) (below : List ℕ) (x : ℕ) (ys : List ℕ) → Come C d path place from below → LeastFrom (C path) from x → Beyond C d path place (x ∷ ys) → Beyond C d (path ++ x ∷ []) (if x == from then below else []) ys
under_child C d path place from below x ys c l b = record {
  grows = b.grows.1;
  deep = subst (λ (p : List ℕ). d ≤ length p) (sym (append_one path ys x)) b.deep;
  there = (let e = c.into (x ∷ ys) b in grind (arith, nat_tests));
}

come_found : (C : Children) (d : ℕ) (path place : List ℕ) (from : ℕ) (below : List ℕ) (x : ℕ) (found : List ℕ) → Come C d path place from below → LeastFrom (C path) from x → Least C d (path ++ x ∷ []) (if x == from then below else []) found → Least C d path place found
come_found C d path place from below x found c l f = record {
  more = x ∷ f.more;
  is = f.is ∙ append_one path f.more x;
  beyond = record {
    grows = (l.holds, f.beyond.grows);
    deep = subst (λ (p : List ℕ). d ≤ length p) (append_one path f.more x) f.beyond.deep;
    there = c.back (x ∷ f.more) (let e = f.beyond.there in let low = l.there in grind (arith, nat_tests));
  };
  least = best;
}
  where
    best : (other : List ℕ) → Beyond C d path place other → at_or_after (x ∷ f.more) other ≡ true
    best [] b = let e : false ≡ true = c.into [] b in absurd (cc)
    best (y ∷ ys) b =
        let e = c.into (y ∷ ys) b in
        let least : x ≤ y = l.least y b.grows.0 (grind (arith, nat_tests)) in
        let same : x ≡ y → at_or_after f.more ys ≡ true = λ s. f.least ys (under_child C d path place from below x ys c l (subst (λ z. Beyond C d path place (z ∷ ys)) (sym s) b)) in
        grind (arith, nat_tests)

-- the child where it is, with what is least below it
pub come_on : (C : Children) (d : ℕ) (path place : List ℕ) (x : ℕ) (below found : List ℕ) → Come C d path place x below → C path x → Least C d (path ++ x ∷ []) below found → Least C d path place found
come_on C d path place x below found c h f =
    come_found C d path place x below x found c (record { holds = h; there = omega arith; least = λ y m low. low })
    (subst (λ b. Least C d (path ++ x ∷ []) b found) (grind (arith, nat_tests)) f)

-- the least child, where the place doesn't go on below it
pub come_to : (C : Children) (d : ℕ) (path place : List ℕ) (from : ℕ) (below : List ℕ) (x : ℕ) → Come C d path place from below → LeastFrom (C path) from x → d ≤ length (path ++ x ∷ []) → (x ≢ from) ⊎ (below ≡ []) → Least C d path place (path ++ x ∷ [])
come_to C d path place from below x c l long ends =
    come_found C d path place from below x (path ++ x ∷ []) c l
    (subst (λ b. Least C d (path ++ x ∷ []) b (path ++ x ∷ [])) (grind (arith, nat_tests)) (here C d (path ++ x ∷ []) long))

-- past a number below which there is nothing
pub come_past : (C : Children) (d : ℕ) (path place : List ℕ) (from : ℕ) (below : List ℕ) → Come C d path place from below → (C path from → NoneBeyond C d (path ++ from ∷ []) below) → Come C d path place (from + 1) []
come_past C d path place from below c none = record { into = to; back = back }
  where
    to : (other : List ℕ) → Beyond C d path place other → at_or_after ((from + 1) ∷ []) other ≡ true
    to [] b = let e : false ≡ true = c.into [] b in absurd (cc)
    to (y ∷ ys) b =
        let e = c.into (y ∷ ys) b in
        let gone : y ≡ from → at_or_after below ys ≡ true → ⊥ = λ s there. (
        let b : Beyond C d path place (from ∷ ys) = subst (λ z. Beyond C d path place (z ∷ ys)) s b in
        none b.grows.0 ys (record { grows = b.grows.1; deep = subst (λ (p : List ℕ). d ≤ length p) (sym (append_one path ys from)) b.deep; there = there })) in
        grind (arith, nat_tests)

    back : (other : List ℕ) → at_or_after ((from + 1) ∷ []) other ≡ true → at_or_after place other ≡ true
    back [] h = absurd (cc)
    back (y ∷ ys) h = c.back (y ∷ ys) (grind (arith, nat_tests))

-- there is one least path
pub least_same : (C : Children) (d : ℕ) (path place p q : List ℕ) → Least C d path place p → Least C d path place q → p ≡ q
least_same C d path place p q l m = l.is ∙ ap (λ more. path ++ more) (same_place l.more m.more (l.least m.more m.beyond) (m.least l.more l.beyond)) ∙ sym m.is

pub grows_more : (C : Children) (path xs : List ℕ) (x : ℕ) → Grows C path xs → C (path ++ xs) x → Grows C path (xs ++ x ∷ [])
grows_more C path [] x g c = (subst (λ p. C p x) (append-nil path) c, tt)
grows_more C path (y ∷ xs) x g c = (g.0, grows_more C (path ++ y ∷ []) xs x g.1 (subst (λ p. C p x) (sym (append_one path xs y)) c))

-- where a list grows, the least below it at or after a place is the least at or after the list and the place
pub least_deep : (C : Children) (d : ℕ) (path front rest found : List ℕ) → Grows C path front → Least C d (path ++ front) rest found → Least C d path (front ++ rest) found
least_deep C d path [] rest found g l = subst (λ p. Least C d p rest found) (append-nil path) l
least_deep C d path (y ∷ ys) rest found g l =
    come_on C d path (y ∷ (ys ++ rest)) y (ys ++ rest) found (come_at C d path y (ys ++ rest)) g.0
    (least_deep C d (path ++ y ∷ []) ys rest found g.1 (subst (λ p. Least C d p rest found) (sym (append_one path ys y)) l))

-- where the front grows, the least at or after it and a last number is the front and the least last number from that one on
pub least_beside : (C : Children) (d : ℕ) (path front : List ℕ) (from x : ℕ) → Grows C path front → LeastFrom (C (path ++ front)) from x → d ≤ length (path ++ (front ++ x ∷ [])) → Least C d path (front ++ from ∷ []) (path ++ (front ++ x ∷ []))
least_beside C d path front from x g l long =
    least_deep C d path front (from ∷ []) (path ++ (front ++ x ∷ [])) g
    (rw (← (append_assoc path front (x ∷ []))) (come_to C d (path ++ front) (from ∷ []) from [] x (come_at C d (path ++ front) from []) l (rw append_assoc long) (inr refl)))
