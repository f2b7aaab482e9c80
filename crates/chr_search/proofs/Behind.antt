-- The trial behind another, which differs in the last label.
use Rattle.std.proofs.Common.{append_assoc, ◌≡◌, ◌≢◌, ◌↔◌, Decides, ℕ, ◌+◌, ◌≤◌, Bool, true, false, IsTrue, List, [], ◌∷◌, ◌++◌, length, refl, sym, ◌∙◌, ap, ap₂, subst, arith, ⊎_elim, length-append, ◌⊎◌}
use Rattle.std.proofs.lemmas.Bool.Decides.{nat_tests}
use Rattle.chr_search.specs.Positions.{at_or_after, begins, past, front}
use Rattle.chr_search.specs.Tree.{Children, Grows, Least, NoneBeyond}
use Rattle.chr_search.specs.Trials.{Join, MayFollow, Space, Child, IsTrial, IsNext}
use Rattle.chr_search.specs.PlanByPlan.{IsJoinOf, IsUnplanned}
use Rattle.chr_search.proofs.Descents.{grows_in, is_first}
use Rattle.chr_search.proofs.PlanByPlan.{itself, next_in_plan}
use Rattle.chr_search.proofs.Positions.{same_place as same_position, past_last}

pub front_last : (xs : List ℕ) (x : ℕ) → front (xs ++ x ∷ []) ≡ xs
front_last (y ∷ z ∷ ys) x = ap (λ w. y ∷ w) (front_last (z ∷ ys) x)
front_last xs x = refl

ends : (xs : List ℕ) → 1 ≤ length xs → (x : ℕ) × (xs ≡ front xs ++ x ∷ [])
ends [] h = absurd (omega arith)
ends (x ∷ []) h = (x, refl)
ends (x ∷ y ∷ ys) h = let r = ends (y ∷ ys) (omega arith) in (r.0, ap (λ zs. x ∷ zs) r.1)

-- what lies between a place and what begins like it, but for its last number, begins so too
between : (f : List ℕ) (x : ℕ) (u t : List ℕ) → at_or_after (f ++ x ∷ []) u ≡ true → at_or_after u t ≡ true → begins f t ≡ true → (z : ℕ) × (zs : List ℕ) × (u ≡ f ++ z ∷ zs) × (x ≤ z)
between [] x (z ∷ zs) t h k b = (z, zs, refl, grind (arith, nat_tests))
between (a ∷ f) x (b ∷ u) (c ∷ t) h k e =
    let same : b ≡ a = grind (arith, nat_tests) in
    let r = between f x u t (grind (arith, nat_tests)) (grind (arith, nat_tests)) (grind (arith, nat_tests)) in
    (r.0, r.1, (let is : u ≡ f ++ r.0 ∷ r.1 = r.2 in cc), r.3)
between f x u t h k b = absurd (cc)

under_front : (f xs ys : List ℕ) → at_or_after xs ys ≡ true → at_or_after (f ++ xs) (f ++ ys) ≡ true
under_front [] xs ys h = h
under_front (a ∷ f) xs ys h = grind (arith, nat_tests, under_front f xs ys h)

-- a beginning grows
pub shorter : (C : Children) (path xs ys : List ℕ) → Grows C path (xs ++ ys) → Grows C path xs
shorter C path [] ys g = tt
shorter C path (x ∷ xs) ys g = (g.0, shorter C (path ++ x ∷ []) xs ys g.1)

pub none_behind : (s : Space) (p u : List ℕ) → 3 ≤ length p → IsNext s (past p) u → (front u ≡ front p → ⊥) → (t : List ℕ) → IsTrial s t → at_or_after (past p) t ≡ true → begins (front p) t ≡ true → ⊥
none_behind s p u deep n away t i there b =
    let f = front p in
    let e = ends p (omega arith) in
    let place : past p ≡ f ++ (e.0 + 1) ∷ [] = ap past e.1 ∙ past_last f e.0 in
    let next = (is_first s (past p) u).0 n in
    let r = between f (e.0 + 1) u t (subst (λ q. at_or_after q u ≡ true) place next.there) (next.first t i there) b in
    let short : List ℕ = f ++ r.0 ∷ [] in
    let split : u ≡ short ++ r.1 = r.2 ∙ sym (append_assoc f (r.0 ∷ []) r.1) in
    let trial : IsTrial s short = record {
      grows = shorter (Child s) [] short r.1 (subst (Grows (Child s) []) split next.trial.grows);
      deep = omega (arith, ap length e.1, length-append f (e.0 ∷ []), length-append f (r.0 ∷ []));
    } in
    let least = next.first short trial (subst (λ q. at_or_after q short ≡ true) (sym place) (under_front f ((e.0 + 1) ∷ []) (r.0 ∷ []) (let le : e.0 + 1 ≤ r.0 = r.3 in grind (arith, nat_tests)))) in
    let before = subst (λ q. at_or_after short q ≡ true) (sym r.2) (under_front f (r.0 ∷ []) (r.0 ∷ r.1) (grind (arith, nat_tests))) in
    away (ap front (same_position u short least before) ∙ front_last f r.0)

-- and it is of the same rule and head
pub alike : (x y : ℕ) (xs ys : List ℕ) → begins (x ∷ xs) (y ∷ ys) ≡ true → (x ≡ y) × (begins xs ys ≡ true)
alike x y xs ys b = (grind (arith, nat_tests), grind (arith, nat_tests))

under_head : (p : List ℕ) (r h : ℕ) (ls t : List ℕ) → 3 ≤ length p → r ∷ h ∷ ls ≡ past p → at_or_after (past p) t ≡ true → begins (front p) t ≡ true → (more : List ℕ) × (t ≡ r ∷ h ∷ more) × (at_or_after ls more ≡ true)
under_head (q ∷ k ∷ x ∷ ks) r h ls (a ∷ c ∷ more) deep e there b =
    let view : r ∷ h ∷ ls ≡ q ∷ k ∷ past (x ∷ ks) = e in
    let one : r ≡ q = cc in
    let two : h ≡ k = cc in
    let three : ls ≡ past (x ∷ ks) = cc in
    let rule : a ≡ r = grind (arith, nat_tests) in
    let head : c ≡ h = grind (arith, nat_tests) in
    (more, ap₂ (λ y z. y ∷ z ∷ more) rule head, grind (arith, nat_tests))
under_head (q ∷ k ∷ x ∷ ks) r h ls t deep e there b = absurd (grind (arith, nat_tests))
under_head p r h ls t deep e there b = absurd (omega arith)

-- so no other plan is looked through
pub none_unplanned : (s : Space) (p : List ℕ) (r h : ℕ) (ls : List ℕ) → IsUnplanned s r h → 3 ≤ length p → r ∷ h ∷ ls ≡ past p → (t : List ℕ) → IsTrial s t → at_or_after (past p) t ≡ true → begins (front p) t ≡ true → ⊥
none_unplanned s p r h ls none deep e t i there b =
    let g = (subst (Grows (Child s) []) (under_head p r h ls t deep e there b).1 i.grows).1.0 in
    none g.0 g.1 g.2

pub none_in_plan : (s : Space) (p : List ℕ) (r h : ℕ) (ls : List ℕ) (j : Join) → IsJoinOf s r h j → NoneBeyond (MayFollow j) 1 [] ls → 3 ≤ length p → r ∷ h ∷ ls ≡ past p → (t : List ℕ) → IsTrial s t → at_or_after (past p) t ≡ true → begins (front p) t ≡ true → ⊥
none_in_plan s p r h ls j k none deep e t i there b =
    let u = under_head p r h ls t deep e there b in
    let trial : IsTrial s (r ∷ h ∷ u.0) = subst (IsTrial s) u.1 i in
    none u.0 (record {
      grows = subst (λ (x : Join). Grows (MayFollow x) [] u.0) (sym k.is) (grows_in s r h j.rule j.order k.planned [] u.0 trial.grows.1.1);
      deep = omega (arith, trial.deep);
      there = u.2;
    })

pub next_in_join : (s : Space) (p : List ℕ) (r h : ℕ) (ls : List ℕ) (j : Join) → IsJoinOf s r h j → r ∷ h ∷ ls ≡ p → (found : List ℕ) → Least (MayFollow j) 1 [] ls found → IsNext s p (r ∷ h ∷ found)
next_in_join s p r h ls j k e found l =
    subst (λ q. IsNext s q (r ∷ h ∷ found)) e (next_in_plan s (r ∷ h ∷ ls) r h ls j (itself s (r ∷ h ∷ ls)) k.planned k.is found l)

-- positions that are compared
pub other_front : (r h q k : ℕ) (xs ys : List ℕ) → 1 ≤ length ys → (r ≢ q) ⊎ (h ≢ k) → IsTrue false ↔ (front (r ∷ h ∷ xs) ≡ front (q ∷ k ∷ ys))
other_front r h q k (x ∷ xs) (y ∷ ys) some ne = (λ e. absurd (cc), λ e. absurd (let z : r ∷ h ∷ front (x ∷ xs) ≡ q ∷ k ∷ front (y ∷ ys) = e in ⊎_elim (λ n. n (cc)) (λ n. n (cc)) ne))
other_front r h q k [] (y ∷ ys) some ne = (λ e. absurd (cc), λ e. absurd (let z : r ∷ [] ≡ q ∷ k ∷ front (y ∷ ys) = e in cc))
other_front r h q k xs [] some ne = absurd (omega arith)

pub same_front : (r h q k : ℕ) (xs ys before others : List ℕ) (x y : ℕ) (told : Bool) → xs ≡ before ++ x ∷ [] → ys ≡ others ++ y ∷ [] → r ≡ q → h ≡ k → Decides told (before ≡ others) → IsTrue told ↔ (front (r ∷ h ∷ xs) ≡ front (q ∷ k ∷ ys))
same_front r h q k xs ys before others x y told ex ey rq hk d =
    let f : front (r ∷ h ∷ xs) ≡ r ∷ h ∷ before = ap (λ zs. front (r ∷ h ∷ zs)) ex ∙ front_last (r ∷ h ∷ before) x in
    let g : front (q ∷ k ∷ ys) ≡ q ∷ k ∷ others = ap (λ zs. front (q ∷ k ∷ zs)) ey ∙ front_last (q ∷ k ∷ others) y in (
      λ t. let same : before ≡ others = d.0 t in cc,
      λ e. d.1 (let z : r ∷ h ∷ before ≡ q ∷ k ∷ others = sym f ∙ e ∙ g in cc),
    )

-- two positions, by their rules, heads and labels
pub same_place : (r h q k : ℕ) (xs ys p p' : List ℕ) (told : Bool) → r ∷ h ∷ xs ≡ p → q ∷ k ∷ ys ≡ p' → r ≡ q → h ≡ k → Decides told (xs ≡ ys) → IsTrue told ↔ (p ≡ p')
same_place r h q k xs ys p p' told view view' rq hk d = (
  λ t. let same : xs ≡ ys = d.0 t in cc,
  λ e. d.1 (let z : r ∷ h ∷ xs ≡ q ∷ k ∷ ys = view ∙ e ∙ sym view' in cc),
)

-- positions with one label more than another
pub one_more : (p : List ℕ) (r h : ℕ) (ls before : List ℕ) (l : ℕ) (q : List ℕ) → r ∷ h ∷ ls ≡ p → ls ≡ before ++ l ∷ [] → r ∷ h ∷ before ≡ q → p ≡ q ++ l ∷ []
one_more p r h ls before l q view e same = sym view ∙ ap (λ zs. r ∷ h ∷ zs) e ∙ ap (λ zs. zs ++ l ∷ []) same

pub one_less : (p : List ℕ) (r h : ℕ) (ls before : List ℕ) (l : ℕ) (q : List ℕ) (k : ℕ) → r ∷ h ∷ ls ≡ p → ls ≡ before ++ l ∷ [] → p ≡ q ++ k ∷ [] → r ∷ h ∷ before ≡ q
one_less p r h ls before l q k view e same = sym (front_last (r ∷ h ∷ before) l) ∙ ap (λ zs. front (r ∷ h ∷ zs)) (sym e) ∙ ap front (view ∙ same) ∙ front_last q k
