-- Trials that differ in their last label.
use Rattle.chr_value.proofs.Chosen.{some_is}
use Rattle.std.proofs.lemmas.Bool.Decides.{nat_tests}
use Rattle.std.proofs.Common.{◌≡◌, ◌↔◌, ℕ, zero, suc, ◌+◌, ◌<◌, ◌≤◌, true, List, [], ◌∷◌, ◌++◌, map, take, length, length-append, Option, Some, None, MatchOption, slice_get, get_or, refl, sym, ◌∙◌, ap, subst, arith}
use Rattle.std.specs.List.{AllByRecursion}
use Rattle.std.proofs.lemmas.List.{append-nil}
use Rattle.chr_rule.specs.Rules.{rule_at}
use Rattle.chr_rule.specs.Scope.{IsRule}
use Rattle.chr_guard.proofs.Steps.{all_push}
use Rattle.chr_model.specs.Stores.{atom_at}
use Rattle.chr_plan.specs.Orders.{heads_of}
use Rattle.chr_plan.specs.Plans.{ArePlans}
use Rattle.chr_plan.specs.declared.order.Step.{Step}
use Rattle.chr_store.specs.Labels.{LabelledStore, IsLabelled}
use Rattle.chr_search.specs.Positions.{at_or_after, begins, past}
use Rattle.chr_search.specs.Tree.{Children, Grows, LeastFrom}
use Rattle.chr_search.specs.Trials.{Join, MayFollow, Space, join_in, Child, IsTrial, IsNext, IsPlanned}
use Rattle.chr_search.specs.Verdicts.{Placed, Trial, labels, position, IsFormed, IsTrialOf}
use Rattle.chr_search.specs.Partners.{IsPartnerFrom}
use Rattle.chr_search.specs.PlanByPlan.{IsUnplanned, IsJoinAt}
use Rattle.chr_search.specs.Fronts.{lengthened, MayEnd, IsEndFrom, IsPlacedAfter, ComeAfter}
use Rattle.chr_search.proofs.Positions.{past_last}
use Rattle.chr_search.proofs.Tree.{append_one, grows_more, least_same, least_beside}
use Rattle.chr_search.proofs.Plans.{heads_in}
use Rattle.chr_search.proofs.Descents.{is_first, grows_in, rule_scoped, rule_low, head_low}
use Rattle.chr_search.proofs.Judging.{labels_length}
use Rattle.chr_search.proofs.Making.{parts, formed}
use Rattle.chr_search.proofs.Shrinking.{branch}
use Rattle.chr_search.proofs.Descents.{trial_of}
use Rattle.chr_search.proofs.Behind.{shorter, alike}
use Rattle.chr_search.proofs.After.{come_after, many_numbers}

-- what grows so goes on with its last number
pub last_child : (C : Children) (path xs : List ℕ) (x : ℕ) → Grows C path (xs ++ x ∷ []) → C (path ++ xs) x
last_child C path [] x g = subst (λ p. C p x) (sym (append-nil path)) g.0
last_child C path (y ∷ xs) x g = subst (λ p. C p x) (append_one path xs y) (last_child C (path ++ y ∷ []) xs x g.1)

-- what grows by one number more than these may go on at each of them, and then further
pub grows_at : {X : Type 0} (f : X → ℕ) (C : Children) (path : List ℕ) (xs : List X) (i : ℕ) (one : X) (x : ℕ) → i < length xs → one ≡ get_or xs i one → Grows C path (map f xs ++ x ∷ [])
    → C (path ++ map f (take i xs)) (f one) × (y : ℕ) × C ((path ++ map f (take i xs)) ++ f one ∷ []) y
grows_at f C path [] i one x less is g = absurd (omega arith)
grows_at f C path (z ∷ zs) zero one x less is g =
    let next = first zs g.1 in (
      subst (λ p. C p (f one)) (sym (append-nil path)) (subst (λ w. C path (f w)) (sym is) g.0),
      next.0,
      subst (λ p. C (p ++ f one ∷ []) next.0) (sym (append-nil path)) (subst (λ w. C (path ++ f w ∷ []) next.0) (sym is) next.1),
    )
  where
    first : (ws : List _) → Grows C (path ++ f z ∷ []) (map f ws ++ x ∷ []) → (y : ℕ) × C (path ++ f z ∷ []) y
    first [] h = (x, h.0)
    first (w ∷ ws) h = (f w, h.0)
grows_at f C path (z ∷ zs) (suc i) one x less is g =
    let r = grows_at f C (path ++ f z ∷ []) zs i one x (omega arith) is g.1 in
    let same : (path ++ f z ∷ []) ++ map f (take i zs) ≡ path ++ f z ∷ map f (take i zs) = append_one path (map f (take i zs)) (f z) in
    (subst (λ p. C p (f one)) same r.0, r.1, subst (λ p. C (p ++ f one ∷ []) r.1) same r.2)

-- last numbers are in order
last_reaches : (f : List ℕ) (a y : ℕ) → at_or_after (f ++ a ∷ []) (f ++ y ∷ []) ≡ true → a ≤ y
last_reaches [] a y h = grind (arith, nat_tests)
last_reaches (x ∷ f) a y h = last_reaches f a y (grind (arith, nat_tests))

-- the least label from one on with which a trial ends is that of the next trial from there on
pub end_at : (s : Space) (r h : ℕ) (ls : List ℕ) (from x : ℕ) → 1 ≤ length ls → LeastFrom (MayEnd s (r ∷ h ∷ ls)) from x → IsNext s (r ∷ h ∷ (ls ++ from ∷ [])) (r ∷ h ∷ (ls ++ x ∷ []))
end_at s r h ls from x some e =
    let path : List ℕ = r ∷ h ∷ ls in
    let g = shorter (Child s) [] path (x ∷ []) e.holds.grows in
    least_beside (Child s) 3 [] path from x g (record {
      holds = last_child (Child s) [] path x e.holds.grows;
      there = e.there;
      least = λ y c low. e.least y (record { grows = grows_more (Child s) [] path y g c; deep = omega (arith, length-append ls (y ∷ [])) }) low;
    }) (omega (arith, length-append ls (x ∷ [])))

-- the next trial past one with the same labels but the last
pub end_next : (s : Space) (r h : ℕ) (ls : List ℕ) (l x : ℕ) → 1 ≤ length ls → IsEndFrom s (r ∷ h ∷ ls) (l + 1) (Some x) → IsNext s (past (r ∷ h ∷ (ls ++ l ∷ []))) (r ∷ h ∷ (ls ++ x ∷ []))
end_next s r h ls l x some e = subst (λ p. IsNext s p (r ∷ h ∷ (ls ++ x ∷ []))) (sym (past_last (r ∷ h ∷ ls) l)) (end_at s r h ls (l + 1) x some e)

-- and that there is none
pub end_none : (s : Space) (r h : ℕ) (ls : List ℕ) (l : ℕ) → IsEndFrom s (r ∷ h ∷ ls) (l + 1) None → (y : ℕ) → IsNext s (past (r ∷ h ∷ (ls ++ l ∷ []))) (r ∷ h ∷ (ls ++ y ∷ [])) → ⊥
end_none s r h ls l none y n =
    let path : List ℕ = r ∷ h ∷ ls in
    let next = (is_first s (past (path ++ l ∷ [])) (path ++ y ∷ [])).0 n in
    none y next.trial (last_reaches path (l + 1) y (subst (λ p. at_or_after p (path ++ y ∷ []) ≡ true) (past_last path l) next.there))

-- a position that is next, or not, where it has one label more
pub next_ends : (s : Space) (place p q : List ℕ) (found : Option ℕ) → IsNext s place p → MatchOption found ((l : ℕ) → p ≡ q ++ l ∷ [] → ⊥) (λ l. p ≡ q ++ l ∷ []) → MatchOption found ((l : ℕ) → IsNext s place (q ++ l ∷ []) → ⊥) (λ l. IsNext s place (q ++ l ∷ []))
next_ends s place p q None n none = λ l m. none l (least_same (Child s) 3 [] place p (q ++ l ∷ []) n m)
next_ends s place p q (Some l) n is = subst (IsNext s place) is n

-- what a trial with one label more grows by in the join of its rule's head
pub grown_in : (s : Space) (r h : ℕ) (j : Join) (ls : List ℕ) (x : ℕ) → IsPlanned s r h j.rule j.order → j ≡ join_in s j.rule j.order → MayEnd s (r ∷ h ∷ ls) x → Grows (MayFollow j) [] (ls ++ x ∷ [])
grown_in s r h j ls x p is t = subst (λ (y : Join). Grows (MayFollow y) [] (ls ++ x ∷ [])) (sym is) (grows_in s r h j.rule j.order p [] (ls ++ x ∷ []) t.grows.1.1)

pub follows_in : (s : Space) (r h : ℕ) (j : Join) (ls : List ℕ) (x : ℕ) → IsPlanned s r h j.rule j.order → j ≡ join_in s j.rule j.order → MayEnd s (r ∷ h ∷ ls) x → MayFollow j ls x
follows_in s r h j ls x p is t = last_child (MayFollow j) [] ls x (grown_in s r h j ls x p is t)

-- there is none where the head has no plan, and the active label comes first
pub ends_unplanned : (s : Space) (r h : ℕ) (ls : List ℕ) → IsUnplanned s r h → (x : ℕ) → MayEnd s (r ∷ h ∷ ls) x → ⊥
ends_unplanned s r h ls none x t = none t.grows.1.0.0 t.grows.1.0.1 t.grows.1.0.2

pub active_first : (j : Join) (ls : List ℕ) (x : ℕ) → Grows (MayFollow j) [] (ls ++ x ∷ []) → MayFollow j [] j.active
active_first j [] x g = subst (MayFollow j []) g.0.turn g.0
active_first j (l ∷ ls) x g = subst (MayFollow j []) g.0.turn g.0

-- the labels that may be tried after those of a front are those with which trials end
pub ends : (s : Space) (r h : ℕ) (j : Join) (ls : List ℕ) (x : ℕ) → IsJoinAt s r h j → Grows (MayFollow j) [] ls → MayFollow j ls x ↔ MayEnd s (r ∷ h ∷ ls) x
ends s r h j ls x k g = (
  λ m. trial_of s r h (ls ++ x ∷ []) j.rule j.order k.planned (omega (arith, length-append ls (x ∷ []))) (subst (λ (y : Join). Grows (MayFollow y) [] (ls ++ x ∷ [])) k.is (grows_more (MayFollow j) [] ls x g m)),
  follows_in s r h j ls x k.planned k.is,
)

pub end_from : (s : Space) (r h : ℕ) (j : Join) (ls : List ℕ) (from : ℕ) (found : Option ℕ) → IsJoinAt s r h j → Grows (MayFollow j) [] ls → IsPartnerFrom j ls from found → IsEndFrom s (r ∷ h ∷ ls) from found
end_from s r h j ls from None k g none = λ y t low. none y ((ends s r h j ls y k g).1 t) low
end_from s r h j ls from (Some x) k g l = record { holds = (ends s r h j ls x k g).0 l.holds; there = l.there; least = λ y t low. l.least y ((ends s r h j ls y k g).1 t) low }

-- a trial with all heads begins no longer one
pub full_after : (s : Space) (t : Trial) → ArePlans s.rules s.plans → AllByRecursion IsRule s.rules → IsTrialOf s.rules s.plans s.store t → length t.placed ≡ length (heads_of t.rule) → 1 ≤ length t.placed → ComeAfter s (past (position t)) (position t)
full_after s t ps all i full some = come_after s (position t) (λ e. (cc)) few
  where
    few : (q : List ℕ) → IsTrial s q → begins (position t) q ≡ true → length q ≤ length (position t)
    few q k b =
        let at = branch s q k in
        let of : begins (position t) (at.r ∷ at.h ∷ at.labels) ≡ true = subst (λ z. begins (position t) z ≡ true) at.is b in
        let number : t.number ≡ at.r = (alike t.number at.r (t.head ∷ labels t) (at.h ∷ at.labels) of).0 in
        let same : t.rule ≡ at.rule = some_is t.rule at.rule (sym i.rule_is ∙ ap (rule_at s.rules) number ∙ at.planned.rule_is) in
        omega (arith, many_numbers s ps q k, ap (λ r. length (heads_of r)) same, labels_length t)

-- one label more
heads_push : (ps : List Placed) (p : Placed) (order : List Step) (step : Step) → map (λ (x : Placed). x.head) ps ≡ take (length ps) (heads_in order) → slice_get order (length ps) ≡ Some step → p.head ≡ step.head → map (λ (x : Placed). x.head) (ps ++ p ∷ []) ≡ take (length (ps ++ p ∷ [])) (heads_in order)
heads_push ps p [] step e at h = absurd (let z : None ≡ Some step = at in cc)
heads_push [] p (x ∷ order) step e at h = ap (λ n. n ∷ []) (h ∙ ap (λ (y : Step). y.head) (sym (some_is x step at)))
heads_push (y ∷ ps) p (x ∷ order) step e at h = let rest = heads_push ps p order step (cc) at h in cc

heads_pop : (ps : List Placed) (p : Placed) (order : List Step) → map (λ (x : Placed). x.head) (ps ++ p ∷ []) ≡ take (length (ps ++ p ∷ [])) (heads_in order) → (map (λ (x : Placed). x.head) ps ≡ take (length ps) (heads_in order)) × (step : Step) × (slice_get order (length ps) ≡ Some step) × (p.head ≡ step.head)
heads_pop [] p (x ∷ order) e = (refl, x, refl, cc)
heads_pop (y ∷ ps) p (x ∷ order) e = let rest = heads_pop ps p order (cc) in (cc, rest.1, rest.2, rest.3)
heads_pop ps p order e = absurd (grind arith)

pub placed_trial : (s : Space) (t : Trial) (p : Placed) → IsTrialOf s.rules s.plans s.store t → IsPlacedAfter s t.number t.head (length t.placed) p → IsTrialOf s.rules s.plans s.store (lengthened t p)
placed_trial s t p i a =
    let same : a.order ≡ i.order = some_is a.order i.order (sym a.order_is ∙ i.order_is) in
    record {
      rule_is = i.rule_is;
      order = i.order;
      order_is = i.order_is;
      heads_are = heads_push t.placed p i.order a.step i.heads_are (subst (λ (o : List Step). slice_get o (length t.placed) ≡ Some a.step) same a.step_is) a.head_is;
      live = (all_push (λ x. atom_at s.store x.label ≡ Some x.atom) t.placed p).1 (i.live, a.live);
    }

pub placed_after : (s : Space) (t : Trial) (p : Placed) → IsTrialOf s.rules s.plans s.store (lengthened t p) → IsTrialOf s.rules s.plans s.store t × IsPlacedAfter s t.number t.head (length t.placed) p
placed_after s t p i =
    let hs = heads_pop t.placed p i.order i.heads_are in
    let live = (all_push (λ x. atom_at s.store x.label ≡ Some x.atom) t.placed p).0 i.live in (
      record { rule_is = i.rule_is; order = i.order; order_is = i.order_is; heads_are = hs.0; live = live.0 },
      record { order = i.order; order_is = i.order_is; step = hs.1; step_is = hs.2; head_is = hs.3; live = live.1 },
    )

-- a trial of an admissible position with the store's atoms is formed
pub trial_formed : (s : Space) (store : LabelledStore) (t : Trial) → ArePlans s.rules s.plans → AllByRecursion IsRule s.rules → store.entries ≡ s.store → IsLabelled store → IsTrial s (position t) → IsTrialOf s.rules s.plans s.store t → IsFormed t
trial_formed s store t ps all st w k i =
    formed s t i.order store ps st w (rule_scoped s.rules all t.number t.rule i.rule_is) (rule_low s.rules t.number t.rule i.rule_is).0 (head_low s.plans t.number t.head i.order i.order_is)
    (parts s t.number t.head (labels t) (position t) t.rule i.order refl k i.rule_is i.order_is) i.heads_are i.live
