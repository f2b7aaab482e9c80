-- Admissible trials in plain words are those that grow label by label.
use Rattle.std.proofs.Common.{◌≡◌, ℕ, ◌<◌, ◌≤◌, true, false, ◌==◌, List, [], ◌∷◌, ◌++◌, length, append_assoc, Some, None, slice_get, refl, sym, ◌∙◌, ap, subst, arith, true-eqb}
use Rattle.std.proofs.lemmas.Bool.Decides.{nat_tests}
use Rattle.std.proofs.lemmas.List.{append-nil}
use Rattle.chr_value.proofs.Chosen.{some_is}
use Rattle.chr_rule.specs.Rules.{head_at}
use Rattle.chr_guard.specs.Values.{Valuation}
use Rattle.chr_model.specs.Stores.{among, Distinct}
use Rattle.chr_model.specs.Searches.{AllBelow}
use Rattle.chr_model.proofs.Stores.{Distinct-left, among-itself, among-right}
use Rattle.chr_plan.specs.Plans.{ArePlans}
use Rattle.chr_plan.specs.declared.order.Step.{Step}
use Rattle.chr_search.specs.Tree.{Grows}
use Rattle.chr_search.specs.Trials.{IsLiveFor, Join, StandsAt, Fit, HasKeyValue, IsInTurn, MayFollow, Space, join_in, IsPlanned, IsTrial}
use Rattle.chr_search.specs.Admissible.{AreLiveFor, AreAdmissible, IsAdmissible}
use Rattle.chr_search.proofs.Plans.{IsPlanOf, planned}
use Rattle.chr_search.proofs.Partners.{fit_last}
use Rattle.chr_search.proofs.Following.{follows_live, follows_at}
use Rattle.chr_search.proofs.Descents.{grows_in}
use Rattle.chr_search.proofs.Descents.{trial_of}

-- the parts of a fit
fit_front : (j : Join) (v : Valuation) (steps : List Step) (front rest : List ℕ) → Fit j v steps (front ++ rest) → Fit j v steps front
fit_front j v steps [] rest f = tt
fit_front j v [] (x ∷ front) rest f = f
fit_front j v (s ∷ steps) (x ∷ front) rest f = (f.0, fit_front j v steps front rest f.1)

live_at : (j : Join) (steps : List Step) (front : List ℕ) (x : ℕ) (rest : List ℕ) → AreLiveFor j steps (front ++ x ∷ rest) → (step : Step) × (slice_get steps (length front) ≡ Some step) × IsLiveFor j step x
live_at j [] [] x rest a = absurd a
live_at j [] (y ∷ front) x rest a = absurd a
live_at j (s ∷ steps) [] x rest a = (s, refl, a.0)
live_at j (s ∷ steps) (y ∷ front) x rest a = live_at j steps front x rest a.1

-- plain words to labels that grow
turn_of : (j : Join) (front : List ℕ) (x : ℕ) (rest partners : List ℕ) → front ++ x ∷ rest ≡ j.active ∷ partners → AllBelow j.bound partners → IsInTurn j front x
turn_of j [] x rest partners e b = cc
turn_of j (y ∷ front) x rest partners e b = let same : front ++ x ∷ rest ≡ partners = cc in b x (subst (λ ls. among ls x ≡ true) same (among-right front (x ∷ rest) x (among-itself x rest)))

plain_grows : (j : Join) (h : ℕ) → IsPlanOf j.rule h j.order → (labels : List ℕ) → (a : AreAdmissible j labels) → (front rest : List ℕ) → a.before ≡ front ++ rest → Grows (MayFollow j) front (rest ++ a.last ∷ [])
plain_grows j h p labels a front [] e =
    let is : a.before ≡ front = e ∙ append-nil front in
    let turn = turn_of j a.before a.last [] a.partners (sym a.ends ∙ a.first) a.below in
    subst (λ z. Grows (MayFollow j) z (a.last ∷ [])) is (follows_live j a.before a.last turn a.distinct a.valuation a.fits a.step a.step_is (record { head = a.head; head_is = a.head_is; atom = a.atom; live = a.atom_is; pred = last_pred }) a.key, tt)
  where
    last_pred : Rattle.chr_search.specs.Trials.HasHeadPred a.head a.atom
    last_pred =
        let l = live_at j j.order a.before a.last [] (subst (AreLiveFor j j.order) a.ends a.live) in
        let s : l.0 ≡ a.step = some_is l.0 a.step (sym l.1 ∙ a.step_is) in
        let hd : l.2.head ≡ a.head = some_is l.2.head a.head (sym l.2.head_is ∙ ap (λ (z : Step). head_at j.rule z.head) s ∙ a.head_is) in
        let at : l.2.atom ≡ a.atom = some_is l.2.atom a.atom (sym l.2.live ∙ a.atom_is) in
        subst (λ z. Rattle.chr_search.specs.Trials.HasHeadPred z a.atom) hd (subst (λ z. Rattle.chr_search.specs.Trials.HasHeadPred l.2.head z) at l.2.pred)
plain_grows j h p labels a front (x ∷ rest) e =
    let whole : labels ≡ front ++ x ∷ (rest ++ a.last ∷ []) = a.ends ∙ ap (λ (z : List ℕ). z ++ a.last ∷ []) e ∙ append_assoc front (x ∷ rest) (a.last ∷ []) in
    let next : a.before ≡ (front ++ x ∷ []) ++ rest = e ∙ sym (append_assoc front (x ∷ []) rest) in
    let l = live_at j j.order front x (rest ++ a.last ∷ []) (subst (AreLiveFor j j.order) whole a.live) in
    let f = (fit_last j a.valuation j.order front l.0 x l.1).0 (fit_front j a.valuation j.order (front ++ x ∷ []) rest (subst (Fit j a.valuation j.order) next a.fits)) in
    let turn = turn_of j front x (rest ++ a.last ∷ []) a.partners (sym whole ∙ a.first) a.below in
    (follows_at j h p.plan a.valuation front x turn (Distinct-left front (x ∷ rest) (subst Distinct e a.distinct)) l.0 l.1 f.0 f.1, plain_grows j h p labels a (front ++ x ∷ []) rest next)

pub admissible_trial : (s : Space) → ArePlans s.rules s.plans → (r h : ℕ) (labels : List ℕ) → IsAdmissible s r h labels → IsTrial s (r ∷ h ∷ labels)
admissible_trial s ps r h labels i =
    let a = i.labels_are in
    let p = planned s.rules s.plans ps r h i.rule i.order i.planned.rule_is i.planned.order_is in
    trial_of s r h labels i.rule i.order i.planned (omega (arith, ap length a.first))
    (subst (Grows (MayFollow (join_in s i.rule i.order)) []) (sym a.ends) (plain_grows (join_in s i.rule i.order) h p labels a [] a.before refl))

-- labels that grow to plain words
live_push : (j : Join) (steps : List Step) (before : List ℕ) (x : ℕ) → AreLiveFor j steps before → (step : Step) → slice_get steps (length before) ≡ Some step → IsLiveFor j step x → AreLiveFor j steps (before ++ x ∷ [])
live_push j [] before x a step e l = absurd (let z : None ≡ Some step = e in cc)
live_push j (s ∷ steps) [] x a step e l = (subst (λ z. IsLiveFor j z x) (sym (some_is s step e)) l, tt)
live_push j (s ∷ steps) (y ∷ before) x a step e l = (a.0, live_push j steps before x a.1 step e l)

grows_live : (j : Join) (before more : List ℕ) → AreLiveFor j j.order before → Grows (MayFollow j) before more → AreLiveFor j j.order (before ++ more)
grows_live j before [] a g = subst (AreLiveFor j j.order) (sym (append-nil before)) a
grows_live j before (x ∷ more) a g =
    subst (AreLiveFor j j.order) (append_assoc before (x ∷ []) more)
    (grows_live j (before ++ x ∷ []) more (live_push j j.order before x a g.0.step g.0.step_is g.0.here) g.1)

below_more : (j : Join) (y : ℕ) (before more : List ℕ) → Grows (MayFollow j) (y ∷ before) more → AllBelow j.bound more
below_more j y before [] g l i = absurd (cc)
below_more j y before (x ∷ more) g l i =
    elim (x == l) as (λ b. (x == l ≡ b) → l < j.bound) [
      | true ↦ λ e. subst (λ z. z < j.bound) (true-eqb x l (sym e)) g.0.turn
      | false ↦ λ e. below_more j y (before ++ x ∷ []) more g.1 l (grind (arith, nat_tests))
    ] refl

record Ending (j : Join) (before more : List ℕ) : Type 0 where
  pub front : List ℕ
  pub last : ℕ
  pub ends : before ++ more ≡ front ++ last ∷ []
  pub follows : MayFollow j front last

ending : (j : Join) (before more : List ℕ) → 1 ≤ length more → Grows (MayFollow j) before more → Ending j before more
ending j before [] some g = absurd (omega arith)
ending j before (x ∷ []) some g = record { front = before; last = x; ends = refl; follows = g.0 }
ending j before (x ∷ y ∷ more) some g =
    let r = ending j (before ++ x ∷ []) (y ∷ more) (omega arith) g.1 in
    record { front = r.front; last = r.last; ends = sym (append_assoc before (x ∷ []) (y ∷ more)) ∙ r.ends; follows = r.follows }

labels_admissible : (j : Join) (labels : List ℕ) → 1 ≤ length labels → Grows (MayFollow j) [] labels → AreAdmissible j labels
labels_admissible j [] some g = absurd (omega arith)
labels_admissible j (x ∷ more) some g =
    let r = ending j [] (x ∷ more) some g in
    record {
      partners = more;
      first = ap (λ z. z ∷ more) g.0.turn;
      below = below_more j x [] more g.1;
      live = grows_live j [] (x ∷ more) tt g;
      before = r.front;
      last = r.last;
      ends = r.ends;
      distinct = r.follows.distinct;
      valuation = r.follows.valuation;
      fits = r.follows.fits;
      step = r.follows.step;
      step_is = r.follows.step_is;
      head = r.follows.head;
      head_is = r.follows.head_is;
      atom = r.follows.atom;
      atom_is = r.follows.live;
      key = r.follows.key;
    }

pub trial_admissible : (s : Space) (r h : ℕ) (labels : List ℕ) → IsTrial s (r ∷ h ∷ labels) → IsAdmissible s r h labels
trial_admissible s r h labels i =
    let c = i.grows.1.0 in
    let some : 1 ≤ length labels = omega (arith, i.deep) in
    record { rule = c.0; order = c.1; planned = c.2; labels_are = labels_admissible (join_in s c.0 c.1) labels some (grows_in s r h c.0 c.1 c.2 [] labels i.grows.1.1) }
