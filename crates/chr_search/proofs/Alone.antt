-- Trials of the active label alone.
use Rattle.std.proofs.Common.{◌≡◌, ℕ, ◌+◌, ◌<◌, true, List, [], ◌∷◌, map, take, length, Some, slice_get, refl, sym, ◌∙◌, ap, subst, arith, ap₂}
use Rattle.std.specs.List.{AllByRecursion}
use Rattle.std.proofs.lemmas.Bool.Decides.{nat_tests}
use Rattle.chr_value.specs.Atoms.{Atom}
use Rattle.chr_value.specs.declared.atom.Pred.{Pred}
use Rattle.chr_value.proofs.Chosen.{some_is}
use Rattle.chr_rule.specs.Rules.{Simpagation, rule_at}
use Rattle.chr_rule.specs.Occurrences.{IsOccurrence, AtOrAfter, NoneFrom, IsNextOccurrence}
use Rattle.chr_model.specs.Stores.{atom_at}
use Rattle.chr_plan.specs.Plans.{ArePlans}
use Rattle.chr_plan.specs.declared.order.Step.{Step}
use Rattle.chr_search.specs.Positions.{at_or_after, past}
use Rattle.chr_search.specs.Trials.{Space, join_in, Child, IsTrial, IsNext, NoneLeft}
use Rattle.chr_search.specs.Verdicts.{Placed, Trial, position, IsTrialOf}
use Rattle.chr_search.specs.Fronts.{trial_alone}
use Rattle.chr_search.specs.PlanByPlan.{HasComeTo, IsActive}
use Rattle.chr_search.proofs.Plans.{heads_in, planned}
use Rattle.chr_search.proofs.Tree.{least_same}
use Rattle.chr_search.proofs.Asking.{begins_by}
use Rattle.chr_search.proofs.Making.{next_trial}
use Rattle.chr_search.proofs.Descents.{each_trial, is_first, none_left, trial_of}
use Rattle.chr_search.proofs.Occurring.{order_in, trial_occurs, plan_there}

-- the trials at or after a label past the active one are those of later heads and rules
later : (s : Space) (r h l x y m : ℕ) (ls ms : List ℕ) → s.active < l → m ≡ s.active → at_or_after (r ∷ h ∷ l ∷ ls) (x ∷ y ∷ m ∷ ms) ≡ true → AtOrAfter r (h + 1) x y
later s r h l x y m ls ms past first e = grind (arith, nat_tests)

-- a search at such a label has come to the next head
pub come_past_active : (s : Space) (r h l : ℕ) (ls : List ℕ) → s.active < l → HasComeTo s (r ∷ h ∷ l ∷ ls) r (h + 1)
come_past_active s r h l ls past = record {
  later = grind (arith, nat_tests);
  none = each_trial s (λ t. at_or_after (r ∷ h ∷ l ∷ ls) t ≡ true → at_or_after (r ∷ (h + 1) ∷ []) t ≡ true) (λ x y m ms i first e. order_in r (h + 1) x y (m ∷ ms) (later s r h l x y m ls ms past first e));
}

-- and the other way round
past_alone : (r h x y a : ℕ) (ls : List ℕ) → AtOrAfter r (h + 1) x y → at_or_after (past (r ∷ h ∷ a ∷ [])) (x ∷ y ∷ ls) ≡ true
past_alone r h x y a ls o = grind (arith, nat_tests)

-- the trial of the active label alone is the first one of its head
first_at : (s : Space) (x y b c l : ℕ) (ls : List ℕ) → l ≡ s.active → AtOrAfter x y b c → at_or_after (x ∷ y ∷ s.active ∷ []) (b ∷ c ∷ l ∷ ls) ≡ true
first_at s x y b c l ls first o = grind (arith, nat_tests)

-- the active label alone is a trial at each head with its atom's predicate
alone_there : (s : Space) (p : Pred) → IsActive s p → ArePlans s.rules s.plans → (r h : ℕ) → IsOccurrence s.rules p r h → IsTrial s (r ∷ h ∷ s.active ∷ [])
alone_there s p a ps r h o =
    let there = plan_there s p ps r h o in
    let q = planned s.rules s.plans ps r h o.rule there.0 o.rule_is there.1 in
    trial_of s r h (s.active ∷ []) o.rule there.0 (record { rule_is = o.rule_is; order_is = there.1 }) (omega arith)
    (begins_by (join_in s o.rule there.0) h o.at.head a.atom (ap (λ (z : List Step). slice_get z 0) q.plan.first) o.at.head_is a.live (sym a.name ∙ sym o.at.pred.name, sym a.arity ∙ sym o.at.pred.arity), tt)

-- past it comes that at the next head with the predicate, or none is left
pub alone_next : (s : Space) (atom : Atom ℕ) (pred : Pred) (r h x y : ℕ) → ArePlans s.rules s.plans → atom_at s.store s.active ≡ Some atom → pred.name.number ≡ atom.name → pred.arity ≡ length atom.args → IsNextOccurrence s.rules pred r (h + 1) (x, y) → IsNext s (past (r ∷ h ∷ s.active ∷ [])) (x ∷ y ∷ s.active ∷ [])
alone_next s atom pred r h x y ps live name arity o =
    let active : IsActive s pred = record { atom = atom; live = live; name = name; arity = arity } in
    let place = past (r ∷ h ∷ s.active ∷ []) in
    (is_first s place (x ∷ y ∷ s.active ∷ [])).1 (record {
      trial = alone_there s pred active ps x y o.occurs;
      there = past_alone r h x y s.active (s.active ∷ []) o.after;
      first = each_trial s (λ t. at_or_after place t ≡ true → at_or_after (x ∷ y ∷ s.active ∷ []) t ≡ true) (λ c d l ls i first e. first_at s x y c d l ls first (o.least c d (later s r h (s.active + 1) c d l [] ls (omega arith) first e) (trial_occurs s pred active ps c d (l ∷ ls) i)));
    })

pub alone_none : (s : Space) (atom : Atom ℕ) (pred : Pred) (r h : ℕ) → ArePlans s.rules s.plans → atom_at s.store s.active ≡ Some atom → pred.name.number ≡ atom.name → pred.arity ≡ length atom.args → NoneFrom s.rules pred r (h + 1) → NoneLeft s (past (r ∷ h ∷ s.active ∷ []))
alone_none s atom pred r h ps live name arity n =
    let active : IsActive s pred = record { atom = atom; live = live; name = name; arity = arity } in
    let place = past (r ∷ h ∷ s.active ∷ []) in
    (none_left s place).1 (each_trial s (λ t. at_or_after place t ≡ true → ⊥) (λ x y l ls i first e. n x y (later s r h (s.active + 1) x y l [] ls (omega arith) first e) (trial_occurs s pred active ps x y (l ∷ ls) i)))

-- the trial of a position of the active label alone
pub alone_trial : (s : Space) (rule : Simpagation ℕ) (r h : ℕ) (atom : Atom ℕ) → ArePlans s.rules s.plans → IsTrial s (r ∷ h ∷ s.active ∷ []) → rule_at s.rules r ≡ Some rule → atom_at s.store s.active ≡ Some atom → IsTrialOf s.rules s.plans s.store (trial_alone rule r (record { head = h; label = s.active; atom = atom }))
alone_trial s rule r h atom ps i is live =
    let c = i.grows.1.1.0 in
    let q = planned s.rules s.plans ps r h c.0 c.1 c.2.rule_is c.2.order_is in
    record { rule_is = is; order = c.1; order_is = c.2.order_is; heads_are = ap (λ (z : List Step). take 1 (heads_in z)) (sym q.plan.first); live = (live, tt) }

-- there is no other
one_placed : (ps : List Placed) (l : ℕ) → map (λ (p : Placed). p.label) ps ≡ l ∷ [] → (p : Placed) × (ps ≡ p ∷ []) × (p.label ≡ l)
one_placed (p ∷ []) l e = (p, refl, cc)
one_placed ps l e = absurd (cc)

pub alone_is : (s : Space) (t : Trial) (r h : ℕ) (atom : Atom ℕ) → ArePlans s.rules s.plans → IsTrialOf s.rules s.plans s.store t → position t ≡ r ∷ h ∷ s.active ∷ [] → atom_at s.store s.active ≡ Some atom → t ≡ trial_alone t.rule r (record { head = h; label = s.active; atom = atom })
alone_is s t r h atom ps i is live =
    let number : t.number ≡ r = cc in
    let head : t.head ≡ h = cc in
    let one = one_placed t.placed s.active (cc) in
    let p = one.0 in
    let q = planned s.rules s.plans ps t.number t.head t.rule i.order i.rule_is i.order_is in
    let heads : p.head ∷ [] ≡ t.head ∷ [] = subst (λ (xs : List Placed). map (λ (x : Placed). x.head) xs ≡ take (length xs) (heads_in i.order)) one.1 i.heads_are ∙ ap (λ (z : List Step). take 1 (heads_in z)) q.plan.first in
    let stands : p.head ≡ h = cc in
    let there : atom_at s.store p.label ≡ Some p.atom = (subst (AllByRecursion (λ (x : Placed). atom_at s.store x.label ≡ Some x.atom)) one.1 i.live).0 in
    let same : p.atom ≡ atom = some_is p.atom atom (sym there ∙ ap (atom_at s.store) one.2 ∙ live) in
    let placed : p ≡ record { head = h; label = s.active; atom = atom } = placed_is p h s.active atom stands one.2 same in
    ap₂ (λ n k. record t { number = n; head = k }) number head ∙ ap (λ (xs : List Placed). record { rule = t.rule; number = r; head = h; placed = xs }) (one.1 ∙ ap (λ x. x ∷ []) placed)
  where
    placed_is : (p : Placed) (h l : ℕ) (a : Atom ℕ) → p.head ≡ h → p.label ≡ l → p.atom ≡ a → p ≡ record { head = h; label = l; atom = a }
    placed_is p h l a e f g = ap (λ k. record p { head = k }) e ∙ ap (λ k. record p { head = h; label = k }) f ∙ ap (λ b. record { head = h; label = l; atom = b }) g

-- where the next trial has one label, that is the active one
pub alone_found : (s : Space) (place p : List ℕ) (r h : ℕ) (ls : List ℕ) → r ∷ h ∷ ls ≡ p → IsNext s place p → length ls ≡ 1 → IsNext s place (r ∷ h ∷ s.active ∷ [])
alone_found s place p r h (l ∷ []) e n one =
    let next = subst (IsNext s place) (sym e) n in
    subst (λ x. IsNext s place (r ∷ h ∷ x ∷ [])) (next_trial s place (r ∷ h ∷ l ∷ []) next).grows.1.1.0.3.turn next
alone_found s place p r h ls e n one = absurd (omega arith)

pub not_alone : (s : Space) (place p : List ℕ) (r h : ℕ) (ls : List ℕ) → r ∷ h ∷ ls ≡ p → IsNext s place p → (length ls ≡ 1 → ⊥) → (x y : ℕ) → IsNext s place (x ∷ y ∷ s.active ∷ []) → ⊥
not_alone s place p r h ls e n more x y m =
    let z : r ∷ h ∷ ls ≡ x ∷ y ∷ s.active ∷ [] = e ∙ least_same (Child s) 3 [] place p (x ∷ y ∷ s.active ∷ []) n m in
    let same : ls ≡ s.active ∷ [] = cc in
    more (ap length same)
