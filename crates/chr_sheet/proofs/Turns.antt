-- Judgements that are reported, one after another, and those of trials that are known to come next.
use Rattle.std.proofs.Common.{◌≡◌, ◌≢◌, ◌↔◌, IsTrue, ℕ, suc, ◌+◌, ◌≤◌, Bool, true, false, not, nat_eq, List, [], ◌∷◌, ◌++◌, map, length, Option, Some, None, MatchOption, refl, sym, ◌∙◌, ap, ap₂, subst, arith, IfSome, ◌-◌, slice_get, is_some, Bor}
use Rattle.std.specs.Option.{option_eq, option_copied}
use Rattle.std.proofs.lemmas.Bool.{eqb-true, not-false}
use Rattle.std.proofs.lemmas.Bool.Decides.{nat_tests}
use Rattle.chr_sheet.proofs.Words.{map_push, same_from_push, map-append, append-nil, Simpagation, rule_at, heads_of, Whole, just_after, past, begins, SearchState, Space, older, IsNext, IsTrial, NoneLeft, Child, join_in, Placed, Trial, position, labels, IsTrialOf, IsFormed, IsPart, Judgement, IsVerdict, lengthened, MayEnd, IsEndFrom, IsFront, IsPlacedAfter, trial_alone, ComeAfter, Row, misfit, judged_part, trials_of, JudgedSheet, IsRow, judgements_of, listed, IsNextTrial, IsFrontOf, Reports, done, moves, passes, place_after, AreNextInOrder, after_all, IsFireable, AllByRecursion, Head, Column, at_head, column_trials, last_of, judged_at, judged_in}
use Rattle.chr_model.specs.Stores.{Store, atom_at}
use Rattle.chr_plan.specs.Plans.{PlanList, ArePlans}
use Rattle.chr_search.specs.declared.judged.Verdict.{Verdict}
use Rattle.chr_search.specs.declared.front.Front.{Front}
use Rattle.chr_search.specs.Tree.{LeastFrom, Children, Grows}
use Rattle.chr_search.specs.Answers.{IsToldNext, after_judging, after_verdict}
use Rattle.chr_search.proofs.Judging.{labels_length, few_heads}
use Rattle.chr_search.proofs.Making.{next_trial, map_twice}
use Rattle.chr_search.proofs.Fronts.{end_at, end_next, end_none, placed_trial, placed_after, trial_formed}
use Rattle.chr_search.proofs.Tree.{least_same, append_one}
use Rattle.chr_sheet.proofs.OneNext.{next_same, longer_position, trial_in}
use Rattle.chr_value.specs.Atoms.{Atom}
use Rattle.chr_value.specs.declared.atom.Pred.{Pred}
use Rattle.chr_value.proofs.Chosen.{some_is}
use Rattle.chr_rule.specs.Occurrences.{HeadsFrom, NoneFrom, IsNextOccurrence, AreHeadsFrom}
use Rattle.chr_rule.specs.Scope.{IsRule}
use Rattle.chr_search.proofs.Alone.{alone_next, alone_none, alone_trial}
use Rattle.chr_search.proofs.Descents.{rule_scoped}
use Rattle.chr_search.proofs.Plans.{planned, planned_order}
use Rattle.chr_sheet.specs.Alone.{IsAloneIn, IsAloneOf, place_past}
use Rattle.chr_sheet.proofs.Rows.{IsColumnTrial, label_low, only_placed}
use Rattle.std.proofs.lemmas.Option.{slice_get_within}
use Rattle.chr_store.specs.Labels.{LabelledStore, IsLabelled}
use Rattle.chr_search.proofs.After.{come_after}
use Rattle.chr_search.proofs.PassingOver.{fits_at_heads}
use Rattle.chr_guard.proofs.Steps.{all_push}
use Rattle.chr_sheet.specs.declared.trials.Trials.{Trials as CodeTrials}
use Rattle.chr_search.proofs.PlanByPlan.{alike_next}
use Rattle.chr_sheet.proofs.Keeping.{all_both, judged_pushed}
use Rattle.chr_sheet.proofs.NextBeside.{active_alone}
use Rattle.chr_search.specs.declared.judged.Verdict.TheVariants as verdicts

-- ---- judgements that are reported, one after another

-- ---- judgements that are reported, one after another

-- two labels that are compared
pub next_is : (next : Option ℕ) (l : ℕ) → false ≡ not (option_eq nat_eq next (Some l)) → next ≡ Some l
next_is None l e = absurd (cc)
next_is (Some n) l e = ap (λ (x : ℕ). Some x) (eqb-true n l (not-false (nat_eq n l) (sym e)))

-- ---- some and then others

pub reports_both : (s : Space) (place mid after : List ℕ) (js ks : List Judgement) (n m : ℕ) → Reports s place js n mid → Reports s mid ks m after → Reports s place (js ++ ks) (n + m) after
reports_both s place mid after js ks n m (done p) y = subst (λ k. Reports s place ks k after) (let e : m ≡ 0 + m = omega arith in e) y
reports_both s place mid after js ks n m (moves p a j more c next other rest) y =
    subst (λ k. Reports s place (j ∷ (more ++ ks)) k after) (let e : suc (c + m) ≡ suc c + m = omega arith in e) (moves place after j (more ++ ks) (c + m) next other (reports_both s (after_judging j) mid after more ks c m rest y))
reports_both s place mid after js ks n m (passes p a j more c not rest) y = passes place after j (more ++ ks) (n + m) not (reports_both s place mid after more ks n m rest y)

pub reports_few : (s : Space) (place after : List ℕ) (js : List Judgement) (n : ℕ) → Reports s place js n after → n ≤ length js
reports_few s place after js n (done p) = omega arith
reports_few s place after js n (moves p a j more c next other rest) = omega (arith, reports_few s (after_judging j) after more c rest)
reports_few s place after js n (passes p a j more c not rest) = omega (arith, reports_few s place after more n rest)

-- one judgement
one_moves : (s : Space) (place : List ℕ) (j : Judgement) → IsNextTrial s place j.trial → j.verdict ≢ Whole → Reports s place (j ∷ []) 1 (after_judging j)
one_moves s place j next other = moves place (after_judging j) j [] 0 next other (done (after_judging j))

-- where a search is moved by its verdict
pub one_moved : (s : Space) (place : List ℕ) (j : Judgement) (label : ℕ) (v : Verdict) (t : Trial) (moved : SearchState) → IsNextTrial s place j.trial → j.verdict ≢ Whole → t ≡ j.trial → v ≡ j.verdict → moved ≡ record { label = label; place = after_verdict v (position t) } → Reports s place (j ∷ []) 1 moved.place
one_moved s place j label v t moved next other trial verdict e =
    let to : moved.place ≡ after_judging j = ap (λ (z : SearchState). z.place) e ∙ ap₂ (λ w (u : Trial). after_verdict w (position u)) verdict trial in
    subst (λ p. Reports s place (j ∷ []) 1 p) (sym to) (one_moves s place j next other)

pub one_passes : (s : Space) (place : List ℕ) (j : Judgement) → (IsNextTrial s place j.trial → ⊥) → Reports s place (j ∷ []) 0 place
one_passes s place j not = passes place place j [] 0 not (done place)

-- ---- what is told

pub told_not : (s : Space) (place : List ℕ) (t : Trial) (told : Option Bool) → IsToldNext s place t told → told ≢ Some true → IsNextTrial s place t → ⊥
told_not s place t None none ne next = none next.0.more next.0.beyond
told_not s place t (Some true) is ne next = ne refl
told_not s place t (Some false) other ne next = other.2 (next_same s place other.0 t (other.3, other.4) next)

pub told_is : (s : Space) (place : List ℕ) (t : Trial) (told : Option Bool) → IsToldNext s place t told → told ≡ Some true → IsNextTrial s place t
told_is s place t told is e = subst (IsToldNext s place t) e is

pub told_fireable : (s : Space) (place : List ℕ) (t : Trial) (told : Option Bool) (r : Bool) → IsToldNext s place t told → (r ≡ true → told ≡ Some true) → (r ≡ false → told ≢ Some true) → IsTrue r ↔ IsNextTrial s place t
told_fireable s place t told true is sure not = (λ h. told_is s place t told is (sure refl), λ next. refl)
told_fireable s place t told false is sure not = (λ h. absurd (cc), λ next. absurd (told_not s place t told is (not refl) next))

-- ---- a row

pub none_reported : (s : Space) (place : List ℕ) (part : Trial) (lasts : List Placed) → ((p : Placed) → IsNextTrial s place (lengthened part p) → ⊥) → Reports s place (map misfit (map (lengthened part) lasts)) 0 place
none_reported s place part [] not = done place
none_reported s place part (p ∷ ps) not = passes place place (misfit (lengthened part p)) (map misfit (map (lengthened part) ps)) 0 (not p) (none_reported s place part ps not)

next_in : (s : Space) (place : List ℕ) (part : Trial) (p : Placed) → IsNextTrial s place (lengthened part p) → IsNext s place (position part ++ p.label ∷ [])
next_in s place part p next = subst (IsNext s place) (longer_position part p) next.0

-- with no label does a trial of the part come next
pub none_beside : (s : Space) (place : List ℕ) (part : Trial) → ((l : ℕ) → IsNext s place (position part ++ l ∷ []) → ⊥) → (p : Placed) → IsNextTrial s place (lengthened part p) → ⊥
none_beside s place part none p next = none p.label (next_in s place part p next)

pub none_stands : (s : Space) (place : List ℕ) (part : Trial) → (IsTrialOf s.rules s.plans s.store part → ⊥) → (p : Placed) → IsNextTrial s place (lengthened part p) → ⊥
none_stands s place part not p next = not (placed_after s part p next.1).0

pub none_ends : (s : Space) (place : List ℕ) (part : Trial) → ((l : ℕ) → MayEnd s (position part) l → ⊥) → (p : Placed) → IsNextTrial s place (lengthened part p) → ⊥
none_ends s place part none p next = none p.label (next_trial s place (position part ++ p.label ∷ []) (next_in s place part p next))

-- ---- the trials of a row in their turn

-- the label with which a trial of the part comes next, or none
abbrev pub ComesWith : Space → List ℕ → Trial → Option ℕ → Type 0
ComesWith s place part None = (l : ℕ) → IsNext s place (position part ++ l ∷ []) → ⊥
ComesWith s place part (Some l) = IsNext s place (position part ++ l ∷ [])

-- a label that is told to be another
pub told_other_label : (next : Option ℕ) (l : ℕ) → true ≡ not (option_eq nat_eq next (Some l)) → next ≢ Some l
told_other_label next l told e = let same : true ≡ not (nat_eq l l) = subst (λ o. true ≡ not (option_eq nat_eq o (Some l))) e told in absurd (grind (arith, nat_tests))

pub other_label : (s : Space) (place : List ℕ) (part : Trial) (next : Option ℕ) (p : Placed) → ComesWith s place part next → next ≢ Some p.label → IsNextTrial s place (lengthened part p) → ⊥
other_label s place part None p none ne is = none p.label (next_in s place part p is)
other_label s place part (Some l) p comes ne is =
    ne (ap (λ x. Some x) (same_from_push (position part) (position part) l p.label (least_same _ _ _ _ (position part ++ l ∷ []) (position part ++ p.label ∷ []) comes (next_in s place part p is))).1)

placed_at : (s : Space) (part : Trial) (p : Placed) → IsPlacedAfter s part.number part.head (length (labels part)) p → IsPlacedAfter s part.number part.head (length part.placed) p
placed_at s part p a = subst (λ n. IsPlacedAfter s part.number part.head n p) (labels_length part) a

pub other_atom : (s : Space) (place : List ℕ) (part : Trial) (p : Placed) → (IsPlacedAfter s part.number part.head (length (labels part)) p → ⊥) → IsNextTrial s place (lengthened part p) → ⊥
other_atom s place part p not is = not (subst (λ n. IsPlacedAfter s part.number part.head n p) (sym (labels_length part)) (placed_after s part p is.1).1)

is_next_in : (s : Space) (place : List ℕ) (part : Trial) (p : Placed) → IsTrialOf s.rules s.plans s.store part → ComesWith s place part (Some p.label) → IsPlacedAfter s part.number part.head (length (labels part)) p → IsNextTrial s place (lengthened part p)
is_next_in s place part p i comes a = (subst (IsNext s place) (sym (longer_position part p)) comes, placed_trial s part p i (placed_at s part p a))

-- what comes after it
comes_after : (s : Space) (part : Trial) (l : ℕ) (next : Option ℕ) → 1 ≤ length (labels part) → IsEndFrom s (position part) (l + 1) next → ComesWith s (past (position part ++ l ∷ [])) part next
comes_after s part l None some e = end_none s part.number part.head (labels part) l e
comes_after s part l (Some x) some e = end_next s part.number part.head (labels part) l x some e

past_in : (place : List ℕ) (part : Trial) (p : Placed) → after_judging (misfit (lengthened part p)) ≡ place_after place part (Some p.label)
past_in place part p = ap past (longer_position part p)

-- so many of a row's trials were met, this one last, and a trial of the part comes next with this label
abbrev pub HasMet : Space → List ℕ → Trial → List Trial → ℕ → Option ℕ → Option ℕ → Type 0
HasMet s place part ts count met next = Reports s place (map misfit ts) count (place_after place part met) × ComesWith s (place_after place part met) part next

pub met_none : (s : Space) (place : List ℕ) (part : Trial) (first : ℕ) → IsNext s place (position part ++ first ∷ []) → HasMet s place part [] 0 None (Some first)
met_none s place part first next = (done place, next)

pub met_other : (s : Space) (place : List ℕ) (part : Trial) (p : Placed) (before after : List Trial) (count : ℕ) (met next : Option ℕ) → after ≡ before ++ lengthened part p ∷ [] → HasMet s place part before count met next → (IsNextTrial s (place_after place part met) (lengthened part p) → ⊥) → HasMet s place part after count met next
met_other s place part p before after count met next e h not =
    let at = place_after place part met in
    (subst (λ js. Reports s place js count at) (sym (ap (map misfit) e ∙ map_push misfit before (lengthened part p))) (subst (λ n. Reports s place (map misfit before ++ misfit (lengthened part p) ∷ []) n at) (let z : count + 0 ≡ count = omega arith in z) (reports_both s place at at (map misfit before) (misfit (lengthened part p) ∷ []) count 0 h.0 (one_passes s at (misfit (lengthened part p)) not))), h.1)

pub met_one : (s : Space) (place : List ℕ) (part : Trial) (p : Placed) (before after : List Trial) (count : ℕ) (met next then : Option ℕ) → after ≡ before ++ lengthened part p ∷ [] → HasMet s place part before count met next → IsTrialOf s.rules s.plans s.store part → next ≡ Some p.label → IsPlacedAfter s part.number part.head (length (labels part)) p → 1 ≤ length (labels part) → IsEndFrom s (position part) (p.label + 1) then → HasMet s place part after (count + 1) (Some p.label) then
met_one s place part p before after count met next then e h stands is a some ends =
    let at = place_after place part met in
    let t : Trial = lengthened part p in
    let comes : IsNextTrial s at t = is_next_in s at part p stands (subst (ComesWith s at part) is h.1) a in
    let moved = subst (λ to. Reports s at (misfit t ∷ []) 1 to) (past_in place part p) (one_moves s at (misfit t) comes (λ z. absurd (cc))) in
    (subst (λ js. Reports s place js (count + 1) (place_after place part (Some p.label))) (sym (ap (map misfit) e ∙ map_push misfit before t)) (reports_both s place at (place_after place part (Some p.label)) (map misfit before) (misfit t ∷ []) count 1 h.0 moved), comes_after s part p.label then some ends)

-- ---- the trials that begin with the part

pub front_there : {Z : Type 0} (s : Space) (part : Trial) (number head : ℕ) (ls : List ℕ) (made : Option (Front Z)) → number ≡ part.number → head ≡ part.head → ls ≡ labels part → MatchOption made ((l : ℕ) → MayEnd s (number ∷ head ∷ ls) l → ⊥) (IsFront s number head ls) → MatchOption made ((l : ℕ) → MayEnd s (position part) l → ⊥) (IsFrontOf s part)
front_there s part number head ls None en eh els none = λ l ends. let path : number ∷ head ∷ ls ≡ position part = cc in none l (subst (λ p. MayEnd s p l) (sym path) ends)
front_there s part number head ls (Some f) en eh els is =
    subst (λ n. IsFront s n part.head (labels part) f) en (subst (λ h. IsFront s number h (labels part) f) eh (subst (λ xs. IsFront s number head xs f) els is))

-- what is known of a row, whichever way its part and the active label are named
pub row_reported : {Z : Type 0} (rules : List (Simpagation ℕ)) (plans : PlanList) (store : Store) (active label : ℕ) (place : List ℕ) (part : Trial) (row : Row) (first count : ℕ) (after : List ℕ) (f : Front Z) → active ≡ label → part ≡ row.part → IsTrialOf rules plans store part → IsNext (older rules plans store label) place (position part ++ first ∷ []) → IsFrontOf (older rules plans store active) part f
    → ((s : Space) → IsFrontOf s row.part f → IsTrialOf s.rules s.plans s.store row.part → IsNext s place (position row.part ++ first ∷ []) → Reports s place (map misfit (trials_of row)) count after)
    → Reports (older rules plans store label) place (map misfit (trials_of row)) count after
row_reported rules plans store active label place part row first count after f same is stands next front reports =
    let s : Space = older rules plans store label in
    reports s (subst (λ a. IsFrontOf (older rules plans store a) row.part f) same (subst (λ t. IsFrontOf (older rules plans store active) t f) is front)) (subst (IsTrialOf rules plans store) is stands) (subst (λ t. IsNext s place (position t ++ first ∷ [])) is next)

-- ---- a branch

-- the trial that comes next just after a part, where one begins with it
pub next_behind : (s : Space) (place : List ℕ) (part : Trial) (first : ℕ) → place ≡ just_after (position part) → 1 ≤ length (labels part) → LeastFrom (MayEnd s (position part)) 0 first → IsNext s place (position part ++ first ∷ [])
next_behind s place part first is some least = subst (λ p. IsNext s p (position part ++ first ∷ [])) (sym is) (end_at s part.number part.head (labels part) 0 first some least)

-- the part is the next trial, or it isn't
pub part_moves : (s : Space) (place mid after : List ℕ) (t : Trial) (js : List Judgement) (n : ℕ) → IsNextTrial s place t → mid ≡ just_after (position t) → Reports s mid js n after → Reports s place (judged_part t ∷ js) (n + 1) after
part_moves s place mid after t js n next is rest =
    subst (λ k. Reports s place (judged_part t ∷ js) k after) (let e : suc n ≡ n + 1 = omega arith in e) (moves place after (judged_part t) js n next (λ z. absurd (cc)) (subst (λ p. Reports s p js n after) is rest))

pub part_passes : (s : Space) (place after : List ℕ) (t : Trial) (js : List Judgement) (n : ℕ) → (IsNextTrial s place t → ⊥) → Reports s place js n after → Reports s place (judged_part t ∷ js) n after
part_passes s place after t js n not rest = passes place after (judged_part t) js n not rest

-- ---- trials of the active label alone that are reported, one after another

-- ---- a trial that has the active label alone

position_alone : (t : Trial) (p : Placed) (l : ℕ) → t.placed ≡ p ∷ [] → p.label ≡ l → position t ≡ t.number ∷ t.head ∷ l ∷ []
position_alone t p l e is = ap (λ (ps : List Placed). t.number ∷ t.head ∷ map (λ (x : Placed). x.label) ps) e ∙ ap (λ x. t.number ∷ t.head ∷ x ∷ []) is

at_alone : (s : Space) (t : Trial) → IsAloneIn s.store s.active t → position t ≡ t.number ∷ t.head ∷ s.active ∷ []
at_alone s t a = position_alone t a.placed s.active a.placed_is a.label

-- whether it has it is told of its label and its atom
same_placed : (store : Store) (active : ℕ) (t : Trial) (p : Placed) → t.placed ≡ p ∷ [] → (a : IsAloneIn store active t) → a.placed ≡ p
same_placed store active t p e a = let both : a.placed ∷ [] ≡ p ∷ [] = sym a.placed_is ∙ e in cc

pub alone_told : (store : Store) (active : ℕ) (t : Trial) (p : Placed) (atom : Atom ℕ) (told : Bool) → t.placed ≡ p ∷ [] → atom_at store active ≡ Some atom → p.label ≡ active → IsTrue told ↔ (p.atom ≡ atom) → IsTrue told ↔ IsAloneIn store active t
alone_told store active t p atom told e there label means = (
  λ h. record { placed = p; placed_is = e; label = label; live = there ∙ ap (λ x. Some x) (sym (means.0 h)) },
  λ a. means.1 (some_is p.atom atom (ap (λ (x : Placed). Some x.atom) (sym (same_placed store active t p e a)) ∙ sym a.live ∙ there)),
)

pub alone_label : (store : Store) (active : ℕ) (t : Trial) (p : Placed) → t.placed ≡ p ∷ [] → IsAloneIn store active t → p.label ≡ active
alone_label store active t p e a = ap (λ (x : Placed). x.label) (sym (same_placed store active t p e a)) ∙ a.label

pub alone_as : (store : Store) (l k : ℕ) (t u : Trial) → l ≡ k → t ≡ u → IsAloneIn store l t → IsAloneIn store k u
alone_as store l k t u e f a = subst (IsAloneIn store k) f (subst (λ x. IsAloneIn store x t) e a)

-- another head has the same label
head_alone : (store : Store) (active : ℕ) (t : Trial) (h : Head) → IsAloneIn store active t → IsAloneIn store active (at_head t h)
head_alone store active t h a = record {
  placed = record { head = h.head; label = a.placed.label; atom = a.placed.atom };
  placed_is = ap (map (λ (p : Placed). record p { head = h.head })) a.placed_is;
  label = a.label;
  live = a.live;
}

pub other_alone : (s : Space) (rules : List (Simpagation ℕ)) (t : Trial) (h : Head) → IsAloneOf s rules t → IsAloneOf s rules (at_head t h)
other_alone s rules t h a = record { rules_are = a.rules_are; plans = a.plans; alone = head_alone s.store s.active t h a.alone }

-- the one head at which a label of a column stands
pub only_head : (t : Trial) (p : Placed) → IsColumnTrial t → t.placed ≡ p ∷ [] → p.head ≡ 1
only_head t p w e =
    let within = (subst (AllByRecursion (λ (x : Placed). (1 ≤ x.head) × (x.head ≤ length (heads_of t.rule)) × (x.label ≤ 4294967295))) e w.formed.within).0 in
    omega (arith, w.full)

-- and it is the trial's
pub its_head : (s : Space) (rules : List (Simpagation ℕ)) (place : List ℕ) (t : Trial) → IsAloneOf s rules t → IsColumnTrial t → IsNext s place (t.number ∷ t.head ∷ s.active ∷ []) → rule_at rules t.number ≡ Some t.rule → t.head ≡ 1
its_head s rules place t a w n is =
    let i : IsTrial s (t.number ∷ t.head ∷ s.active ∷ []) = next_trial s place (t.number ∷ t.head ∷ s.active ∷ []) n in
    let c = i.grows.1.1.0 in
    let q = planned s.rules s.plans a.plans t.number t.head c.0 c.1 c.2.rule_is c.2.order_is in
    let same : c.0 ≡ t.rule = some_is c.0 t.rule (sym c.2.rule_is ∙ ap (λ (rs : List (Simpagation ℕ)). rule_at rs t.number) a.rules_are ∙ is) in
    omega (arith, q.from, q.to, w.full, ap (λ (r : Simpagation ℕ). length (heads_of r)) same)

-- a head at which the active label comes next has a small number
pub next_low : (s : Space) (rules : List (Simpagation ℕ)) (place : List ℕ) (o : ℕ × ℕ) (t : Trial) → IsAloneOf s rules t → AllByRecursion IsRule rules → IsNext s place (o.0 ∷ o.1 ∷ s.active ∷ []) → o.1 ≤ 6
next_low s rules place o t a scoped n =
    let i : IsTrial s (o.0 ∷ o.1 ∷ s.active ∷ []) = next_trial s place (o.0 ∷ o.1 ∷ s.active ∷ []) n in
    let c = i.grows.1.1.0 in
    let q = planned s.rules s.plans a.plans o.0 o.1 c.0 c.1 c.2.rule_is c.2.order_is in
    omega (arith, q.to, few_heads c.0 (rule_scoped rules scoped o.0 c.0 (sym (ap (λ (rs : List (Simpagation ℕ)). rule_at rs o.0) a.rules_are) ∙ c.2.rule_is)))

-- ---- which trial comes next

is_next_alone : (s : Space) (rules : List (Simpagation ℕ)) (place : List ℕ) (t : Trial) → IsAloneOf s rules t → IsColumnTrial t → IsNext s place (t.number ∷ t.head ∷ s.active ∷ []) → rule_at rules t.number ≡ Some t.rule → IsNextTrial s place t
is_next_alone s rules place t a w n is =
    let k : IsAloneIn s.store s.active t = a.alone in
    let p : Placed = k.placed in
    let q : Placed = record { head = t.head; label = s.active; atom = p.atom } in
    let heads : p.head ≡ t.head = only_head t p w k.placed_is ∙ sym (its_head s rules place t a w n is) in
    let placed : t.placed ≡ q ∷ [] = k.placed_is ∙ ap (λ h. record p { head = h } ∷ []) heads ∙ ap (λ l. record { head = t.head; label = l; atom = p.atom } ∷ []) k.label in
    let same : t ≡ trial_alone t.rule t.number q = ap (λ ps. record t { placed = ps }) placed in
    let there : rule_at s.rules t.number ≡ Some t.rule = ap (λ (rs : List (Simpagation ℕ)). rule_at rs t.number) a.rules_are ∙ is in
    (subst (IsNext s place) (sym (at_alone s t k)) n, subst (IsTrialOf s.rules s.plans s.store) (sym same) (alone_trial s t.rule t.number t.head p.atom a.plans (next_trial s place (t.number ∷ t.head ∷ s.active ∷ []) n) there k.live))

-- the rule and the head at which the active label alone comes next, or no trial is left
abbrev pub ComesAt : Space → List ℕ → Option (ℕ × ℕ) → Type 0
ComesAt s place None = NoneLeft s place
ComesAt s place (Some o) = IsNext s place (o.0 ∷ o.1 ∷ s.active ∷ [])

abbrev IsTold : List (Simpagation ℕ) → Option (ℕ × ℕ) → Trial → Type 0
IsTold rules next t = (next ≡ Some (t.number, t.head)) × (rule_at rules t.number ≡ Some t.rule)

not_next_alone : (s : Space) (rules : List (Simpagation ℕ)) (place : List ℕ) (t : Trial) (next : Option (ℕ × ℕ)) → IsAloneOf s rules t → ComesAt s place next → (IsTold rules next t → ⊥) → IsNextTrial s place t → ⊥
not_next_alone s rules place t None a comes not n = comes n.0.more n.0.beyond
not_next_alone s rules place t (Some o) a comes not n =
    let same : t.number ∷ t.head ∷ s.active ∷ [] ≡ o.0 ∷ o.1 ∷ s.active ∷ [] = sym (at_alone s t a.alone) ∙ least_same _ _ _ _ (position t) (o.0 ∷ o.1 ∷ s.active ∷ []) n.0 comes in
    let number : o.0 ≡ t.number = cc in
    let head : o.1 ≡ t.head = cc in
    not (ap₂ (λ r h. Some (r, h)) number head, ap (λ (rs : List (Simpagation ℕ)). rule_at rs t.number) (sym a.rules_are) ∙ n.1.rule_is)

comes_next : (s : Space) (rules : List (Simpagation ℕ)) (t : Trial) (pred : Pred) (next : Option (ℕ × ℕ)) → (a : IsAloneOf s rules t) → pred.name.number ≡ a.alone.placed.atom.name → pred.arity ≡ length a.alone.placed.atom.args → MatchOption next (NoneFrom rules pred t.number (t.head + 1)) (IsNextOccurrence rules pred t.number (t.head + 1)) → ComesAt s (past (t.number ∷ t.head ∷ s.active ∷ [])) next
comes_next s rules t pred None a name arity o = alone_none s a.alone.placed.atom pred t.number t.head a.plans a.alone.live name arity (subst (λ rs. NoneFrom rs pred t.number (t.head + 1)) (sym a.rules_are) o)
comes_next s rules t pred (Some x) a name arity o = alone_next s a.alone.placed.atom pred t.number t.head x.0 x.1 a.plans a.alone.live name arity (subst (λ rs. IsNextOccurrence rs pred t.number (t.head + 1) x) (sym a.rules_are) o)

-- ---- the trials of a column in their turn

-- so many of a column's trials were met, this one last, and the active label alone comes next here
abbrev pub HasMetAlone : Space → List ℕ → List Trial → ℕ → Option (ℕ × ℕ) → Option (ℕ × ℕ) → Type 0
HasMetAlone s place ts count met next = Reports s place (map misfit ts) count (place_past place s.active met) × ComesAt s (place_past place s.active met) next

pub alone_met_none : (s : Space) (place : List ℕ) (first : ℕ × ℕ) → IsNext s place (first.0 ∷ first.1 ∷ s.active ∷ []) → HasMetAlone s place [] 0 None (Some first)
alone_met_none s place first next = (done place, next)

pub alone_met_other : (s : Space) (rules : List (Simpagation ℕ)) (place : List ℕ) (t : Trial) (here : ℕ × ℕ) (before after : List Trial) (count : ℕ) (met next : Option (ℕ × ℕ)) → after ≡ before ++ t ∷ [] → here ≡ (t.number, t.head) → IsAloneOf s rules t → ((next ≡ Some here) × (rule_at rules here.0 ≡ Some t.rule) → ⊥) → HasMetAlone s place before count met next → HasMetAlone s place after count met next
alone_met_other s rules place t here before after count met next e at a not h =
    let to = place_past place s.active met in
    let passed = one_passes s to (misfit t) (not_next_alone s rules to t next a h.1 (subst (λ (o : ℕ × ℕ). (next ≡ Some o) × (rule_at rules o.0 ≡ Some t.rule) → ⊥) at not)) in
    (subst (λ js. Reports s place js count to) (sym (ap (map misfit) e ∙ map_push misfit before t)) (subst (λ n. Reports s place (map misfit before ++ misfit t ∷ []) n to) (let z : count + 0 ≡ count = omega arith in z) (reports_both s place to to (map misfit before) (misfit t ∷ []) count 0 h.0 passed)), h.1)

-- what follows an occurrence of the predicate
abbrev pub Follows : List (Simpagation ℕ) → Pred → ℕ × ℕ → Option (ℕ × ℕ) → Type 0
Follows rules pred o then = MatchOption then (NoneFrom rules pred o.0 (o.1 + 1)) (IsNextOccurrence rules pred o.0 (o.1 + 1))

met_here : (s : Space) (rules : List (Simpagation ℕ)) (place : List ℕ) (t : Trial) (pred : Pred) (before after : List Trial) (count : ℕ) (met next then : Option (ℕ × ℕ)) → after ≡ before ++ t ∷ [] → (a : IsAloneOf s rules t) → IsColumnTrial t → pred.name.number ≡ a.alone.placed.atom.name → pred.arity ≡ length a.alone.placed.atom.args → IsTold rules next t → Follows rules pred (t.number, t.head) then
    → HasMetAlone s place before count met next → HasMetAlone s place after (count + 1) (Some (t.number, t.head)) then
met_here s rules place t pred before after count met next then e a w name arity told o h =
    let at = place_past place s.active met in
    let to = place_past place s.active (Some (t.number, t.head)) in
    let comes : IsNextTrial s at t = is_next_alone s rules at t a w (subst (ComesAt s at) told.0 h.1) told.1 in
    let moved : Reports s at (misfit t ∷ []) 1 to = subst (λ p. Reports s at (misfit t ∷ []) 1 (past p)) (at_alone s t a.alone) (moves at (past (position t)) (misfit t) [] 0 comes (λ z. absurd (cc)) (done (past (position t)))) in
    (subst (λ js. Reports s place js (count + 1) to) (sym (ap (map misfit) e ∙ map_push misfit before t)) (reports_both s place at to (map misfit before) (misfit t ∷ []) count 1 h.0 moved), comes_next s rules t pred then a name arity o)

pub alone_met_one : (s : Space) (rules : List (Simpagation ℕ)) (place : List ℕ) (t : Trial) (p : Placed) (pred : Pred) (here : ℕ × ℕ) (before after : List Trial) (count : ℕ) (met next then : Option (ℕ × ℕ)) → after ≡ before ++ t ∷ [] → here ≡ (t.number, t.head) → t.placed ≡ p ∷ [] → pred.name.number ≡ p.atom.name → pred.arity ≡ length p.atom.args → IsAloneOf s rules t → IsColumnTrial t → (next ≡ Some here) × (rule_at rules here.0 ≡ Some t.rule) → Follows rules pred here then
    → HasMetAlone s place before count met next → HasMetAlone s place after (count + 1) (Some here) then
alone_met_one s rules place t p pred here before after count met next then e at one name arity a w told o h =
    let same : a.alone.placed ≡ p = same_placed s.store s.active t p one a.alone in
    let at_name : pred.name.number ≡ a.alone.placed.atom.name = name ∙ ap (λ (x : Placed). x.atom.name) (sym same) in
    let at_arity : pred.arity ≡ length a.alone.placed.atom.args = arity ∙ ap (λ (x : Placed). length x.atom.args) (sym same) in
    subst (λ (o : ℕ × ℕ). HasMetAlone s place after (count + 1) (Some o) then) (sym at)
    (met_here s rules place t pred before after count met next then e a w at_name at_arity (subst (λ (o : ℕ × ℕ). (next ≡ Some o) × (rule_at rules o.0 ≡ Some t.rule)) at told) (subst (λ (o : ℕ × ℕ). Follows rules pred o then) at o) h)

-- the predicate of these heads is that of a trial's one label
abbrev pub ArePredOf : HeadsFrom → Trial → Type 0
ArePredOf heads t = (p : Placed) → t.placed ≡ p ∷ [] → (heads.pred.name.number ≡ p.atom.name) × (heads.pred.arity ≡ length p.atom.args)

pub pred_of : (heads : HeadsFrom) (pred : Pred) (t : Trial) (p : Placed) → heads.pred ≡ pred → t.placed ≡ p ∷ [] → pred.name.number ≡ p.atom.name → pred.arity ≡ length p.atom.args → ArePredOf heads t
pred_of heads pred t p is one name arity q e =
    let both : p ∷ [] ≡ q ∷ [] = sym one ∙ e in
    let same : p ≡ q = cc in
    subst (λ (x : Placed). (heads.pred.name.number ≡ x.atom.name) × (heads.pred.arity ≡ length x.atom.args)) same (ap (λ (y : Pred). y.name.number) is ∙ name, ap (λ (y : Pred). y.arity) is ∙ arity)

pub pred_as : (heads new : HeadsFrom) (t : Trial) → new.pred ≡ heads.pred → ArePredOf heads t → ArePredOf new t
pred_as heads new t is are p e = subst (λ (q : Pred). (q.name.number ≡ p.atom.name) × (q.arity ≡ length p.atom.args)) (sym is) (are p e)

-- the heads after the one that comes next
abbrev pub AreAfter : List (Simpagation ℕ) → HeadsFrom → Option (ℕ × ℕ) → Type 0
AreAfter rules heads next = IfSome next (λ o. AreHeadsFrom rules heads o.0 (o.1 + 1))

-- what the heads after one tell of the one that comes then
pub follows_there : (rules : List (Simpagation ℕ)) (pred : Pred) (heads : HeadsFrom) (o : ℕ × ℕ) (then : Option (ℕ × ℕ)) → MatchOption then (NoneFrom rules pred o.0 (o.1 + 1)) (λ found. IsNextOccurrence rules pred o.0 (o.1 + 1) found × AreHeadsFrom rules heads found.0 (found.1 + 1)) → Follows rules pred o then × AreAfter rules heads then
follows_there rules pred heads o None none = (none, tt)
follows_there rules pred heads o (Some x) found = (found.0, found.1)

pub met_as : (s : Space) (place : List ℕ) (ts : List Trial) (count count-now : ℕ) (met met-now next next-now : Option (ℕ × ℕ)) → count-now ≡ count → met-now ≡ met → next-now ≡ next → HasMetAlone s place ts count met next → HasMetAlone s place ts count-now met-now next-now
met_as s place ts count count-now met met-now next next-now e f g h =
    subst (λ n. HasMetAlone s place ts n met-now next-now) (sym e) (subst (λ o. HasMetAlone s place ts count o next-now) (sym f) (subst (λ o. HasMetAlone s place ts count met o) (sym g) h))

-- ---- where none comes next

all_passed : (s : Space) (place : List ℕ) (ts : List Trial) → AllByRecursion (λ t. IsNextTrial s place t → ⊥) ts → Reports s place (map misfit ts) 0 place
all_passed s place [] a = done place
all_passed s place (t ∷ ts) a = passes place place (misfit t) (map misfit ts) 0 a.0 (all_passed s place ts a.1)

heads_all : (P : Trial → Type 0) (t : Trial) (hs : List Head) → ((h : Head) → P (at_head t h)) → AllByRecursion P (map (at_head t) hs)
heads_all P t [] f = tt
heads_all P t (h ∷ hs) f = (f h, heads_all P t hs f)

column_all : (P : Trial → Type 0) (c : Column) → P c.first → ((h : Head) → P (at_head c.first h)) → AllByRecursion P (column_trials c)
column_all P c p f = (p, heads_all P c.first c.more f)

-- a trial of one label that comes next has the active one, with its atom
next_alone_in : (s : Space) (place : List ℕ) (t : Trial) (p : Placed) → t.placed ≡ p ∷ [] → IsNextTrial s place t → (p.label ≡ s.active) × (atom_at s.store s.active ≡ Some p.atom)
next_alone_in s place t p e n =
    let i = subst (IsTrial s) (position_alone t p p.label e refl) (next_trial s place (position t) n.0) in
    let first : p.label ≡ s.active = i.grows.1.1.0.3.turn in
    (first, subst (λ l. atom_at s.store l ≡ Some p.atom) first (subst (AllByRecursion (λ (x : Placed). atom_at s.store x.label ≡ Some x.atom)) e n.1.live).0)

pub none_alone_in : (s : Space) (place : List ℕ) (c : Column) (p : Placed) → c.first.placed ≡ p ∷ [] → (IsAloneIn s.store s.active c.first → ⊥) → Reports s place (map misfit (column_trials c)) 0 place
none_alone_in s place c p e not =
    all_passed s place (column_trials c) (column_all (λ t. IsNextTrial s place t → ⊥) c (λ n. out (next_alone_in s place c.first p e n))
    (λ h n. out (next_alone_in s place (at_head c.first h) (record { head = h.head; label = p.label; atom = p.atom }) (ap (map (λ (x : Placed). record x { head = h.head })) e) n)))
  where
    out : (p.label ≡ s.active) × (atom_at s.store s.active ≡ Some p.atom) → ⊥
    out k = not (record { placed = p; placed_is = e; label = k.0; live = k.1 })

pub none_next_alone : (s : Space) (place : List ℕ) (c : Column) → IsAloneIn s.store s.active c.first → ((r h : ℕ) → IsNext s place (r ∷ h ∷ s.active ∷ []) → ⊥) → Reports s place (map misfit (column_trials c)) 0 place
none_next_alone s place c a none =
    all_passed s place (column_trials c) (column_all (λ t. IsNextTrial s place t → ⊥) c (λ n. out c.first a n) (λ h n. out (at_head c.first h) (head_alone s.store s.active c.first h a) n))
  where
    out : (t : Trial) → IsAloneIn s.store s.active t → IsNextTrial s place t → ⊥
    out t k n = none t.number t.head (subst (IsNext s place) (at_alone s t k) n.0)

-- ---- judgements of trials that are known to come next one after another

-- ---- a misfit begins no longer admissible trial

-- what a list begins
begins_rest : (p q : List ℕ) → begins p q ≡ true → (rest : List ℕ) × (q ≡ p ++ rest)
begins_rest [] q b = (q, refl)
begins_rest (x ∷ p) [] b = absurd (cc)
begins_rest (x ∷ p) (y ∷ q) b =
    let same : x ≡ y = grind (arith, nat_tests) in
    let r = begins_rest p q (grind (arith, nat_tests)) in
    (r.0, cc (same, r.1))

-- what grows so goes on with the number after these
child_at : (C : Children) (path xs : List ℕ) (x : ℕ) (more : List ℕ) → Grows C path (xs ++ x ∷ more) → C (path ++ xs) x
child_at C path [] x more g = subst (λ p. C p x) (sym (append-nil path)) g.0
child_at C path (y ∷ xs) x more g = subst (λ p. C p x) (append_one path xs y) (child_at C (path ++ y ∷ []) xs x more g.1)

-- a trial with which a longer one begins is a part
begins_longer : (s : Space) (t : Trial) → ArePlans s.rules s.plans → IsTrialOf s.rules s.plans s.store t → IsFormed t → (x : ℕ) → Child s (position t) x → IsPart t
begins_longer s t ps i formed x c =
    let m = c.3 in
    let here = trial_in s t c.0 c.1 i c.2 formed in
    let count = (planned_order s.rules s.plans ps t.number t.head c.0 c.1 c.2.rule_is c.2.order_is).count in
    record {
      left = omega (arith, labels_length t, count, slice_get_within c.1 (length (labels t)) m.step m.step_is, ap (λ r. length (heads_of r)) here.rule_is);
      distinct = m.distinct;
      valuation = m.valuation;
      fits = (fits_at_heads (join_in s c.0 c.1) (labels t) t here m.valuation).0 m.fits;
    }

misfit_after : (s : Space) (t : Trial) → ArePlans s.rules s.plans → IsTrialOf s.rules s.plans s.store t → IsFormed t → (IsPart t → ⊥) → ComeAfter s (past (position t)) (position t)
misfit_after s t ps i formed other = come_after s (position t) (λ e. (cc)) short
  where
    short : (q : List ℕ) → IsTrial s q → begins (position t) q ≡ true → length q ≤ length (position t)
    short q k b = by_rest (begins_rest (position t) q b).0 (begins_rest (position t) q b).1
      where
        by_rest : (rest : List ℕ) → q ≡ position t ++ rest → length q ≤ length (position t)
        by_rest [] e = omega (arith, ap length (e ∙ append-nil (position t)))
        by_rest (x ∷ more) e = absurd (other (begins_longer s t ps i formed x (child_at (Child s) [] (position t) x more (subst (Grows (Child s) []) e k.grows))))

-- so after a right judgement that isn't whole the next trial is the same, whether it is looked for just after the trial or
-- where the search goes on
judged_after : (s : Space) (j : Judgement) → ArePlans s.rules s.plans → IsTrialOf s.rules s.plans s.store j.trial → IsFormed j.trial → (v : Verdict) → j.verdict ≡ v → IsVerdict j.trial v → v ≢ verdicts.Whole → ComeAfter s (after_verdict v (position j.trial)) (position j.trial)
judged_after s j ps i formed verdicts.Part is right other = λ u k. (λ e. e, λ e. e)
judged_after s j ps i formed verdicts.Misfit is right other = misfit_after s j.trial ps i formed right.1
judged_after s j ps i formed verdicts.Whole is right other = absurd (other refl)

order_on : (s : Space) (place t : List ℕ) → ComeAfter s place t → (us : List Trial) → AreNextInOrder s (just_after t) us → AreNextInOrder s place us
order_on s place t c [] h = tt
order_on s place t c (u ∷ us) h = ((alike_next s place (just_after t) (position u) c h.0.0, h.0.1), h.1)

-- ---- reports of such judgements

-- what is known of a space, so that its trials are formed
pub record IsWellFormed (s : Space) (store : LabelledStore) : Type 0 where
  pub plans : ArePlans s.rules s.plans
  pub rules : AllByRecursion IsRule s.rules
  pub entries : store.entries ≡ s.store
  pub labelled : IsLabelled store

abbrev pub trials_judged : List Judgement → List Trial
trials_judged js = map (λ j. j.trial) js

-- Each of them is reported; and those after them come next where the search goes on.
pub reports_all : (s : Space) (store : LabelledStore) → IsWellFormed s store → (place : List ℕ) (js : List Judgement) (more : List Trial)
    → AllByRecursion (λ j. IsVerdict j.trial j.verdict) js → AllByRecursion (λ j. j.verdict ≢ verdicts.Whole) js → AreNextInOrder s place (trials_judged js ++ more)
    → Reports s place js (length js) (after_all place js) × AreNextInOrder s (after_all place js) more
reports_all s store w place [] more right other next = (done place, next)
reports_all s store w place (j ∷ js) more right other next =
    let formed : IsFormed j.trial = trial_formed s store j.trial w.plans w.rules w.entries w.labelled (next_trial s place (position j.trial) next.0.0) next.0.1 in
    let on = order_on s (after_judging j) (position j.trial) (judged_after s j w.plans next.0.1 formed j.verdict refl right.0 other.0) (trials_judged js ++ more) next.1 in
    let rest = reports_all s store w (after_judging j) js more right.1 other.1 on in
    (moves place (after_all (after_judging j) js) j js (length js) next.0 other.0 rest.0, rest.1)

-- the judgements that are reported, and the one that is whole
pub told_all : (s : Space) (store : LabelledStore) → IsWellFormed s store → (place after : List ℕ) (sheet : JudgedSheet) (count : ℕ)
    → AllByRecursion (λ j. IsVerdict j.trial j.verdict) sheet.others → AllByRecursion (λ j. j.verdict ≢ verdicts.Whole) sheet.others → AreNextInOrder s place (map (λ j. j.trial) (judgements_of sheet)) → after ≡ after_all place sheet.others → count ≡ length sheet.others
    → Reports s place sheet.others count after × AreNextInOrder s after (map (λ j. j.trial) (listed sheet.whole))
told_all s store w place after sheet count right other next goes counted =
    let split : map (λ (j : Judgement). j.trial) (judgements_of sheet) ≡ trials_judged sheet.others ++ map (λ (j : Judgement). j.trial) (listed sheet.whole) = map-append (λ (j : Judgement). j.trial) sheet.others (listed sheet.whole) in
    let all = reports_all s store w place sheet.others (map (λ (j : Judgement). j.trial) (listed sheet.whole)) right other (subst (AreNextInOrder s place) split next) in (
      subst (λ n. Reports s place sheet.others n after) (sym counted) (subst (Reports s place sheet.others (length sheet.others)) (sym goes) all.0),
      subst (λ p. AreNextInOrder s p (map (λ (j : Judgement). j.trial) (listed sheet.whole))) (sym goes) all.1,
    )

pub some_told : (found : Option (Bor Judgement)) (whole : Option Judgement) (told : Bool) → option_copied found ≡ whole → told ≡ is_some found → told ≡ is_some whole
some_told None whole told are is = is ∙ ap is_some are
some_told (Some j) whole told are is = is ∙ ap is_some are

pub fireable : (s : Space) (place : List ℕ) (whole : Option Judgement) (told : Bool) → told ≡ is_some whole → AreNextInOrder s place (map (λ (j : Judgement). j.trial) (listed whole)) → IsFireable s place whole told
fireable s place None told is next = is
fireable s place (Some j) told is next = (λ t. next.0, λ n. is)

-- all of the trials are admissible
all_trials : (s : Space) (place : List ℕ) (js : List Judgement) → AreNextInOrder s place (map (λ (j : Judgement). j.trial) js) → AllByRecursion (λ j. IsTrial s (position j.trial)) js
all_trials s place [] next = tt
all_trials s place (j ∷ js) next = (next_trial s place (position j.trial) next.0.0, all_trials s (just_after (position j.trial)) js next.1)

-- and those of the last place
pub admissible_last : {Z : Type 0} (s : Space) (place : List ℕ) (sheet : JudgedSheet) (xs before : List (CodeTrials Z)) (x : CodeTrials Z) → judged_in xs ≡ sheet.others → xs ≡ before ++ x ∷ []
    → AreNextInOrder s place (map (λ (j : Judgement). j.trial) (judgements_of sheet)) → AllByRecursion (λ j. IsTrial s (position j.trial)) (judged_at x)
admissible_last s place sheet xs before x are e next =
    let P : Judgement → Type 0 = λ j. IsTrial s (position j.trial) in
    let all = ((all_both P sheet.others (listed sheet.whole)).0 (all_trials s place (judgements_of sheet) next)).0 in
    ((all_both P (judged_in before) (judged_at x)).0 (subst (AllByRecursion P) (sym are ∙ judged_pushed before xs x e) all)).1

-- ---- where the search goes on

-- the last one, and those before it
pub last_split : {X : Type 0} (xs : List X) (x : X) → Some x ≡ slice_get xs (length xs - 1) → (before : List X) × (xs ≡ before ++ x ∷ [])
last_split [] x e = absurd (cc)
last_split (y ∷ []) x e = ([], ap (λ z. z ∷ []) (some_is y x (sym e)))
last_split (y ∷ z ∷ zs) x e =
    let more = last_split (z ∷ zs) x (e ∙ ap (slice_get (y ∷ z ∷ zs)) (let k : length (y ∷ z ∷ zs) - 1 ≡ suc (length (z ∷ zs) - 1) = omega arith in k)) in
    (y ∷ more.0, ap (λ ws. y ∷ ws) more.1)

pub none_last : {X : Type 0} (xs : List X) (last : Option (Bor X)) → last ≡ None → option_copied last ≡ slice_get xs (length xs - 1) → xs ≡ []
none_last [] last none e = refl
none_last (y ∷ []) last none e = absurd (cc (sym e ∙ ap option_copied none))
none_last (y ∷ z ∷ zs) last none e =
    let there : slice_get (y ∷ z ∷ zs) (suc (length (z ∷ zs) - 1)) ≡ None = ap (slice_get (y ∷ z ∷ zs)) (let k : suc (length (z ∷ zs) - 1) ≡ length (y ∷ z ∷ zs) - 1 = omega arith in k) ∙ sym e ∙ ap option_copied none in
    let rest : z ∷ zs ≡ [] = none_last (z ∷ zs) None refl (sym there) in
    absurd (cc)

after_both : (place : List ℕ) (js ks : List Judgement) → after_all place (js ++ ks) ≡ after_all (after_all place js) ks
after_both place [] ks = refl
after_both place (j ∷ js) ks = after_both (after_judging j) js ks

after_last : (place : List ℕ) (js all : List Judgement) (j : Judgement) → all ≡ js ++ j ∷ [] → after_all place all ≡ after_judging j
after_last place js all j e = ap (after_all place) e ∙ after_both place js (j ∷ [])

pub after_place : {Z : Type 0} (place : List ℕ) (xs before : List (CodeTrials Z)) (x : CodeTrials Z) (js : List Judgement) → judged_in xs ≡ js → xs ≡ before ++ x ∷ [] → after_all (after_all place (judged_in before)) (judged_at x) ≡ after_all place js
after_place place xs before x js are e = sym (after_both place (judged_in before) (judged_at x)) ∙ ap (after_all place) (sym (judged_pushed before xs x e) ∙ are)

-- after the last trial of a row
lasts_split : {X : Type 0} (f : X → Placed) (row : Row) (xs before : List X) (last : X) → map f xs ≡ row.lasts → xs ≡ before ++ last ∷ [] → trials_of row ≡ map (lengthened row.part) (map f before) ++ lengthened row.part (f last) ∷ []
lasts_split f row xs before last are e =
    let lasts : row.lasts ≡ map f before ++ f last ∷ [] = sym are ∙ ap (map f) e ∙ map_push f before last in
    ap (map (lengthened row.part)) lasts ∙ map_push (lengthened row.part) (map f before) (f last)

pub after_row : {X : Type 0} (f : X → Placed) (place : List ℕ) (row : Row) (xs before : List X) (last : X) → map f xs ≡ row.lasts → xs ≡ before ++ last ∷ [] → after_all place (map misfit (trials_of row)) ≡ past (position row.part ++ (f last).label ∷ [])
after_row f place row xs before last are e =
    let front : List Trial = map (lengthened row.part) (map f before) in
    let judged : map misfit (trials_of row) ≡ map misfit front ++ misfit (lengthened row.part (f last)) ∷ [] = ap (map misfit) (lasts_split f row xs before last are e) ∙ map_push misfit front (lengthened row.part (f last)) in
    after_last place (map misfit front) (map misfit (trials_of row)) (misfit (lengthened row.part (f last))) judged ∙ ap past (longer_position row.part (f last))

pub last_low : {X : Type 0} (f : X → Placed) (row : Row) (xs before : List X) (last : X) → IsRow row → map f xs ≡ row.lasts → xs ≡ before ++ last ∷ [] → (f last).label ≤ 4294967295
last_low f row xs before last k are e =
    let all = subst (AllByRecursion IsFormed) (lasts_split f row xs before last are e) k.formed in
    label_low row.part (f last) ((all_push IsFormed (map (lengthened row.part) (map f before)) (lengthened row.part (f last))).0 all).1

-- after the last trial of a column
after_more : (place : List ℕ) (t : Trial) (us : List Trial) → after_all place (map misfit (t ∷ us)) ≡ past (position (last_of t us))
after_more place t [] = refl
after_more place t (u ∷ us) = after_more (past (position t)) u us

head_labels : (t : Trial) (h : Head) → labels (at_head t h) ≡ labels t
head_labels t h = map_twice (λ (p : Placed). record p { head = h.head }) (λ (p : Placed). p.label) t.placed

last_labels : (t u : Trial) (hs : List Head) → labels u ≡ labels t → labels (last_of u (map (at_head t) hs)) ≡ labels t
last_labels t u [] e = e
last_labels t u (h ∷ hs) e = last_labels t (at_head t h) hs (head_labels t h)

pub after_column : (s : Space) (place : List ℕ) (c : Column) (number head label : ℕ) → length c.first.placed ≡ 1 → IsTrial s (position c.first) → s.active ≡ label
    → number ≡ (last_of c.first (map (at_head c.first) c.more)).number → head ≡ (last_of c.first (map (at_head c.first) c.more)).head → after_all place (map misfit (column_trials c)) ≡ past (number ∷ head ∷ label ∷ [])
after_column s place c number head label one i active number_is head_is =
    let p = only_placed c.first.placed one in
    let last : Trial = last_of c.first (map (at_head c.first) c.more) in
    let there : labels last ≡ label ∷ [] = last_labels c.first c.first c.more refl ∙ ap (map (λ (x : Placed). x.label)) p.1 ∙ ap (λ l. l ∷ []) (active_alone s c.first p.0 p.1 i ∙ active) in
    let same : position last ≡ number ∷ head ∷ label ∷ [] = cc in
    after_more place c.first (map (at_head c.first) c.more) ∙ ap past same
