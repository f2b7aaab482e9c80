-- Searches that pass over trials plan by plan.
use Rattle.std.proofs.Common.{◌≡◌, ℕ, zero, suc, ◌+◌, ◌<◌, ◌≤◌, Bool, true, false, ◌==◌, if◌then◌else◌, List, [], ◌∷◌, map, take, length, Option, Some, None, slice_get, refl, sym, ◌∙◌, ap, subst, ap₂, arith, ◌↔◌, inl, inr, true≢false, length-append}
use Rattle.std.proofs.lemmas.Bool.{cases_lt}
use Rattle.std.proofs.lemmas.Bool.Decides.{nat_tests}
use Rattle.std.proofs.lemmas.Option.{slice_get_within}
use Rattle.chr_value.specs.Atoms.{Value, Atom}
use Rattle.chr_rule.specs.Rules.{RuleAtom, Simpagation, head_at}
use Rattle.chr_model.specs.Stores.{atom_at, among}
use Rattle.chr_plan.specs.Orders.{heads_of, first_step, IsPlan}
use Rattle.chr_plan.specs.Plans.{PlanList, ArePlans}
use Rattle.chr_plan.specs.declared.order.Step.{Step}
use Rattle.chr_store.specs.Labels.{LabelledStore, IsLabelled}
use Rattle.chr_store.specs.Views.{Seen}
use Rattle.chr_search.specs.Positions.{at_or_after, past}
use Rattle.chr_search.specs.Tree.{Grows, Least, NoneBeyond}
use Rattle.chr_search.specs.Trials.{Join, HasHeadPred, MayFollow, Space, older, join_in, IsPlanned, Child, IsTrial, IsNext, NoneLeft}
use Rattle.chr_search.specs.Verdicts.{Placed, Trial, label_at, labels_from, kept_labels, removed_labels, position}
use Rattle.chr_search.specs.Partners.{HasPlan}
use Rattle.chr_search.specs.Answers.{after_verdict}
use Rattle.chr_search.specs.Passing.{IsTrialIn, HasTrials, AreWhole, PassesOneIn, PassesIn, PassesOne, Passes, IsWholeNext}
use Rattle.chr_search.specs.PlanByPlan.{label_at_head, labels_at_heads, labels_in, IsJoinOf, IsJoinAt, HasComeTo, IsWholeAt}
use Rattle.chr_search.specs.Wholes.{WholeTrial}
use Rattle.chr_search.proofs.Positions.{after_itself, after_by}
use Rattle.chr_search.proofs.Plans.{heads_in, planned}
use Rattle.chr_search.proofs.Tree.{least_deep}
use Rattle.chr_search.proofs.Asking.{begins_if}
use Rattle.chr_search.proofs.Judging.{few_heads}
use Rattle.chr_search.proofs.Descents.{none_left, head_low, rule_low, grows_in, is_first, each_trial, least_out}
use Rattle.chr_search.proofs.PassingOver.{Makes, made_of, has_trials, position_made, trial_of_made, after_labels, pass_more}

-- these are the labels of a trial
pub placed_label : (order : List Step) (ps : List Placed) (h : ℕ) → map (λ (p : Placed). p.head) ps ≡ take (length ps) (heads_in order) → label_at_head order (map (λ (p : Placed). p.label) ps) h ≡ label_at ps h
placed_label order [] h e = refl
placed_label [] (p ∷ ps) h e = absurd (cc)
placed_label (s ∷ order) (p ∷ ps) h e = let head : p.head ≡ s.head = cc in let rest = placed_label order ps h (cc) in cc

placed_labels : (order : List Step) (ps : List Placed) (h n : ℕ) → map (λ (p : Placed). p.head) ps ≡ take (length ps) (heads_in order) → labels_at_heads order (map (λ (p : Placed). p.label) ps) h n ≡ labels_from ps h n
placed_labels order ps h zero e = refl
placed_labels order ps h (suc n) e = let a = placed_label order ps h e in let b = placed_labels order ps (suc h) n e in cc

-- at its kept and at its removed heads
at_heads : (j : Join) (ls : List ℕ) (t : Trial) → IsTrialIn j ls t → (labels_at_heads j.order ls 1 (length j.rule.kept) ≡ kept_labels t) × (labels_at_heads j.order ls (suc (length j.rule.kept)) (length j.rule.removed) ≡ removed_labels t)
at_heads j ls t i =
    subst (λ (r : Simpagation ℕ). (labels_at_heads j.order ls 1 (length r.kept) ≡ kept_labels t) × (labels_at_heads j.order ls (suc (length r.kept)) (length r.removed) ≡ removed_labels t)) i.rule_is
    (subst (λ zs. (labels_at_heads j.order zs 1 (length t.rule.kept) ≡ kept_labels t) × (labels_at_heads j.order zs (suc (length t.rule.kept)) (length t.rule.removed) ≡ removed_labels t)) i.labels_are
    (placed_labels j.order t.placed 1 (length t.rule.kept) i.heads_are, placed_labels j.order t.placed (suc (length t.rule.kept)) (length t.rule.removed) i.heads_are))

-- the trials at or after one place are those at or after the other
abbrev pub AreAlike : Space → List ℕ → List ℕ → Type 0
AreAlike s p q = (t : List ℕ) → IsTrial s t → (at_or_after p t ≡ true) ↔ (at_or_after q t ≡ true)

pub itself : (s : Space) (p : List ℕ) → AreAlike s p p
itself s p = λ t i. (λ e. e, λ e. e)

pub alike_next : (s : Space) (p q t : List ℕ) → AreAlike s p q → IsNext s q t → IsNext s p t
alike_next s p q t a l =
    let f = (is_first s q t).0 l in
    (is_first s p t).1 (record { trial = f.trial; there = (a t f.trial).1 f.there; first = λ u i h. f.first u i ((a u i).0 h) })

-- where a search has come
pub come_to_own : (s : Space) (r h : ℕ) (ls : List ℕ) → HasComeTo s (r ∷ h ∷ ls) r h
come_to_own s r h ls = record { later = after_itself (r ∷ h ∷ []); none = λ t i e. after_by (r ∷ h ∷ []) (r ∷ h ∷ ls) t (grind (arith, nat_tests)) e }

pub alike_in : (s : Space) (place : List ℕ) (r h : ℕ) → HasComeTo s place r h → AreAlike s place (r ∷ h ∷ labels_in place r h)
alike_in s [] r h c = λ t i. (c.none t i, λ e. refl)
alike_in s (x ∷ []) r h c = λ t i. (c.none t i, after_by (x ∷ []) (r ∷ h ∷ []) t c.later)
alike_in s (x ∷ y ∷ ls) r h c = each_trial s (λ t. (at_or_after (x ∷ y ∷ ls) t ≡ true) ↔ (at_or_after (r ∷ h ∷ labels_in (x ∷ y ∷ ls) r h) t ≡ true)) (λ b k l more i first.
    let later = c.later in
    let none = c.none (b ∷ k ∷ l ∷ more) i in
    (λ e. grind (arith, nat_tests), λ e. grind (arith, nat_tests)))

-- on to the next head, and to the end
pub come_to_next_head : (s : Space) (place : List ℕ) (r h : ℕ) (labels : List ℕ) (j : Join) → HasComeTo s place r h → AreAlike s place (r ∷ h ∷ labels) → IsPlanned s r h j.rule j.order → j ≡ join_in s j.rule j.order → NoneBeyond (MayFollow j) 1 [] labels → HasComeTo s place r (h + 1)
come_to_next_head s place r h labels j c a p is n = record {
  later = after_by (take 2 place) (r ∷ h ∷ []) (r ∷ (h + 1) ∷ []) c.later (grind (arith, nat_tests));
  none = each_trial s (λ t. at_or_after place t ≡ true → at_or_after (r ∷ (h + 1) ∷ []) t ≡ true) (λ x y l ls i first e.
      let there = (a (x ∷ y ∷ l ∷ ls) i).0 e in
      let planned : r ≡ x → h ≡ y → IsPlanned s x y j.rule j.order = λ rx hy. subst (λ z. IsPlanned s z y j.rule j.order) rx (subst (λ z. IsPlanned s r z j.rule j.order) hy p) in
      let gone : r ≡ x → h ≡ y → at_or_after labels (l ∷ ls) ≡ true → ⊥ = λ rx hy under. n (l ∷ ls) (record {
        grows = subst (λ k. Grows (MayFollow k) [] (l ∷ ls)) (sym is) (grows_in s x y j.rule j.order (planned rx hy) [] (l ∷ ls) i.grows.1.1);
        deep = omega arith;
        there = under;
      }) in
      grind (arith, nat_tests));
}

pub come_to_end : (s : Space) (place : List ℕ) (r h : ℕ) → HasComeTo s place r h → NoneLeft s (r ∷ h ∷ []) → NoneLeft s place
come_to_end s place r h c n = (none_left s place).1 (λ t i e. (none_left s (r ∷ h ∷ [])).0 n t i (c.none t i e))

-- what a plan's trials are to the search
pub grown : (j : Join) (place ls : List ℕ) → Least (MayFollow j) 1 [] place ls → (1 ≤ length ls) × Grows (MayFollow j) [] ls
grown j place ls l = (
  subst (λ (z : List ℕ). 1 ≤ length z) (sym l.is) l.beyond.deep,
  subst (Grows (MayFollow j) []) (sym l.is) l.beyond.grows,
)

pub next_in_plan : (s : Space) (place : List ℕ) (r h : ℕ) (labels : List ℕ) (j : Join) → AreAlike s place (r ∷ h ∷ labels) → IsPlanned s r h j.rule j.order → j ≡ join_in s j.rule j.order → (ls : List ℕ) → Least (MayFollow j) 1 [] labels ls → IsNext s place (r ∷ h ∷ ls)
next_in_plan s place r h labels j a p is ls l =
    alike_next s place (r ∷ h ∷ labels) (r ∷ h ∷ ls) a
    (least_deep (Child s) 3 [] (r ∷ h ∷ []) labels (r ∷ h ∷ ls) ((j.rule, p.rule_is), ((j.rule, j.order, p), tt)) (least_out s r h j.rule j.order p labels ls (subst (λ k. Least (MayFollow k) 1 [] labels ls) is l)))

-- a plan's trials that are passed over, from a place that is alike
one_in : (s : Space) (rule : Simpagation ℕ) (order : List Step) (r h : ℕ) → Makes s rule order r h → (place old middle : List ℕ) → AreAlike s place (r ∷ h ∷ old) → PassesOneIn (join_in s rule order) old middle → PassesOne s place (r ∷ h ∷ middle)
one_in s rule order r h m place old middle a one =
    let g = grown (join_in s rule order) old one.trial one.least in
    let t = made_of s rule order r h m one.trial g.0 g.1 in
    let is = position_made s rule order r h one.trial t in
    record {
      judged = record { trial = t.trial; verdict = one.verdict };
      next = subst (IsNext s place) (sym is) (next_in_plan s place r h old (join_in s rule order) a m.planned refl one.trial one.least);
      is = trial_of_made s rule order r h one.trial t m.planned.rule_is m.planned.order_is;
      formed = t.is.formed;
      right = one.right t.trial t.is;
      other = one.other;
      on = ap (λ (z : List ℕ). r ∷ h ∷ z) one.on ∙ sym (after_labels one.verdict r h one.trial g.0) ∙ ap (after_verdict one.verdict) (sym is);
    }

passed_on : (s : Space) (rule : Simpagation ℕ) (order : List Step) (r h : ℕ) → Makes s rule order r h → (n : ℕ) (old new : List ℕ) → PassesIn (join_in s rule order) n old new → Passes s n (r ∷ h ∷ old) (r ∷ h ∷ new)
passed_on s rule order r h m zero old new e = ap (λ (z : List ℕ). r ∷ h ∷ z) e
passed_on s rule order r h m (suc n) old new (middle, one, more) = (
  r ∷ h ∷ middle,
  one_in s rule order r h m (r ∷ h ∷ old) old middle (itself s (r ∷ h ∷ old)) one,
  passed_on s rule order r h m n middle new more,
)

passed_in : (s : Space) (rule : Simpagation ℕ) (order : List Step) (r h : ℕ) → Makes s rule order r h → (n : ℕ) (place old new : List ℕ) → AreAlike s place (r ∷ h ∷ old) → PassesIn (join_in s rule order) (suc n) old new → Passes s (suc n) place (r ∷ h ∷ new)
passed_in s rule order r h m n place old new a (middle, one, more) = (r ∷ h ∷ middle, one_in s rule order r h m place old middle a one, passed_on s rule order r h m n middle new more)

-- a search that has gone through a plan
pub record HasGone (s : Space) (place : List ℕ) (r h n : ℕ) (labels : List ℕ) : Type 0 where
  pub after : List ℕ
  pub passed : Passes s n place after
  pub come : HasComeTo s after r h
  pub alike : AreAlike s after (r ∷ h ∷ labels)

pub gone_at : (s : Space) (r h : ℕ) (j : Join) → IsJoinAt s r h j → Makes s j.rule j.order r h → (place : List ℕ) (n : ℕ) (labels : List ℕ) → HasComeTo s place r h → PassesIn j n (labels_in place r h) labels → HasGone s place r h n labels
gone_at s r h j k m place zero labels c p = record {
  after = place;
  passed = refl;
  come = c;
  alike = subst (λ z. AreAlike s place (r ∷ h ∷ z)) (sym p) (alike_in s place r h c);
}
gone_at s r h j k m place (suc n) labels c p = record {
  after = r ∷ h ∷ labels;
  passed = passed_in s j.rule j.order r h m n place (labels_in place r h) labels (alike_in s place r h c) (subst (λ (x : Join). PassesIn x (suc n) (labels_in place r h) labels) k.is p);
  come = come_to_own s r h labels;
  alike = itself s (r ∷ h ∷ labels);
}

-- one that has passed over some of its trials stands in it
pub gone_some : (s : Space) (r h : ℕ) (j : Join) → IsJoinAt s r h j → Makes s j.rule j.order r h → (place : List ℕ) (n : ℕ) (labels : List ℕ) → HasComeTo s place r h → PassesIn j n (labels_in place r h) labels → 1 ≤ n → Passes s n place (r ∷ h ∷ labels)
unfolding gone_at
gone_some s r h j k m place zero labels c p some = absurd (omega arith)
gone_some s r h j k m place (suc n) labels c p some = (gone_at s r h j k m place (suc n) labels c p).passed

-- a label at one of the next n heads is among those at them
among_heads : (order : List Step) (ls : List ℕ) (first n h : ℕ) → first ≤ h → h < first + n → among (labels_at_heads order ls first n) (label_at_head order ls h) ≡ true
among_heads order ls first zero h low high = absurd (omega arith)
among_heads order ls first (suc n) h low high = elim (cases_lt first h) [
  | inl less ↦ let rest = among_heads order ls (suc first) n h less (omega arith) in grind (arith, nat_tests)
  | inr more ↦ let same : first ≡ h = omega arith in grind (arith, nat_tests)
]

-- The active label of a trial stands at the head whose plan it is, so where that label isn't at a removed head, the head is a
-- kept one.
at_own_head : (rule : Simpagation ℕ) (h : ℕ) (order : List Step) (l : ℕ) (ls : List ℕ) → IsPlan (heads_of rule) h order → label_at_head order (l ∷ ls) h ≡ l
at_own_head rule h order l ls p =
    let same : (h == h) ≡ true = grind (arith, nat_tests) in
    ap (λ (steps : List Step). label_at_head steps (l ∷ ls) h) p.first ∙ ap (λ (b : Bool). if b then l else label_at_head p.rest ls h) same

kept_head : (s : Space) (r h : ℕ) (rule : Simpagation ℕ) (order : List Step) → Makes s rule order r h → (ls : List ℕ) → 1 ≤ length ls → Grows (MayFollow (join_in s rule order)) [] ls → among (labels_at_heads order ls (suc (length rule.kept)) (length rule.removed)) s.active ≡ false → h ≤ length rule.kept
kept_head s r h rule order m [] some g away = absurd (omega arith)
kept_head s r h rule order m (l ∷ ls) some g away =
    let q = planned s.rules s.plans m.plans r h rule order m.planned.rule_is m.planned.order_is in
    let there = among_heads order (l ∷ ls) (suc (length rule.kept)) (length rule.removed) h in
    let active : label_at_head order (l ∷ ls) h ≡ s.active = at_own_head rule h order l ls q.plan ∙ g.0.turn in
    elim (cases_lt (length rule.kept) h) [
      | inl less ↦ absurd (true≢false (sym (there less (omega (arith, q.to, length-append rule.kept rule.removed))) ∙ ap (among (labels_at_heads order (l ∷ ls) (suc (length rule.kept)) (length rule.removed))) active ∙ away))
      | inr within ↦ within
    ]

-- the trial that is whole
pub whole_at : (s : Space) (r h : ℕ) (j : Join) → IsJoinAt s r h j → Makes s j.rule j.order r h → (place : List ℕ) (n : ℕ) (labels ls : List ℕ) (binding : List (Option (Value ℕ))) → (gone : HasGone s place r h n labels) → Least (MayFollow j) 1 [] labels ls → AreWhole j ls binding → (w : WholeTrial) → IsWholeAt j r h ls w → IsWholeNext s gone.after w binding
whole_at s r h j k m place n labels ls binding gone l whole w at =
    let g = subst (λ (x : Join). (1 ≤ length ls) × Grows (MayFollow x) [] ls) k.is (grown j labels ls l) in
    let t = made_of s j.rule j.order r h m ls g.0 g.1 in
    let is : position t.trial ≡ r ∷ h ∷ ls = position_made s j.rule j.order r h ls t in
    let labels_are = at_heads (join_in s j.rule j.order) ls t.trial t.is in
    let active : w.past.label ≡ s.active = at.label_is ∙ ap (λ (x : Join). x.active) k.is in
    record {
      trial = t.trial;
      next = subst (IsNext s gone.after) (sym is) (next_in_plan s gone.after r h labels j gone.alike m.planned k.is ls l);
      is = trial_of_made s j.rule j.order r h ls t m.planned.rule_is m.planned.order_is;
      formed = t.is.formed;
      under = subst (λ (x : Join). AreWhole x ls binding) k.is whole t.trial t.is;
      number_is = at.number_is ∙ sym t.number;
      kept_are = at.kept_are ∙ labels_are.0;
      removed_are = at.removed_are ∙ labels_are.1;
      label_is = active;
      past_is = λ away. at.past_is (kept_head s r h j.rule j.order m ls g.0 g.1 (ap₂ among (sym at.removed_are) (sym active) ∙ away)) ∙ ap past (sym is);
    }

-- the join of a plan, and what comes of passing over its trials
pub head_at_most : (s : Space) (r h : ℕ) (rule : Simpagation ℕ) (order : List Step) → Makes s rule order r h → h ≤ 6
head_at_most s r h rule order m =
    let q = planned s.rules s.plans m.plans r h rule order m.planned.rule_is m.planned.order_is in
    let to : h ≤ length (heads_of rule) = q.to in
    let few : length (heads_of rule) ≤ 6 = few_heads rule m.scoped in
    omega arith

pub trials_at : (s : Space) (r h : ℕ) (j : Join) → IsJoinAt s r h j → Makes s j.rule j.order r h → HasTrials j
trials_at s r h j k m = subst HasTrials (sym k.is) (has_trials s j.rule j.order r h m)

-- the plan of a head with the active atom's predicate
pub head_bounds : (rule : Simpagation ℕ) (h : ℕ) (head : RuleAtom ℕ) → head_at rule h ≡ Some head → (1 ≤ h) × (h ≤ length (heads_of rule))
head_bounds rule zero head e = absurd (let z : None ≡ Some head = e in cc)
head_bounds rule (suc k) head e = let less : k < length (heads_of rule) = slice_get_within (heads_of rule) k head e in omega arith

pub joins_at : (s : Space) (r h : ℕ) (j : Join) (head : RuleAtom ℕ) (atom : Atom ℕ) → ArePlans s.rules s.plans → IsJoinOf s r h j → head_at j.rule h ≡ Some head → atom_at s.store s.active ≡ Some atom → HasHeadPred head atom → IsJoinAt s r h j
joins_at s r h j head atom ps k is live pred =
    let q = planned s.rules s.plans ps r h j.rule j.order k.planned.rule_is k.planned.order_is in
    let plan : HasPlan (join_in s j.rule j.order) = subst HasPlan k.is k.plan in
    record {
      planned = k.planned;
      is = k.is;
      plan = k.plan;
      begins = subst (λ (x : Join). MayFollow x [] x.active) (sym k.is) (begins_if (join_in s j.rule j.order) plan (first_step (heads_of j.rule) h) head atom (ap (λ (z : List Step). slice_get z 0) q.plan.first) is live pred);
    }

-- a search that has come to a join
pub record HasJoin (s : Space) (place : List ℕ) (r h : ℕ) (j : Join) : Type 0 where
  pub come : HasComeTo s place r h
  pub join : IsJoinAt s r h j
  pub makes : Makes s j.rule j.order r h

pub has_join : (s : Space) (place : List ℕ) (r h : ℕ) (j : Join) → HasComeTo s place r h → IsJoinAt s r h j → ArePlans s.rules s.plans → (store : LabelledStore) → store.entries ≡ s.store → IsLabelled store → HasJoin s place r h j
has_join s place r h j c k ps store entries labelled = record {
  come = c;
  join = k;
  makes = record {
    planned = k.planned;
    plans = ps;
    store = store;
    entries = entries;
    labelled = labelled;
    scoped = k.plan.scoped;
    number = (rule_low s.rules r j.rule k.planned.rule_is).0;
    head = head_low s.plans r h j.order k.planned.order_is;
  };
}

-- the join of a rule and a plan in a view that is the same as one for a label
pub joined : (rules : List (Simpagation ℕ)) (plans : PlanList) (v seen : Seen) (l : ℕ) (rule : Simpagation ℕ) (order : List Step) → v ≡ seen → seen.active ≡ l → join_in (older rules plans v.store.entries v.active) rule order ≡ join_in (older rules plans seen.store.entries l) rule order
joined rules plans v seen l rule order same active = ap (λ (x : Seen). join_in (older rules plans x.store.entries x.active) rule order) same ∙ ap (λ (x : ℕ). join_in (older rules plans seen.store.entries x) rule order) active

-- as far as another search has come, which begins where this one stands
pub come_on : (s : Space) (place : List ℕ) (r h x y : ℕ) → HasComeTo s place r h → HasComeTo s (r ∷ h ∷ []) x y → HasComeTo s place x y
come_on s place r h x y c next = record { later = after_by (take 2 place) (r ∷ h ∷ []) (x ∷ y ∷ []) c.later next.later; none = λ u i e. next.none u i (c.none u i e) }

-- A search that has passed over so many trials from a place on and has come to the plan of a rule and a head. In that
-- and the later ones it looks from where the place stands there.
pub record HasReached (s : Space) (place : List ℕ) (n r h : ℕ) : Type 0 where
  pub at : List ℕ
  pub passed : Passes s n place at
  pub come : HasComeTo s at r h
  pub same : (x y : ℕ) → at_or_after (r ∷ h ∷ []) (x ∷ y ∷ []) ≡ true → labels_in place x y ≡ labels_in at x y

pub reached_first : (s : Space) (place : List ℕ) (r h : ℕ) → HasComeTo s place r h → HasReached s place 0 r h
reached_first s place r h c = record { at = place; passed = refl; come = c; same = λ x y k. refl }

-- at a later head a place stands nowhere
pub none_ahead : (place : List ℕ) (r h x y : ℕ) → at_or_after (take 2 place) (r ∷ h ∷ []) ≡ true → at_or_after (r ∷ (h + 1) ∷ []) (x ∷ y ∷ []) ≡ true → labels_in place x y ≡ []
none_ahead [] r h x y l k = refl
none_ahead (a ∷ []) r h x y l k = refl
none_ahead (a ∷ b ∷ ls) r h x y l k = grind (arith, nat_tests)

pub reached_on : (s : Space) (place : List ℕ) (n r h x y : ℕ) → HasReached s place n r h → HasComeTo s (r ∷ h ∷ []) x y → HasReached s place n x y
reached_on s place n r h x y k next = record {
  at = k.at;
  passed = k.passed;
  come = come_on s k.at r h x y k.come next;
  same = λ u v e. k.same u v (after_by (r ∷ h ∷ []) (x ∷ y ∷ []) (u ∷ v ∷ []) next.later e);
}

pub reached_past : (s : Space) (place : List ℕ) (n r h : ℕ) (j : Join) (more : ℕ) (labels : List ℕ) → (k : HasReached s place n r h) → HasJoin s k.at r h j → HasGone s k.at r h more labels → NoneBeyond (MayFollow j) 1 [] labels → HasReached s place (n + more) r (h + 1)
reached_past s place n r h j more labels k i gone none = record {
  at = gone.after;
  passed = pass_more s n more place k.at gone.after k.passed gone.passed;
  come = come_to_next_head s gone.after r h labels j gone.come gone.alike i.join.planned i.join.is none;
  same = λ u v e.
      let ahead : at_or_after (r ∷ h ∷ []) (u ∷ v ∷ []) ≡ true = grind (arith, nat_tests) in
      k.same u v ahead ∙ none_ahead k.at r h u v i.come.later e ∙ sym (none_ahead gone.after r h u v gone.come.later e);
}

-- the least trial of a plan to which a search has come, and on where it has none
pub found_at_join : (s : Space) (place : List ℕ) (r h : ℕ) (j : Join) → HasJoin s place r h j → (ls : List ℕ) → Least (MayFollow j) 1 [] (labels_in place r h) ls → IsNext s place (r ∷ h ∷ ls)
found_at_join s place r h j k = next_in_plan s place r h (labels_in place r h) j (alike_in s place r h k.come) k.join.planned k.join.is

pub on_from_join : (s : Space) (place : List ℕ) (r h : ℕ) (j : Join) → HasJoin s place r h j → NoneBeyond (MayFollow j) 1 [] (labels_in place r h) → HasComeTo s place r (h + 1)
on_from_join s place r h j k = come_to_next_head s place r h (labels_in place r h) j k.come (alike_in s place r h k.come) k.join.planned k.join.is

-- where the active label has left the store
pub gone_none : (s : Space) (place : List ℕ) → atom_at s.store s.active ≡ None → NoneLeft s place
gone_none s place none = (none_left s place).1 (λ t i e. each_trial s (λ u. ⊥) (λ r h l ls k first.
    let m = k.grows.1.1.0.3 in
    let z : None ≡ Some m.atom = sym none ∙ ap (atom_at s.store) (sym first) ∙ m.live in
    absurd (cc)) t i)
