-- The trials after another, and whether a trial is the next one.
use Rattle.std.proofs.Common.{◌≡◌, ◌≢◌, Decides, ℕ, ◌+◌, ◌<◌, ◌≤◌, Bool, true, false, ◌==◌, List, [], ◌∷◌, length, Some, refl, sym, ◌∙◌, ap, subst, arith, true≢false}
use Rattle.std.specs.List.{AllByRecursion}
use Rattle.std.proofs.lemmas.Bool.Decides.{nat_tests}
use Rattle.chr_rule.specs.Scope.{IsRule}
use Rattle.chr_plan.specs.Orders.{heads_of}
use Rattle.chr_plan.specs.Plans.{ArePlans}
use Rattle.chr_store.specs.Labels.{LabelledStore, IsLabelled}
use Rattle.chr_search.specs.Positions.{at_or_after, begins, just_after, past}
use Rattle.chr_search.specs.Trials.{Space, join_in, IsTrial, IsNext}
use Rattle.chr_search.specs.Verdicts.{Trial, position, IsFormed, IsTrialOf}
use Rattle.chr_search.specs.Answers.{IsToldNext}
use Rattle.chr_search.specs.Fronts.{ComeAfter}
use Rattle.chr_search.proofs.Positions.{after, after_itself, just_after_reaches, passed, passed_reaches}
use Rattle.chr_search.proofs.Plans.{planned_order}
use Rattle.chr_search.proofs.Descents.{rule_scoped, rule_low, head_low}
use Rattle.chr_search.proofs.Judging.{few_heads, labels_length}
use Rattle.chr_search.proofs.Making.{grows_count, next_trial}
use Rattle.chr_search.proofs.Searching.{moves_past}
use Rattle.chr_search.proofs.Shrinking.{branch}
use Rattle.chr_search.proofs.PassingOver.{made_of, position_made, trial_of_made}

-- what a position begins is longer, if it comes after it
longer : (p q : List ℕ) → begins p q ≡ true → at_or_after (just_after p) q ≡ true → length p < length q
longer [] (y ∷ q) b h = omega arith
longer (x ∷ p) (y ∷ q) b h = let r = longer p q in grind (arith, nat_tests)
longer p q b h = absurd (cc)

-- a trial has as many labels as its rule has heads, at most
pub many_numbers : (s : Space) → ArePlans s.rules s.plans → (t : List ℕ) (i : IsTrial s t) → length t ≤ length (heads_of (branch s t i).rule) + 2
many_numbers s ps t i =
    let b = branch s t i in
    let count = grows_count (join_in s b.rule b.order) [] b.labels b.grows (omega arith) in
    let same = (planned_order s.rules s.plans ps b.r b.h b.rule b.order b.planned.rule_is b.planned.order_is).count in
    omega (arith, count, same, ap length b.is)

-- and so six
few_numbers : (s : Space) → ArePlans s.rules s.plans → AllByRecursion IsRule s.rules → (t : List ℕ) → IsTrial s t → length t ≤ 8
few_numbers s ps all t i =
    let b = branch s t i in
    omega (arith, many_numbers s ps t i, few_heads b.rule (rule_scoped s.rules all b.r b.rule b.planned.rule_is))

-- where a position begins no longer trial, the first one after it is past all that it begins
past_after : (p q : List ℕ) → p ≢ [] → at_or_after (past p) q ≡ true → at_or_after (just_after p) q ≡ true
past_after p q ne h =
    after p q (passed_reaches p q h) (λ e. true≢false (sym h ∙ ap (at_or_after (past p)) (sym e) ∙ (moves_past p p ne (after_itself p)).1))

after_past : (p q : List ℕ) → (begins p q ≡ true → length q ≤ length p) → at_or_after (just_after p) q ≡ true → at_or_after (past p) q ≡ true
after_past p q short h = passed p q (just_after_reaches p q h) (let more : begins p q ≡ true → length p < length q = λ b. longer p q b h in grind arith)

pub come_after : (s : Space) (p : List ℕ) → p ≢ [] → ((q : List ℕ) → IsTrial s q → begins p q ≡ true → length q ≤ length p) → ComeAfter s (past p) p
come_after s p ne short q i = (past_after p q ne, after_past p q (short q i))

-- so it is where a search goes on after a trial
pub gone_after : (s : Space) (t : Trial) (place : List ℕ) → ArePlans s.rules s.plans → AllByRecursion IsRule s.rules → (length t.placed ≡ 6 → place ≡ past (position t)) → (length t.placed ≢ 6 → place ≡ just_after (position t)) → ComeAfter s place (position t)
gone_after s t place ps all most fewer =
    elim (length t.placed == 6) as (λ b. (length t.placed == 6 ≡ b) → ComeAfter s place (position t)) [
      | true ↦ λ b.
          let same : length t.placed ≡ 6 = grind (arith, nat_tests) in
          subst (λ z. ComeAfter s z (position t)) (sym (most same))
          (come_after s (position t) (λ e. (cc)) (λ q i e. let few = few_numbers s ps all q i in omega (arith, labels_length t)))
      | false ↦ λ b. subst (λ z. ComeAfter s z (position t)) (sym (fewer (grind (arith, nat_tests)))) (λ q i. (λ e. e, λ e. e))
    ] refl

-- the trial of the next position
pub record Other (s : Space) (p : List ℕ) : Type 0 where
  pub trial : Trial
  pub formed : IsFormed trial
  pub is : position trial ≡ p
  pub trial_of : IsTrialOf s.rules s.plans s.store trial

next_made : (s : Space) (store : LabelledStore) → ArePlans s.rules s.plans → AllByRecursion IsRule s.rules → store.entries ≡ s.store → IsLabelled store → (p : List ℕ) → IsTrial s p → Other s p
next_made s store ps all st w p i =
    let b = branch s p i in
    let m = made_of s b.rule b.order b.r b.h (record { planned = b.planned; plans = ps; store = store; entries = st; labelled = w; scoped = rule_scoped s.rules all b.r b.rule b.planned.rule_is; number = (rule_low s.rules b.r b.rule b.planned.rule_is).0; head = head_low s.plans b.r b.h b.order b.planned.order_is }) b.labels b.some b.grows in
    record {
      trial = m.trial;
      formed = m.is.formed;
      is = position_made s b.rule b.order b.r b.h b.labels m ∙ sym b.is;
      trial_of = trial_of_made s b.rule b.order b.r b.h b.labels m b.planned.rule_is b.planned.order_is;
    }

-- it is another than a trial with another position or other parts
pub told_other : (s : Space) (store : LabelledStore) (place p : List ℕ) (t : Trial) → ArePlans s.rules s.plans → AllByRecursion IsRule s.rules → store.entries ≡ s.store → IsLabelled store → IsNext s place p → (p ≡ position t → IsTrialOf s.rules s.plans s.store t → ⊥) → IsToldNext s place t (Some false)
told_other s store place p t ps all st w n isnt =
    let o = next_made s store ps all st w p (next_trial s place p n) in
    (o.trial, o.formed, λ e. isnt (sym o.is ∙ ap position e) (subst (IsTrialOf s.rules s.plans s.store) e o.trial_of), subst (IsNext s place) (sym o.is) n, o.trial_of)

pub told_of : (s : Space) (store : LabelledStore) (place p : List ℕ) (t : Trial) (told : Bool) → ArePlans s.rules s.plans → AllByRecursion IsRule s.rules → store.entries ≡ s.store → IsLabelled store → IsNext s place p → p ≡ position t → Decides told (IsTrialOf s.rules s.plans s.store t) → IsToldNext s place t (Some told)
told_of s store place p t true ps all st w n e d = (subst (IsNext s place) e n, d.0 refl)
told_of s store place p t false ps all st w n e d = told_other s store place p t ps all st w n (λ z i. true≢false (sym (d.1 i)))
