-- Verdicts on trials in the store, and searches that pass over them.
use Rattle.std.proofs.Common.{◌≡◌, ◌↔◌, ℕ, zero, suc, ◌+◌, ◌<◌, ◌≤◌, true, List, [], ◌∷◌, ◌++◌, map, take, length, length-append, Option, Some, slice_get, refl, sym, ◌∙◌, ap, subst, arith, true≢false}
use Rattle.std.specs.List.{AllByRecursion}
use Rattle.std.proofs.lemmas.List.{length-map}
use Rattle.chr_value.specs.Atoms.{Value, Atom}
use Rattle.chr_value.proofs.Chosen.{some_is}
use Rattle.chr_rule.specs.Rules.{Simpagation, rule_at}
use Rattle.chr_rule.specs.Scope.{IsRule}
use Rattle.chr_guard.specs.Values.{Valuation}
use Rattle.chr_guard.specs.Bindings.{bound_at, NoneUnder}
use Rattle.chr_guard.specs.Instances.{NoInstance}
use Rattle.chr_guard.specs.Matching.{IsAtHead, AreAtHeads, HeadsAre, IsFit}
use Rattle.chr_model.specs.Stores.{Store, atom_at, among, Distinct}
use Rattle.chr_plan.specs.Orders.{heads_of}
use Rattle.chr_plan.specs.Plans.{plan_at, ArePlans}
use Rattle.chr_plan.specs.declared.order.Step.{Step}
use Rattle.chr_store.specs.Labels.{LabelledStore, IsLabelled}
use Rattle.chr_search.specs.declared.judged.Verdict.{Verdict}
use Rattle.chr_search.specs.declared.judged.Verdict.TheVariants.{Misfit, Part}
use Rattle.chr_search.specs.Tree.{Grows}
use Rattle.chr_search.specs.Trials.{Join, StandsAt, Fit, MayFollow, Space, join_in, IsPlanned}
use Rattle.chr_search.specs.Partners.{IsReady}
use Rattle.chr_search.specs.Verdicts.{Placed, Trial, heads, labels, position, at_heads, IsPart, IsWhole, IsTrialOf}
use Rattle.chr_search.specs.Answers.{after_verdict}
use Rattle.chr_search.specs.Passing.{IsTrialIn, HasTrials, AreJudged, Passes}
use Rattle.chr_search.proofs.Plans.{heads_in}
use Rattle.chr_search.proofs.Partners.{fit_last, distinct_less}
use Rattle.chr_search.proofs.Judging.{few_heads, last_small}
use Rattle.chr_search.proofs.Making.{grows_count, grows_live, Parts, parts_as, formed}
use Rattle.chr_search.proofs.Wholes.{places, in_head_order, full_fit, no_instance}

-- the labels fit a plan where their atoms are at its heads
fit_heads : (j : Join) (v : Valuation) (steps : List Step) (ps : List Placed) → map (λ (p : Placed). p.head) ps ≡ take (length ps) (heads_in steps) → AllByRecursion (λ p. atom_at j.store p.label ≡ Some p.atom) ps → Fit j v steps (map (λ (p : Placed). p.label) ps) ↔ AreAtHeads j.rule (places ps) v
fit_heads j v steps [] hs live = (λ f. tt, λ a. tt)
fit_heads j v [] (p ∷ ps) hs live = absurd (cc)
fit_heads j v (s ∷ steps) (p ∷ ps) hs live =
    let head : p.head ≡ s.head = cc in
    let rest = fit_heads j v steps ps (cc) live.1 in (
      λ f. (
        let same : f.0.atom ≡ p.atom = some_is f.0.atom p.atom (sym f.0.live ∙ live.0) in
            subst (λ n. IsAtHead j.rule v (n, p.atom)) (sym head) (subst (λ a. IsAtHead j.rule v (s.head, a)) same f.0.fits),
        rest.0 f.1,
      ),
      λ a. (record { atom = p.atom; live = live.0; fits = subst (λ n. IsAtHead j.rule v (n, p.atom)) head a.0 }, rest.1 a.1),
    )

pub fits_at_heads : (j : Join) (ls : List ℕ) (t : Trial) → IsTrialIn j ls t → (v : Valuation) → Fit j v j.order ls ↔ AreAtHeads t.rule (at_heads t) v
fits_at_heads j ls t i v =
    let both = fit_heads j v j.order t.placed i.heads_are i.live in (
      λ f. subst (λ r. AreAtHeads r (at_heads t) v) (sym i.rule_is) (both.0 (subst (Fit j v j.order) (sym i.labels_are) f)),
      λ a. subst (Fit j v j.order) i.labels_are (both.1 (subst (λ r. AreAtHeads r (at_heads t) v) i.rule_is a)),
    )

-- the verdicts
no_fit : (j : Join) (ls : List ℕ) (t : Trial) → IsTrialIn j ls t → ((v : Valuation) → Fit j v j.order ls → ⊥) → (IsWhole t → ⊥) × (IsPart t → ⊥)
no_fit j ls t i n = (λ w. n w.valuation ((fits_at_heads j ls t i w.valuation).1 w.fits), λ p. n p.valuation ((fits_at_heads j ls t i p.valuation).1 p.fits))

fit_of_trial : (j : Join) (ls : List ℕ) (t : Trial) → IsTrialIn j ls t → (binding : List (Option (Value ℕ))) → IsFit j.rule (λ v. Fit j v j.order ls) binding → IsFit t.rule (AreAtHeads t.rule (at_heads t)) binding
fit_of_trial j ls t i binding b = record {
  places = b.places ∙ ap (λ (r : Simpagation ℕ). r.variables) (sym i.rule_is);
  exactly = λ v. (λ e. (fits_at_heads j ls t i v).0 ((b.exactly v).0 e), λ a. (b.exactly v).1 ((fits_at_heads j ls t i v).1 a));
}

pub count_of_trial : (j : Join) (ls : List ℕ) (t : Trial) → IsTrialIn j ls t → length t.placed ≡ length ls
count_of_trial j ls t i = sym (length-map t.placed (λ (p : Placed). p.label)) ∙ ap length i.labels_are

-- where no head is left, a binding of all heads
pub heads_fit : (j : Join) (ls : List ℕ) (t : Trial) → IsTrialIn j ls t → length t.placed ≡ length (heads_of t.rule) → (binding : List (Option (Value ℕ))) → IsFit j.rule (λ v. Fit j v j.order ls) binding → IsFit j.rule (HeadsAre j.rule (in_head_order t)) binding
heads_fit j ls t i full binding b =
    subst (λ r. IsFit r (HeadsAre r (in_head_order t)) binding) i.rule_is (full_fit t i.formed full binding (fit_of_trial j ls t i binding b))

pub misfit_here : (j : Join) (ls : List ℕ) (t : Trial) → IsTrialIn j ls t → length t.placed ≡ length (heads_of t.rule) → NoInstance j.rule (in_head_order t) → (IsWhole t → ⊥) × (IsPart t → ⊥)
misfit_here j ls t i full n = (
  no_instance t i.formed full (subst (λ r. NoInstance r (in_head_order t)) (sym i.rule_is) n),
  λ p. absurd (omega (arith, p.left)),
)

-- one label more
pub repeats : (j : Join) (ls : List ℕ) (l : ℕ) → among ls l ≡ true → AreJudged j (ls ++ l ∷ []) Misfit
repeats j ls l there t i =
    let n : Distinct (ls ++ l ∷ []) → ⊥ = λ d. true≢false (sym there ∙ distinct_less ls l d) in
    (λ w. n (subst Distinct i.labels_are w.distinct), λ p. n (subst Distinct i.labels_are p.distinct))

pub stands_nowhere : (j : Join) (ls : List ℕ) (binding : List (Option (Value ℕ))) (step : Step) (l : ℕ) → IsReady j ls binding → slice_get j.order (length ls) ≡ Some step → NoneUnder (λ v. StandsAt j v step l) binding → AreJudged j (ls ++ l ∷ []) Misfit
stands_nowhere j ls binding step l r at n t i = no_fit j (ls ++ l ∷ []) t i (λ v f. let m = (fit_last j v j.order ls step l at).0 f in n v ((r.fit.exactly v).1 m.0) m.1)

pub heads_of_trial : (j : Join) (ls : List ℕ) (t : Trial) → IsTrialIn j ls t → length (heads_of t.rule) ≡ length j.rule.kept + length j.rule.removed
heads_of_trial j ls t i = ap (λ r. length (heads_of r)) i.rule_is ∙ length-append j.rule.kept j.rule.removed

pub is_part : (j : Join) (ls : List ℕ) (binding : List (Option (Value ℕ))) → IsReady j ls binding → length ls < length j.rule.kept + length j.rule.removed → AreJudged j ls Part
is_part j ls binding r less t i = record {
  left = omega (arith, count_of_trial j ls t i, heads_of_trial j ls t i);
  distinct = subst Distinct (sym i.labels_are) r.distinct;
  valuation = bound_at binding;
  fits = ((fit_of_trial j ls t i binding r.fit).exactly (bound_at binding)).0 (λ x v e. e);
}

pub is_full : (j : Join) (ls : List ℕ) (t : Trial) → IsTrialIn j ls t → length j.rule.kept + length j.rule.removed ≤ length ls → length t.placed ≡ length (heads_of t.rule)
is_full j ls t i many = omega (arith, count_of_trial j ls t i, heads_of_trial j ls t i, i.formed.few)

pub room_below : (j : Join) (ls : List ℕ) (t : Trial) → IsTrialIn j ls t → IsPart t → length ls < 6
room_below j ls t i p = omega (arith, count_of_trial j ls t i, p.left, few_heads t.rule i.formed.scoped)

pub label_small : (j : Join) (ls : List ℕ) (l : ℕ) (t : Trial) → IsTrialIn j (ls ++ l ∷ []) t → l ≤ 4294967295
label_small j ls l t i = last_small t i.formed ls l (sym i.labels_are)

-- the trial of an admissible position
abbrev Lives : Store → List ℕ → Type 0
Lives store ls = (i x : ℕ) → slice_get ls i ≡ Some x → (a : Atom ℕ) × (atom_at store x ≡ Some a)

abbrev made : (store : Store) (ls : List ℕ) (order : List Step) → Lives store ls → List Placed
made store (l ∷ ls) (x ∷ order) live = record { head = x.head; label = l; atom = (live 0 l refl).0 } ∷ made store ls order (λ i y e. live (suc i) y e)
made store ls order live = []

made_labels : (store : Store) (ls : List ℕ) (order : List Step) (live : Lives store ls) → length ls ≤ length order → map (λ (p : Placed). p.label) (made store ls order live) ≡ ls
made_labels store [] order live h = refl
made_labels store (l ∷ ls) [] live h = absurd (omega arith)
made_labels store (l ∷ ls) (x ∷ order) live h = ap (λ zs. l ∷ zs) (made_labels store ls order (λ i y e. live (suc i) y e) (omega arith))

made_heads : (store : Store) (ls : List ℕ) (order : List Step) (live : Lives store ls) → map (λ (p : Placed). p.head) (made store ls order live) ≡ take (length (made store ls order live)) (heads_in order)
made_heads store (l ∷ ls) (x ∷ order) live = ap (λ zs. x.head ∷ zs) (made_heads store ls order (λ i y e. live (suc i) y e))
made_heads store ls order live = refl

made_live : (store : Store) (ls : List ℕ) (order : List Step) (live : Lives store ls) → AllByRecursion (λ p. atom_at store p.label ≡ Some p.atom) (made store ls order live)
made_live store (l ∷ ls) (x ∷ order) live = ((live 0 l refl).1, made_live store ls order (λ i y e. live (suc i) y e))
made_live store ls order live = tt

-- what makes trials of the labels of a rule's plan
pub record Makes (s : Space) (rule : Simpagation ℕ) (order : List Step) (r h : ℕ) : Type 0 where
  pub planned : IsPlanned s r h rule order
  pub plans : ArePlans s.rules s.plans
  pub store : LabelledStore
  pub entries : store.entries ≡ s.store
  pub labelled : IsLabelled store
  pub scoped : IsRule rule
  pub number : 1 ≤ r
  pub head : 1 ≤ h

-- a trial of the labels in a join, which is the trial of a position
pub record Made (s : Space) (rule : Simpagation ℕ) (order : List Step) (r h : ℕ) (ls : List ℕ) : Type 0 where
  pub trial : Trial
  pub number : trial.number ≡ r
  pub head : trial.head ≡ h
  pub is : IsTrialIn (join_in s rule order) ls trial

pub position_made : (s : Space) (rule : Simpagation ℕ) (order : List Step) (r h : ℕ) (ls : List ℕ) → (m : Made s rule order r h ls) → position m.trial ≡ r ∷ h ∷ ls
position_made s rule order r h ls m = ap (λ n. n ∷ m.trial.head ∷ labels m.trial) m.number ∙ ap (λ n. r ∷ n ∷ labels m.trial) m.head ∙ ap (λ (xs : List ℕ). r ∷ h ∷ xs) m.is.labels_are

pub trial_of_made : (s : Space) (rule : Simpagation ℕ) (order : List Step) (r h : ℕ) (ls : List ℕ) → (m : Made s rule order r h ls) → rule_at s.rules r ≡ Some rule → plan_at s.plans r h ≡ Some order → IsTrialOf s.rules s.plans s.store m.trial
trial_of_made s rule order r h ls m ri oi = record {
  rule_is = ap (rule_at s.rules) m.number ∙ ri ∙ ap (λ x. Some x) (sym m.is.rule_is);
  order = order;
  order_is = ap (λ n. plan_at s.plans n m.trial.head) m.number ∙ ap (plan_at s.plans r) m.head ∙ oi;
  heads_are = m.is.heads_are;
  live = m.is.live;
}

pub made_of : (s : Space) (rule : Simpagation ℕ) (order : List Step) (r h : ℕ) → Makes s rule order r h → (ls : List ℕ) → 1 ≤ length ls → Grows (MayFollow (join_in s rule order)) [] ls → Made s rule order r h ls
made_of s rule order r h m ls some g =
    let count = grows_count (join_in s rule order) [] ls g (omega arith) in
    let live = grows_live (join_in s rule order) [] ls g in
    let t : Trial = record { rule = rule; number = r; head = h; placed = made s.store ls order live } in
    let lbs : labels t ≡ ls = made_labels s.store ls order live count in
    let hs : heads t ≡ take (length t.placed) (heads_in order) = made_heads s.store ls order live in
    let there = made_live s.store ls order live in
    let p : Parts s r h ls rule order = record { planned = m.planned; some = some; count = count; live = live } in
    record {
      trial = t;
      number = refl;
      head = refl;
      is = record {
        rule_is = refl;
        labels_are = lbs;
        heads_are = hs;
        live = there;
        formed = formed s t order m.store m.plans m.entries m.labelled m.scoped m.number m.head (parts_as s r h ls (labels t) rule rule order p lbs refl) hs there;
      };
    }

pub has_trials : (s : Space) (rule : Simpagation ℕ) (order : List Step) (r h : ℕ) → Makes s rule order r h → HasTrials (join_in s rule order)
has_trials s rule order r h m ls some g = let t = made_of s rule order r h m ls some g in (t.trial, t.is)

pub after_labels : (verdict : Verdict) (r h : ℕ) (ls : List ℕ) → 1 ≤ length ls → after_verdict verdict (r ∷ h ∷ ls) ≡ r ∷ h ∷ after_verdict verdict ls
after_labels verdict r h [] some = absurd (omega arith)
after_labels Part r h (l ∷ ls) some = refl
after_labels verdict r h (l ∷ ls) some = refl

pub pass_more : (s : Space) (n more : ℕ) (place middle after : List ℕ) → Passes s n place middle → Passes s more middle after → Passes s (n + more) place after
pass_more s zero more place middle after p q = subst (λ k. Passes s k place after) (let e : more ≡ 0 + more = omega arith in e) (subst (λ z. Passes s more z after) p q)
pass_more s (suc n) more place middle after p q = subst (λ k. Passes s k place after) (let e : suc (n + more) ≡ suc n + more = omega arith in e) (p.0, p.1, pass_more s n more p.0 middle after p.2 q)
