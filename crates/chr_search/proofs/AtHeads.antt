-- Labels put at the heads of a plan one by one.
use Rattle.std.proofs.Common.{◌≡◌, ◌≢◌, ℕ, zero, suc, ◌+◌, ◌-◌, ◌<◌, ◌≤◌, Bool, true, false, ◌||◌, ◌==◌, List, [], ◌∷◌, map, take, length, get_or, Option, Some, slice_get, refl, sym, ◌∙◌, ap, ap₂, subst, arith}
use Rattle.std.proofs.Math.ListN.{set}
use Rattle.std.specs.List.{AllByRecursion}
use Rattle.std.specs.Option.{option_map}
use Rattle.std.proofs.lemmas.Bool.Decides.{nat_tests}
use Rattle.std.proofs.lemmas.List.{length-map, length-take, get_or-set_same, get_or-set_other}
use Rattle.std.proofs.lemmas.List.Elements.{All-from_recursion}
use Rattle.std.proofs.lemmas.Option.{slice_get_within, slice_get-map, get_or_from_slice_get}
use Rattle.chr_value.specs.Atoms.{Value}
use Rattle.chr_value.proofs.Chosen.{some_is}
use Rattle.chr_model.specs.Stores.{among}
use Rattle.chr_plan.specs.Orders.{heads_of}
use Rattle.chr_plan.specs.declared.order.Step.{Step}
use Rattle.chr_search.specs.Trials.{Join}
use Rattle.chr_search.specs.Verdicts.{Placed, Trial, labels, label_at}
use Rattle.chr_search.specs.Passing.{IsTrialIn, AreWhole}
use Rattle.chr_search.specs.PlanByPlan.{label_at_head, labels_at_heads}
use Rattle.chr_search.proofs.Plans.{heads_in}
use Rattle.chr_search.proofs.Wholes.{own}
use Rattle.chr_search.proofs.PassingOver.{count_of_trial, heads_of_trial}
use Rattle.chr_search.proofs.PlanByPlan.{placed_label}

-- what is placed at a step's head
placed_at : (order : List Step) (ps : List Placed) (i : ℕ) (step : Step) → map (λ (p : Placed). p.head) ps ≡ take (length ps) (heads_in order) → i < length ps → slice_get order i ≡ Some step → (p : Placed) × (slice_get ps i ≡ Some p) × (p.head ≡ step.head)
placed_at (s ∷ order) (p ∷ ps) zero step e less at = let same : s ≡ step = some_is s step at in (p, refl, cc)
placed_at (s ∷ order) (p ∷ ps) (suc i) step e less at = placed_at order ps i step (cc) (omega arith) at
placed_at [] ps i step e less at = absurd (omega (arith, slice_get_within [] i step at))
placed_at order [] i step e less at = absurd (omega arith)

all_at : (P : Placed → Type 0) (ps : List Placed) (i : ℕ) (p : Placed) → AllByRecursion P ps → slice_get ps i ≡ Some p → P p
all_at P ps i p all at = subst P (get_or_from_slice_get ps i p p at) (All-from_recursion P ps all i p (slice_get_within ps i p at))

-- a step of a trial: its head is one of the rule's, and its label is the one there
pub record IsAtStep (j : Join) (ls : List ℕ) (i : ℕ) (step : Step) : Type 0 where
  pub from : 1 ≤ step.head
  pub to : step.head ≤ length j.rule.kept + length j.rule.removed
  pub own : label_at_head j.order ls step.head ≡ get_or ls i 0

pub at_step : (j : Join) (ls : List ℕ) (t : Trial) → IsTrialIn j ls t → (i : ℕ) (step : Step) → i < length ls → slice_get j.order i ≡ Some step → IsAtStep j ls i step
at_step j ls t is i step less at =
    let count = count_of_trial j ls t is in
    let there = placed_at j.order t.placed i step is.heads_are (omega arith) at in
    let p = there.0 in
    let within = all_at (λ (q : Placed). (1 ≤ q.head) × (q.head ≤ length (heads_of t.rule)) × (q.label ≤ 4294967295)) t.placed i p is.formed.within there.1 in
    let mine = all_at (λ (q : Placed). label_at t.placed q.head ≡ q.label) t.placed i p (own (λ q. q.label) label_at (λ q qs h. refl) t.placed is.formed.distinct) there.1 in
    let read : get_or (labels t) i 0 ≡ p.label = get_or_from_slice_get (labels t) i p.label 0 (slice_get-map (λ (q : Placed). q.label) t.placed i ∙ ap (option_map (λ (q : Placed). q.label)) there.1) in
    let own : label_at_head j.order (labels t) step.head ≡ get_or (labels t) i 0 = placed_label j.order t.placed step.head is.heads_are ∙ ap (label_at t.placed) (sym there.2) ∙ mine ∙ sym read in
    record {
      from = subst (λ n. 1 ≤ n) there.2 within.0;
      to = omega (arith, subst (λ n. n ≤ length (heads_of t.rule)) there.2 within.1, heads_of_trial j ls t is);
      own = subst (λ zs. label_at_head j.order zs step.head ≡ get_or zs i 0) is.labels_are own;
    }

pub steps_enough : (j : Join) (ls : List ℕ) (t : Trial) → IsTrialIn j ls t → length ls ≤ length j.order
steps_enough j ls t is =
    omega (arith, count_of_trial j ls t is, length-map t.placed (λ (p : Placed). p.head), ap length is.heads_are, length-take (length t.placed) (heads_in j.order), length-map j.order (λ (s : Step). s.head))

-- as far as labels are put: each step's head has its own
abbrev pub ArePut : Join → List ℕ → ℕ → List ℕ → Type 0
ArePut j ls n all = (i : ℕ) (step : Step) → i < n → slice_get j.order i ≡ Some step → get_or all (step.head - 1) 0 ≡ label_at_head j.order ls step.head

put_one : (f : ℕ → ℕ) (all new : List ℕ) (h l k : ℕ) → new ≡ set all (h - 1) l → 1 ≤ h → h ≤ length all → 1 ≤ k → l ≡ f h → (k ≢ h → get_or all (k - 1) 0 ≡ f k) → get_or new (k - 1) 0 ≡ f k
put_one f all new h l k e low high from is other = by_test (k == h) refl
  where
    by_test : (same : Bool) → (k == h) ≡ same → get_or new (k - 1) 0 ≡ f k
    by_test true t =
        let q : k ≡ h = grind (arith, nat_tests) in
        ap₂ (λ xs n. get_or xs (n - 1) 0) e q ∙ get_or-set_same all (h - 1) l 0 (omega arith) ∙ is ∙ ap f (sym q)
    by_test false t =
        let q : k ≢ h = grind (arith, nat_tests) in
        let apart : k - 1 ≢ h - 1 = omega arith in
        ap (λ xs. get_or xs (k - 1) 0) e ∙ get_or-set_other all (h - 1) (k - 1) l 0 apart ∙ other q

pub put_next : (j : Join) (ls : List ℕ) (t : Trial) → IsTrialIn j ls t → (all new : List ℕ) (i : ℕ) (here : Step) → i < length ls → slice_get j.order i ≡ Some here → length all ≡ length j.rule.kept + length j.rule.removed → new ≡ set all (here.head - 1) (get_or ls i 0) → ArePut j ls i all → ArePut j ls (i + 1) new
put_next j ls t is all new i here less at count e put = λ k step before there.
    let mine = at_step j ls t is i here less at in
    let its = at_step j ls t is k step (omega arith) there in
    put_one (label_at_head j.order ls) all new here.head (get_or ls i 0) step.head e mine.from (omega (arith, mine.to)) its.from (sym mine.own) (λ ne.
    let away : k ≢ i = λ q. ne (ap (λ (s : Step). s.head) (some_is step here (sym there ∙ ap (slice_get j.order) q ∙ at))) in
    put k step (omega arith) there)

-- and once all of them are
step_named : (order : List Step) (ps : List Placed) (h : ℕ) → map (λ (p : Placed). p.head) ps ≡ take (length ps) (heads_in order) → among (map (λ (p : Placed). p.head) ps) h ≡ true → (i : ℕ) × (step : Step) × (i < length ps) × (slice_get order i ≡ Some step) × (step.head ≡ h)
step_named order [] h e a = absurd (cc)
step_named [] (p ∷ ps) h e a = absurd (cc)
step_named (s ∷ order) (p ∷ ps) h e a = by_test (p.head == h) refl (λ b. step_named order ps h (cc) b) a
  where
    by_test : (same : Bool) → (p.head == h) ≡ same → (among (map (λ (q : Placed). q.head) ps) h ≡ true → (i : ℕ) × (step : Step) × (i < length ps) × (slice_get order i ≡ Some step) × (step.head ≡ h)) → (same || among (map (λ (q : Placed). q.head) ps) h) ≡ true
        → (i : ℕ) × (step : Step) × (i < length (p ∷ ps)) × (slice_get (s ∷ order) i ≡ Some step) × (step.head ≡ h)
    by_test true t later b = let q : p.head ≡ h = grind (arith, nat_tests) in let head : p.head ≡ s.head = cc in (0, s, omega arith, refl, sym head ∙ q)
    by_test false t later b = let rest = later b in (suc rest.0, rest.1, omega (arith, rest.2), rest.3, rest.4)

each_same : (order : List Step) (ls all : List ℕ) (h n : ℕ) → length all ≡ n → ((k : ℕ) → k < n → get_or all k 0 ≡ label_at_head order ls (h + k)) → all ≡ labels_at_heads order ls h n
each_same order ls [] h zero e f = refl
each_same order ls (x ∷ all) h (suc n) e f =
    ap₂ (λ y ys. y ∷ ys) (f 0 (omega arith) ∙ ap (label_at_head order ls) (let q : h + 0 ≡ h = omega arith in q))
    (each_same order ls all (suc h) n (omega arith) (λ k less. f (suc k) (omega arith) ∙ ap (label_at_head order ls) (let q : h + suc k ≡ suc h + k = omega arith in q)))
each_same order ls [] h (suc n) e f = absurd (omega arith)
each_same order ls (x ∷ all) h zero e f = absurd (omega arith)

pub all_put : (j : Join) (ls : List ℕ) (t : Trial) → IsTrialIn j ls t → (all : List ℕ) (n : ℕ) → length ls ≡ length j.rule.kept + length j.rule.removed → length all ≡ length ls → length ls ≤ n → ArePut j ls n all → all ≡ labels_at_heads j.order ls 1 (length j.rule.kept + length j.rule.removed)
all_put j ls t is all n full room past put =
    let count = count_of_trial j ls t is in
    let heads = heads_of_trial j ls t is in
    let every : length t.placed ≡ length (heads_of t.rule) = omega arith in
    let at : (h : ℕ) → 1 ≤ h → h ≤ length ls → get_or all (h - 1) 0 ≡ label_at_head j.order ls h = λ h low high.
    let there = step_named j.order t.placed h is.heads_are (is.formed.full every h low (omega arith)) in
    subst (λ x. get_or all (x - 1) 0 ≡ label_at_head j.order ls x) there.4 (put there.0 there.1 (omega (arith, there.2)) there.3) in
    each_same j.order ls all 1 (length j.rule.kept + length j.rule.removed) (room ∙ full) (λ k less. ap (λ x. get_or all x 0) (let q : k ≡ (1 + k) - 1 = omega arith in q) ∙ at (1 + k) (omega arith) (omega arith))

-- a trial that is whole has a label for each head
pub whole_count : (j : Join) (ls : List ℕ) (t : Trial) → IsTrialIn j ls t → (binding : List (Option (Value ℕ))) → AreWhole j ls binding → length ls ≡ length j.rule.kept + length j.rule.removed
whole_count j ls t is binding whole = omega (arith, count_of_trial j ls t is, heads_of_trial j ls t is, (whole t is).whole.full)
