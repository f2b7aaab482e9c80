-- How searches that pass over trials plan by plan end.
use Rattle.std.proofs.Common.{◌≡◌, ℕ, zero, suc, ◌+◌, ◌≤◌, List, [], ◌∷◌, length, Option, Some, None, refl, sym, ◌∙◌, ap, subst, arith}
use Rattle.std.proofs.lemmas.Bool.Decides.{nat_tests}
use Rattle.chr_value.specs.Atoms.{Value}
use Rattle.chr_value.proofs.Chosen.{some_is}
use Rattle.chr_search.specs.declared.passing.End.{End}
use Rattle.chr_search.specs.declared.passing.End.TheVariants as ends
use Rattle.chr_search.specs.declared.search.Instance.{Instance}
use Rattle.chr_search.specs.declared.search.Passed.{Passed}
use Rattle.chr_search.specs.declared.search.Then.{Then}
use Rattle.chr_search.specs.declared.search.Then.TheVariants as thens
use Rattle.chr_search.specs.Trials.{Join, Space}
use Rattle.chr_search.specs.Verdicts.{Trial}
use Rattle.chr_search.specs.Passing.{IsTrialIn, EndsIn, PassesIn, Passes, IsThen, left_at, PassesTo, PassesFrom}
use Rattle.chr_search.specs.PlanByPlan.{labels_in, IsThenAfter}
use Rattle.chr_search.proofs.Positions.{after_itself}
use Rattle.chr_search.proofs.Descents.{none_left}
use Rattle.chr_search.proofs.PassingOver.{pass_more}
use Rattle.chr_search.proofs.PlanByPlan.{AreAlike, HasJoin, HasReached, alike_next, alike_in, grown, trials_at, gone_at, gone_some, whole_at}
use Rattle.chr_search.proofs.AtHeads.{whole_count}

-- at a rule and a head a place stands nowhere
pub none_in : (x y r h : ℕ) → labels_in (x ∷ y ∷ []) r h ≡ []
none_in x y r h = grind (arith, nat_tests)

-- the labels of a trial that is whole are one for each head
pub whole_full : (s : Space) (place : List ℕ) (r h : ℕ) (j : Join) → HasJoin s place r h j → (labels : List ℕ) (end : End) (ls : List ℕ) (binding : List (Option (Value ℕ))) → EndsIn j labels end ls binding → end ≡ ends.Whole → (t : Trial) × IsTrialIn j ls t × (length ls ≡ length j.rule.kept + length j.rule.removed)
whole_full s place r h j k labels end ls binding e is =
    let e = subst (λ (x : End). EndsIn j labels x ls binding) is e in
    let g = grown j labels ls e.0 in
    let t = trials_at s r h j k.join k.makes ls g.0 g.1 in
    (t.0, t.1, whole_count _ _ t.0 t.1 _ e.1)

-- where a plan has no trial left, nothing comes
pub none_left_after : (j : Join) (r h : ℕ) (ls : List ℕ) (end : End) (found : Option Then) (i : Instance) (stood here : List ℕ) → IsThenAfter j r h ls end found i.whole stood here → found ≡ None → (end ≡ ends.NoneLeft) × (here ≡ stood)
none_left_after j r h ls ends.NoneLeft found i stood here a e = (refl, a.1)
none_left_after j r h ls ends.Enough found i stood here a e = let z : None ≡ Some thens.More = sym e ∙ a.0 in absurd (cc)
none_left_after j r h ls ends.Whole found i stood here a e = let z : None ≡ Some thens.Whole = sym e ∙ a.0 in absurd (cc)

-- what comes after a plan's trials, where that isn't nothing
after_plan : (s : Space) (place : List ℕ) (n r h : ℕ) (j : Join) (k : HasReached s place n r h) → HasJoin s k.at r h j → (more : ℕ) (labels : List ℕ) → PassesIn j more (labels_in k.at r h) labels → (end : End) → (end ≡ ends.Enough → 1 ≤ more) → (ls : List ℕ) (binding : List (Option (Value ℕ))) → EndsIn j labels end ls binding → (found : Option Then) (i : Instance) (stood here : List ℕ) → IsThenAfter j r h ls end found i.whole stood here → (next : Then) → found ≡ Some next → PassesFrom s place (record { count = n + more; then = next }) i binding stood here
after_plan s place n r h j k b more labels p ends.NoneLeft some ls binding e found i stood here a next is = let z : None ≡ Some next = sym a.0 ∙ is in absurd (cc)
after_plan s place n r h j k b more labels p ends.Enough some ls binding e found i stood here a next is =
    subst (λ (x : Then). PassesFrom s place (record { count = n + more; then = x }) i binding stood here) (some_is thens.More next (sym a.0 ∙ is)) (record {
      after = r ∷ h ∷ labels;
      passes = pass_more s n more place k.at _ k.passed (gone_some s r h j b.join b.makes k.at more labels b.come p (some refl));
      next = tt;
      stands = a.1 ∙ ap (λ (xs : List ℕ). r ∷ h ∷ xs) e;
    })
after_plan s place n r h j k b more labels p ends.Whole some ls binding e found i stood here a next is =
    let gone = gone_at s r h j b.join b.makes k.at more labels b.come p in
    subst (λ (x : Then). PassesFrom s place (record { count = n + more; then = x }) i binding stood here) (some_is thens.Whole next (sym a.0 ∙ is)) (record {
      after = gone.after;
      passes = pass_more s n more place k.at gone.after k.passed gone.passed;
      next = whole_at s r h j b.join b.makes k.at more labels ls binding gone e.0 e.1 i.whole a.2;
      stands = a.1;
    })

pub comes_after_plan : (s : Space) (place : List ℕ) (n r h : ℕ) (j : Join) (k : HasReached s place n r h) → HasJoin s k.at r h j → (more : ℕ) (labels : List ℕ) → PassesIn j more (labels_in k.at r h) labels → (end : End) → (end ≡ ends.Enough → 1 ≤ more) → (ls : List ℕ) (binding : List (Option (Value ℕ))) → EndsIn j labels end ls binding → (found : Option Then) (i : Instance) (stood here : List ℕ) → IsThenAfter j r h ls end found i.whole stood here → (next : Then) → found ≡ Some next → (count : ℕ) → count ≡ n + more → PassesFrom s place (record { count = count; then = next }) i binding stood here
comes_after_plan s place n r h j k b more labels p end some ls binding e found i stood here a next is count total =
    subst (λ (x : ℕ). PassesFrom s place (record { count = x; then = next }) i binding stood here) (sym total) (after_plan s place n r h j k b more labels p end some ls binding e found i stood here a next is)

-- trials that are passed over from a place that is alike, and what comes then
passes_alike : (s : Space) (p q : List ℕ) (n : ℕ) (after : List ℕ) → AreAlike s p q → Passes s (suc n) q after → Passes s (suc n) p after
passes_alike s p q n after a (middle, one, more) = (middle, record { judged = one.judged; next = alike_next s p q _ a one.next; is = one.is; formed = one.formed; right = one.right; other = one.other; on = one.on }, more)

then_alike : (s : Space) (p q : List ℕ) → AreAlike s p q → (next : Then) (i : Instance) (binding : List (Option (Value ℕ))) → IsThen s q next i binding → IsThen s p next i binding
then_alike s p q a thens.Whole i binding w = record { trial = w.trial; next = alike_next s p q _ a w.next; is = w.is; formed = w.formed; under = w.under; number_is = w.number_is; kept_are = w.kept_are; removed_are = w.removed_are; label_is = w.label_is; past_is = w.past_is }
then_alike s p q a thens.Done i binding n = (none_left s p).1 (λ t is e. (none_left s q).0 n t is ((a t is).0 e))
then_alike s p q a thens.More i binding u = tt

-- where none was passed over the search stands where it stood
stands_still : (next : Then) (stood here after at : List ℕ) → (next ≡ thens.More → ⊥) → here ≡ left_at next stood after → here ≡ left_at next stood at
stands_still thens.Whole stood here after at other e = e
stands_still thens.Done stood here after at other e = e
stands_still thens.More stood here after at other e = absurd (other refl)

on_from : (s : Space) (place : List ℕ) (n r h : ℕ) (k : HasReached s place n r h) → AreAlike s k.at (r ∷ h ∷ []) → (m : ℕ) (next : Then) → (next ≡ thens.More → 1 ≤ m) → (i : Instance) (binding : List (Option (Value ℕ))) (stood here after : List ℕ) → Passes s m (r ∷ h ∷ []) after → IsThen s after next i binding → here ≡ left_at next stood after → PassesFrom s place (record { count = n + m; then = next }) i binding stood here
on_from s place n r h k a zero next some i binding stood here after p t e = record {
  after = k.at;
  passes = pass_more s n zero place k.at k.at k.passed refl;
  next = then_alike s k.at (r ∷ h ∷ []) a next i binding (subst (λ (x : List ℕ). IsThen s x next i binding) p t);
  stands = stands_still next stood here after k.at (λ is. absurd (omega (arith, some is))) e;
}
on_from s place n r h k a (suc m) next some i binding stood here after p t e = record {
  after = after;
  passes = pass_more s n (suc m) place k.at after k.passed (passes_alike s k.at (r ∷ h ∷ []) m after a p);
  next = t;
  stands = e;
}

-- what comes after a search has gone on to a rule and a head, where its place stands nowhere
pub passes_on : (s : Space) (place : List ℕ) (n r h : ℕ) (k : HasReached s place n r h) → labels_in place r h ≡ [] → (rest : Passed) (i : Instance) (binding : List (Option (Value ℕ))) (stood here : List ℕ) → (rest.then ≡ thens.More → 1 ≤ rest.count) → PassesFrom s (r ∷ h ∷ []) rest i binding stood here → (count : ℕ) → count ≡ n + rest.count → PassesFrom s place (record { count = count; then = rest.then }) i binding stood here
passes_on s place n r h k free rest i binding stood here some f count total =
    let alike = subst (λ (ls : List ℕ). AreAlike s k.at (r ∷ h ∷ ls)) (sym (k.same r h (after_itself (r ∷ h ∷ []))) ∙ free) (alike_in s k.at r h k.come) in
    subst (λ (x : ℕ). PassesFrom s place (record { count = x; then = rest.then }) i binding stood here) (sym total) (on_from s place n r h k alike rest.count rest.then some i binding stood here f.after f.passes f.next f.stands)

-- a search that stood where it begins
pub passes_to : (s : Space) (passed : Passed) (i : Instance) (binding : List (Option (Value ℕ))) (place here : List ℕ) → PassesFrom s place passed i binding place here → PassesTo s passed i binding place here
passes_to s passed i binding place here f = record { after = f.after; passes = f.passes; next = f.next; stands = f.stands }
