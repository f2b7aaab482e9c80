-- What a search keeps between its steps.
use Rattle.chr_value.proofs.Chosen.{some_is}
use Rattle.std.proofs.Common.{◌≡◌, ◌≢◌, ℕ, ◌≤◌, true, false, List, [], ◌∷◌, ◌++◌, length, Option, Some, None, refl, sym, ◌∙◌, ap, ap₂, subst, arith, suc}
use Rattle.std.proofs.lemmas.Bool.Decides.{nat_tests}
use Rattle.chr_value.specs.Atoms.{Atom}
use Rattle.chr_rule.specs.Rules.{Simpagation}
use Rattle.chr_model.specs.Stores.{Store, Labelled}
use Rattle.chr_model.specs.Searches.{IsYoungest, NoneYoungest}
use Rattle.chr_model.specs.Programs.{Instances}
use Rattle.chr_plan.specs.Orders.{heads_of}
use Rattle.chr_plan.specs.Plans.{PlanList, plan_at, ArePlans}
use Rattle.chr_plan.specs.declared.order.Step.{Step}
use Rattle.chr_search.specs.Positions.{at_or_after, begins, beginning, just_after, past}
use Rattle.chr_search.specs.Tree.{Grows}
use Rattle.chr_search.specs.Trials.{MayFollow, Space, older, join_in, IsTrial, IsNext, NoneLeft}
use Rattle.chr_search.specs.Reach.{label_of, labels_in, Reach, HasNoMore, over, Searching}
use Rattle.chr_search.proofs.Positions.{after, passed}
use Rattle.chr_search.proofs.Plans.{has_plan, planned}
use Rattle.chr_search.proofs.Descents.{head_low, rule_low, is_first, none_left}
use Rattle.chr_search.proofs.Reaches.{IsReached, in_reach, head_of, head_fixed}
use Rattle.chr_search.proofs.Shrinking.{branch, reached, reach_shrunk, trial_shrunk}

-- where a search begins
pub begun : (s : Space) → Searching s beginning None
begun s = record { kept = λ t r. first t r.trial; least = λ c t e. absurd (let z : Some c ≡ None = sym e in cc) }
  where
    first : (t : List ℕ) → IsTrial s t → at_or_after beginning t ≡ true
    first t i =
        let b = branch s t i in
        let rule = rule_low s.rules b.r b.rule b.planned.rule_is in
        let head = head_low s.plans b.r b.h b.order b.planned.order_is in
        subst (λ z. at_or_after beginning z ≡ true) (sym b.is) (grind (arith, nat_tests))

-- a trial is answered
pub asked : (s : Space) (place : List ℕ) (candidate : Option (List ℕ)) (found : List ℕ) → Searching s place candidate → IsNext s place found → Searching s place (Some found)
asked s place candidate found k l = record {
  kept = k.kept;
  least = λ c t e i h. subst (λ z. at_or_after z t ≡ true) (some_is found c e) (((is_first s place found).0 l).first t i h);
}

pub forgotten : (s : Space) (place : List ℕ) (candidate : Option (List ℕ)) → Searching s place candidate → Searching s place None
forgotten s place candidate k = record { kept = k.kept; least = λ c t e. absurd (let z : Some c ≡ None = sym e in cc) }

-- a store that has no more
pub shrunk : (s : Space) → ArePlans s.rules s.plans → (new : Store) → HasNoMore s new → (place : List ℕ) (candidate : Option (List ℕ)) → Searching s place candidate → Searching (over s new) place candidate
shrunk s ps new f place candidate k = record {
  kept = λ t r. k.kept t (reach_shrunk s ps new f t r);
  least = λ c t e i h. k.least c t e (trial_shrunk s new f t i) h;
}

-- just after a candidate that isn't in the reach, and past one that begins nothing of it
pub moved_after : (s : Space) (place c : List ℕ) → Searching s place (Some c) → (Reach s c → ⊥) → Searching s (just_after c) None
moved_after s place c k isnt = record {
  kept = λ t r. after c t (k.least c t refl r.trial (k.kept t r)) (λ e. isnt (subst (Reach s) (sym e) r));
  least = λ d t e. absurd (let z : Some d ≡ None = sym e in cc);
}

pub moved_past : (s : Space) (place c : List ℕ) → Searching s place (Some c) → ((t : List ℕ) → Reach s t → begins c t ≡ true → ⊥) → Searching s (past c) None
moved_past s place c k isnt = record {
  kept = λ t r. passed c t (k.least c t refl r.trial (k.kept t r)) (let no = isnt t r in grind arith);
  least = λ d t e. absurd (let z : Some d ≡ None = sym e in cc);
}

-- where no trial is left
pub nothing_left : (s : Space) (place : List ℕ) (candidate : Option (List ℕ)) → Searching s place candidate → NoneLeft s place → (t : List ℕ) → Reach s t → ⊥
nothing_left s place candidate k none t r = (none_left s place).0 none t r.trial (k.kept t r)

-- an instance with the active label as its youngest
pub youngest_reached : (rules : List (Simpagation ℕ)) (plans : PlanList) → ArePlans rules plans → (store : Store) (label r h : ℕ) (kept removed : List ℕ) (body : List (Atom ℕ)) → Labelled (Instances rules) store r kept removed body → IsYoungest (kept ++ removed) label
    → 1 ≤ h → h ≤ length (kept ++ removed) → label_of (kept ++ removed) h ≡ label → (order : List Step) → plan_at plans r h ≡ Some order → Reach (older rules plans store label) (r ∷ h ∷ labels_in (kept ++ removed) order)
youngest_reached rules plans ps store label r h kept removed body i y low high at order oi =
    in_reach (older rules plans store label) ps r h kept removed body i
    (record { low = low; high = high; active = at; others = λ l there ne. (let le : l ≤ label = y.greatest l there in omega arith) }) order oi

pub none_youngest : (rules : List (Simpagation ℕ)) (plans : PlanList) → ArePlans rules plans → (store : Store) (label : ℕ) (place : List ℕ) (candidate : Option (List ℕ)) → Searching (older rules plans store label) place candidate → NoneLeft (older rules plans store label) place → NoneYoungest (Instances rules) store label
none_youngest rules plans ps store label place candidate k none r kept removed body y i =
    let h = head_of (kept ++ removed) label y.there in
    let rule = i.instance.0 in
    let st = Rattle.chr_search.proofs.Reaches.stands rule store kept removed i.kept_atoms i.removed_atoms body i.instance.2 i.distinct i.kept_there i.removed_there in
    let p = has_plan rules plans ps r (suc h.0) rule i.instance.1 (omega arith) (omega (arith, h.1, st.count)) in
    nothing_left (older rules plans store label) place candidate k none _ (youngest_reached rules plans ps store label r (suc h.0) kept removed body i y (omega arith) (omega (arith, h.1)) h.2 p.0 p.1)

-- The first label of a trial of the reach is the active one, and stands at the trial's head.
first_is : (s : Space) → ArePlans s.rules s.plans → (t : List ℕ) (k : Reach s t) → (1 ≤ k.head) × (k.head ≤ length (k.kept ++ k.removed)) × (label_of (k.kept ++ k.removed) k.head ≡ s.active)
first_is s ps t k =
    let r = reached s ps t k in
    let p = planned s.rules s.plans ps k.rule k.head r.rule k.order r.planned.rule_is r.planned.order_is in
    let count : length (k.kept ++ k.removed) ≡ length (heads_of r.rule) = r.stands.count in
    let to : k.head ≤ length (heads_of r.rule) = p.to in
    let g = subst (λ z. Grows (MayFollow (join_in s r.rule k.order)) [] (labels_in (k.kept ++ k.removed) z)) r.order.first r.grows in
    (p.from, (omega arith), g.0.turn)

pub once : (s : Space) → ArePlans s.rules s.plans → (t u : List ℕ) → (x : Reach s t) → (y : Reach s u) → x.rule ≡ y.rule → x.kept ++ x.removed ≡ y.kept ++ y.removed → t ≡ u
once s ps t u x y er el =
    let fx = first_is s ps t x in
    let fy = first_is s ps u y in
    let hy : y.head ≤ length (x.kept ++ x.removed) = subst (λ (z : List ℕ). y.head ≤ length z) (sym el) fy.1 in
    let he : x.head ≡ y.head = head_fixed (x.kept ++ x.removed) x.instance.distinct x.head y.head fx.0 fx.1 fy.0 hy (fx.2 ∙ sym fy.2 ∙ ap (λ z. label_of z y.head) (sym el)) in
    let o : Some x.order ≡ Some y.order = sym x.order_is ∙ ap₂ (plan_at s.plans) er he ∙ y.order_is in
    let same : x.order ≡ y.order = cc in
    x.is ∙ ap₂ (λ r h. r ∷ h ∷ labels_in (x.kept ++ x.removed) x.order) er he ∙ ap₂ (λ ls z. y.rule ∷ y.head ∷ labels_in ls z) el same ∙ sym y.is

-- positions move on
pub moves_after : (place t : List ℕ) → at_or_after place t ≡ true → (at_or_after place (just_after t) ≡ true) × (at_or_after (just_after t) place ≡ false)
moves_after (x ∷ p) (y ∷ q) k = let r = moves_after p q in (grind (arith, nat_tests), grind (arith, nat_tests))
moves_after [] t k = (refl, no_less t)
  where
    no_less : (q : List ℕ) → at_or_after (just_after q) [] ≡ false
    no_less [] = refl
    no_less (y ∷ q) = refl
moves_after (x ∷ p) [] k = absurd (cc)

pub moves_past : (place t : List ℕ) → t ≢ [] → at_or_after place t ≡ true → (at_or_after place (past t) ≡ true) × (at_or_after (past t) place ≡ false)
moves_past (x ∷ p) (y ∷ z ∷ q) ne k = let r = moves_past p (z ∷ q) (λ e. (cc)) in (grind (arith, nat_tests), grind (arith, nat_tests))
moves_past [] (y ∷ []) ne k = (refl, refl)
moves_past [] (y ∷ z ∷ q) ne k = (refl, refl)
moves_past (x ∷ p) (y ∷ []) ne k = (grind (arith, nat_tests), grind (arith, nat_tests))
moves_past p [] ne k = absurd (ne refl)
