-- Each labelled instance whose labels are the active one and others below the bound is in the reach, once.
use Rattle.std.proofs.Common.{◌≡◌, ◌≢◌, ℕ, zero, suc, ◌<◌, ◌≤◌, true, false, ◌==◌, List, [], ◌∷◌, ◌++◌, map, length, append_assoc, Some, slice_get, slice_index_or, refl, sym, ◌∙◌, ap, subst, arith, true-eqb, true≢false}
use Rattle.std.specs.List.{AllByRecursion}
use Rattle.std.specs.Option.{option_map}
use Rattle.std.proofs.lemmas.Bool.Decides.{nat_tests}
use Rattle.std.proofs.lemmas.List.{length-map, map-append}
use Rattle.chr_value.specs.Atoms.{Atom}
use Rattle.chr_rule.specs.Rules.{RuleAtom, Simpagation, rule_at}
use Rattle.chr_rule.specs.Rules as rules
use Rattle.chr_guard.specs.Values.{Valuation}
use Rattle.chr_guard.specs.Instances.{atom_under, Instance}
use Rattle.chr_guard.proofs.Under.{under_append}
use Rattle.chr_model.specs.Stores.{Store, atom_at, among, Distinct, Carry, Labelled}
use Rattle.chr_model.specs.Programs.{Instances}
use Rattle.chr_model.proofs.Stores.{among-append, among-itself, among-more, Distinct-left}
use Rattle.chr_plan.specs.Orders.{heads_of, first_step}
use Rattle.chr_plan.specs.Plans.{plan_at, ArePlans}
use Rattle.chr_plan.specs.declared.order.Step.{Step}
use Rattle.chr_search.specs.Tree.{Grows}
use Rattle.chr_search.specs.Trials.{Join, StandsAt, Fit, IsInTurn, MayFollow, Space, join_in, IsPlanned, IsTrial}
use Rattle.chr_search.specs.Reach.{label_of, labels_in, Reach}
use Rattle.chr_search.proofs.Plans.{heads_in, IsWithin, IsOrder, IsPlanOf, planned, planned_order}
use Rattle.chr_search.proofs.Descents.{trial_of}
use Rattle.chr_search.proofs.Partners.{distinct_less}
use Rattle.chr_search.proofs.Following.{follows_at}

pub get_after : {A : Type 0} (xs : List A) (x : A) (ys : List A) → slice_get (xs ++ x ∷ ys) (length xs) ≡ Some x
get_after [] x ys = refl
get_after (z ∷ xs) x ys = get_after xs x ys

-- labels by their heads
pub among_index : (ls : List ℕ) (i : ℕ) → i < length ls → among ls (slice_index_or ls i 0) ≡ true
among_index [] i h = absurd (omega arith)
among_index (l ∷ ls) zero h = among-itself l ls
among_index (l ∷ ls) (suc i) h = among-more l ls (slice_index_or ls i 0) (among_index ls i (omega arith))

pub among_label : (ls : List ℕ) (h : ℕ) → 1 ≤ h → h ≤ length ls → among ls (label_of ls h) ≡ true
among_label ls zero low high = absurd (omega arith)
among_label ls (suc i) low high = among_index ls i (omega arith)

place_fixed : (ls : List ℕ) → Distinct ls → (i j : ℕ) → i < length ls → j < length ls → slice_index_or ls i 0 ≡ slice_index_or ls j 0 → i ≡ j
place_fixed [] d i j hi hj e = absurd (omega arith)
place_fixed (l ∷ ls) d zero zero hi hj e = refl
place_fixed (l ∷ ls) d zero (suc j) hi hj e = absurd (true≢false (sym (among_index ls j (omega arith)) ∙ ap (among ls) (sym e) ∙ d.0))
place_fixed (l ∷ ls) d (suc i) zero hi hj e = absurd (true≢false (sym (among_index ls i (omega arith)) ∙ ap (among ls) e ∙ d.0))
place_fixed (l ∷ ls) d (suc i) (suc j) hi hj e = ap suc (place_fixed ls d.1 i j (omega arith) (omega arith) e)

pub head_fixed : (ls : List ℕ) → Distinct ls → (j k : ℕ) → 1 ≤ j → j ≤ length ls → 1 ≤ k → k ≤ length ls → label_of ls j ≡ label_of ls k → j ≡ k
head_fixed ls d zero k a b p q e = absurd (omega arith)
head_fixed ls d (suc j) zero a b p q e = absurd (omega arith)
head_fixed ls d (suc j) (suc k) a b p q e = ap suc (place_fixed ls d j k (omega arith) (omega arith) e)

-- a label among these is that of a head
pub head_of : (ls : List ℕ) (l : ℕ) → among ls l ≡ true → (i : ℕ) × (i < length ls) × (label_of ls (suc i) ≡ l)
head_of [] l h = absurd (cc)
head_of (x ∷ xs) l h =
    elim (x == l) as (λ b. (x == l ≡ b) → (i : ℕ) × (i < length (x ∷ xs)) × (label_of (x ∷ xs) (suc i) ≡ l)) [
      | true ↦ λ e. (0, omega arith, true-eqb x l (sym e))
      | false ↦ λ e. let r = head_of xs l (grind (arith, nat_tests)) in (suc r.0, omega (arith, r.1), r.2)
    ] refl

-- atoms that labels carry
Carry_append : (store : Store) (ks : List ℕ) (as' : List (Atom ℕ)) (ls : List ℕ) (bs : List (Atom ℕ)) → Carry store ks as' → Carry store ls bs → Carry store (ks ++ ls) (as' ++ bs)
Carry_append store [] [] ls bs h k = k
Carry_append store (l ∷ ks) (a ∷ as') ls bs h k = (h.0, Carry_append store ks as' ls bs h.1 k)
Carry_append store ks as' ls bs h k = absurd h

pub record HeadStands (store : Store) (v : Valuation) (head : RuleAtom ℕ) (l : ℕ) : Type 0 where
  pub atom : Atom ℕ
  pub live : atom_at store l ≡ Some atom
  pub under : atom_under v head ≡ Some atom

heads_carry : (store : Store) (v : Valuation) (hs : List (RuleAtom ℕ)) (as' : List (Atom ℕ)) (ls : List ℕ) → map (atom_under v) hs ≡ map (λ a. Some a) as' → Carry store ls as' → (i : ℕ) → i < length hs → (head : RuleAtom ℕ) × (slice_get hs i ≡ Some head) × HeadStands store v head (slice_index_or ls i 0)
heads_carry store v (x ∷ hs) (a ∷ as') (l ∷ ls) e c zero h = (x, refl, record { atom = a; live = c.0; under = cc })
heads_carry store v (x ∷ hs) (a ∷ as') (l ∷ ls) e c (suc i) h = heads_carry store v hs as' ls (cc) c.1 i (omega arith)
heads_carry store v hs as' ls e c i h = absurd (grind arith)

carry_length : (store : Store) (v : Valuation) (hs : List (RuleAtom ℕ)) (as' : List (Atom ℕ)) (ls : List ℕ) → map (atom_under v) hs ≡ map (λ a. Some a) as' → Carry store ls as' → length ls ≡ length hs
carry_length store v [] [] [] e c = refl
carry_length store v (x ∷ hs) (a ∷ as') (l ∷ ls) e c = let r = carry_length store v hs as' ls (cc) c.1 in omega arith
carry_length store v hs as' ls e c = absurd (grind arith)

-- distinct labels, one for each head, carry the heads' atoms
pub record Stands (rule : Simpagation ℕ) (store : Store) (v : Valuation) (ls : List ℕ) : Type 0 where
  pub count : length ls ≡ length (heads_of rule)
  pub distinct : Distinct ls
  pub at : (i : ℕ) → 1 ≤ i → i ≤ length (heads_of rule) → (head : RuleAtom ℕ) × (rules.head_at rule i ≡ Some head) × HeadStands store v head (label_of ls i)

pub stands : (rule : Simpagation ℕ) (store : Store) (kept removed : List ℕ) (ka ra body : List (Atom ℕ)) → (i : Instance rule ka ra body) → Distinct (kept ++ removed) → Carry store kept ka → Carry store removed ra → Stands rule store i.valuation (kept ++ removed)
stands rule store kept removed ka ra body i d ck cr =
    let under : map (atom_under i.valuation) (heads_of rule) ≡ map (λ a. Some a) (ka ++ ra) = under_append i.valuation rule.kept rule.removed ka ra i.kept_are i.removed_are in
    let carry : Carry store (kept ++ removed) (ka ++ ra) = Carry_append store kept ka removed ra ck cr in
    record { count = carry_length store i.valuation (heads_of rule) (ka ++ ra) (kept ++ removed) under carry; distinct = d; at = by_number under carry }
  where
    by_number : map (atom_under i.valuation) (heads_of rule) ≡ map (λ a. Some a) (ka ++ ra) → Carry store (kept ++ removed) (ka ++ ra) → (k : ℕ) → 1 ≤ k → k ≤ length (heads_of rule) → (head : RuleAtom ℕ) × (rules.head_at rule k ≡ Some head) × HeadStands store i.valuation head (label_of (kept ++ removed) k)
    by_number u c zero low high = absurd (omega arith)
    by_number u c (suc k) low high = heads_carry store i.valuation (heads_of rule) (ka ++ ra) (kept ++ removed) u c k (omega arith)

-- the labels of an instance at the steps of an order
stand_at : (j : Join) (v : Valuation) (ls : List ℕ) → Stands j.rule j.store v ls → (step : Step) → IsWithin (length (heads_of j.rule)) step → StandsAt j v step (label_of ls step.head)
stand_at j v ls s step w =
    let at = s.at step.head w.0 w.1 in
    record { atom = at.2.atom; live = at.2.live; fits = ap (option_map (atom_under v)) at.1 ∙ ap (λ x. Some x) at.2.under }

pub fit_front : (j : Join) (v : Valuation) (ls : List ℕ) → Stands j.rule j.store v ls → (front rest : List Step) → AllByRecursion (IsWithin (length (heads_of j.rule))) (front ++ rest) → Fit j v (front ++ rest) (labels_in ls front)
fit_front j v ls s [] rest w = tt
fit_front j v ls s (x ∷ front) rest w = (stand_at j v ls s x w.0, fit_front j v ls s front rest w.1)

-- other heads have other labels
not_among : (n : ℕ) (ls : List ℕ) → Distinct ls → length ls ≡ n → (x : ℕ) → 1 ≤ x → x ≤ n → (front rest : List Step) → AllByRecursion (IsWithin n) (front ++ rest) → among (heads_in front) x ≡ false → among (labels_in ls front) (label_of ls x) ≡ false
not_among n ls d e x a b [] rest w h = refl
not_among n ls d e x a b (y ∷ front) rest w h =
    let same = head_fixed ls d y.head x w.0.0 (omega (arith, w.0.1)) a (omega arith) in
    let more = not_among n ls d e x a b front rest w.1 in
    grind (arith, nat_tests)

among_front : (xs ys : List ℕ) (l : ℕ) → among (xs ++ ys) l ≡ false → among xs l ≡ false
among_front xs ys l e = grind (arith, nat_tests, among-append xs ys l)

distinct_before : (front : List Step) (x : Step) (rest : List Step) → Distinct (heads_in (front ++ x ∷ rest)) → among (heads_in front) x.head ≡ false
distinct_before front x rest d =
    let split = map-append (λ (step : Step). step.head) front (x ∷ rest) ∙ sym (append_assoc (heads_in front) (x.head ∷ []) (heads_in rest)) in
    distinct_less (heads_in front) x.head (Distinct-left (heads_in front ++ x.head ∷ []) (heads_in rest) (subst Distinct split d))

pub distinct_front : (n : ℕ) (ls : List ℕ) → Distinct ls → length ls ≡ n → (front rest : List Step) → AllByRecursion (IsWithin n) (front ++ rest) → Distinct (heads_in (front ++ rest)) → Distinct (labels_in ls front)
distinct_front n ls d e [] rest w h = tt
distinct_front n ls d e (x ∷ front) rest w h =
    (not_among n ls d e x.head w.0.0 w.0.1 front rest w.1 (among_front (heads_in front) (heads_in rest) x.head (ap (λ (z : List ℕ). among z x.head) (sym (map-append (λ (step : Step). step.head) front rest)) ∙ h.0)), distinct_front n ls d e front rest w.1 h.1)

within_at : (n : ℕ) (front : List Step) (x : Step) (rest : List Step) → AllByRecursion (IsWithin n) (front ++ x ∷ rest) → IsWithin n x
within_at n [] x rest w = w.0
within_at n (y ∷ front) x rest w = within_at n front x rest w.1

-- The active label stands at the first head, and all other labels lie below the bound.
pub record OthersBelow (j : Join) (h : ℕ) (ls : List ℕ) : Type 0 where
  pub first : label_of ls h ≡ j.active
  pub others : (l : ℕ) → among ls l ≡ true → l ≢ j.active → l < j.bound

pub grow : (j : Join) (h : ℕ) (v : Valuation) (ls : List ℕ) → IsPlanOf j.rule h j.order → IsOrder (heads_of j.rule) h j.order → Stands j.rule j.store v ls → OthersBelow j h ls
    → (front rest : List Step) → j.order ≡ front ++ rest → Grows (MayFollow j) (labels_in ls front) (labels_in ls rest)
grow j h v ls p o s b front [] q = tt
grow j h v ls p o s b front (x ∷ rest) q =
    let n : ℕ = length (heads_of j.rule) in
    let w : AllByRecursion (IsWithin n) (front ++ x ∷ rest) = subst (AllByRecursion (IsWithin n)) q o.within in
    let d : Distinct (heads_in (front ++ x ∷ rest)) = subst (λ z. Distinct (heads_in z)) q o.distinct in
    let fits : Fit j v j.order (labels_in ls front) = subst (λ z. Fit j v z (labels_in ls front)) (sym q) (fit_front j v ls s front (x ∷ rest) w) in
    let step : slice_get j.order (length (labels_in ls front)) ≡ Some x =
    subst (λ k. slice_get j.order k ≡ Some x) (sym (length-map front (λ (y : Step). label_of ls y.head))) (ap (λ z. slice_get z (length front)) q ∙ get_after front x rest) in (
      follows_at j h p.plan v (labels_in ls front) (label_of ls x.head) (turn front q w d) (distinct_front n ls s.distinct s.count front (x ∷ rest) w d) x step fits (stand_at j v ls s x (within_at n front x rest w)),
      subst (λ z. Grows (MayFollow j) z (labels_in ls rest)) (map-append (λ (y : Step). label_of ls y.head) front (x ∷ []))
          (grow j h v ls p o s b (front ++ x ∷ []) rest (q ∙ sym (append_assoc front (x ∷ []) rest))),
    )
  where
    is_first : (f : List Step) (y : Step) (more : List Step) → j.order ≡ f ++ y ∷ more → f ≡ [] → y ≡ first_step (heads_of j.rule) h
    is_first [] y more z e = let c : y ∷ more ≡ first_step (heads_of j.rule) h ∷ o.rest = sym z ∙ o.first in cc
    is_first (f ∷ fs) y more z e = absurd (cc)

    turn : (f : List Step) → j.order ≡ f ++ x ∷ rest → AllByRecursion (IsWithin (length (heads_of j.rule))) (f ++ x ∷ rest) → Distinct (heads_in (f ++ x ∷ rest)) → IsInTurn j (labels_in ls f) (label_of ls x.head)
    turn [] z w d = ap (λ (k : Step). label_of ls k.head) (is_first [] x rest z refl) ∙ b.first
    turn (f ∷ fs) z w d =
        let in_x = within_at (length (heads_of j.rule)) (f ∷ fs) x rest w in
        let high : x.head ≤ length (heads_of j.rule) = in_x.1 in
        let count : length ls ≡ length (heads_of j.rule) = s.count in
        let c : f ∷ (fs ++ x ∷ rest) ≡ first_step (heads_of j.rule) h ∷ o.rest = sym z ∙ o.first in
        let is_h : f ≡ first_step (heads_of j.rule) h = cc in
        let other : among (labels_in ls (f ∷ fs)) (label_of ls x.head) ≡ false = not_among (length (heads_of j.rule)) ls s.distinct s.count x.head in_x.0 in_x.1 (f ∷ fs) (x ∷ rest) w (distinct_before (f ∷ fs) x rest d) in
        b.others (label_of ls x.head) (among_label ls x.head in_x.0 (omega arith))
        (λ e. let same : label_of ls f.head ≡ label_of ls x.head = ap (λ (k : Step). label_of ls k.head) is_h ∙ b.first ∙ sym e in
        absurd (true≢false (sym (among-itself (label_of ls f.head) (labels_in ls fs)) ∙ ap (among (labels_in ls (f ∷ fs))) same ∙ other)))

-- An instance is in the reach by each head at which the active label stands.
pub record IsReached (s : Space) (r h : ℕ) (kept removed : List ℕ) : Type 0 where
  pub low : 1 ≤ h
  pub high : h ≤ length (kept ++ removed)
  pub active : label_of (kept ++ removed) h ≡ s.active
  pub others : (l : ℕ) → among (kept ++ removed) l ≡ true → l ≢ s.active → l < s.bound

pub reach_of : (s : Space) (r h : ℕ) (order : List Step) → plan_at s.plans r h ≡ Some order → (kept removed : List ℕ) (body : List (Atom ℕ)) → Labelled (Instances s.rules) s.store r kept removed body → IsTrial s (r ∷ h ∷ labels_in (kept ++ removed) order) → Reach s (r ∷ h ∷ labels_in (kept ++ removed) order)
reach_of s r h order oi kept removed body i t = record { trial = t; rule = r; head = h; order = order; order_is = oi; kept = kept; removed = removed; body = body; instance = i; is = refl }

pub in_reach : (s : Space) → ArePlans s.rules s.plans → (r h : ℕ) (kept removed : List ℕ) (body : List (Atom ℕ)) → Labelled (Instances s.rules) s.store r kept removed body → IsReached s r h kept removed
    → (order : List Step) → plan_at s.plans r h ≡ Some order → Reach s (r ∷ h ∷ labels_in (kept ++ removed) order)
in_reach s ps r h kept removed body i q order oi =
    let rule = i.instance.0 in
    let ri : rule_at s.rules r ≡ Some rule = i.instance.1 in
    let st = stands rule s.store kept removed i.kept_atoms i.removed_atoms body i.instance.2 i.distinct i.kept_there i.removed_there in
    let p : IsPlanned s r h rule order = record { rule_is = ri; order_is = oi } in
    let is_plan = planned s.rules s.plans ps r h rule order ri oi in
    let o = planned_order s.rules s.plans ps r h rule order ri oi in
    let some : 1 ≤ length (labels_in (kept ++ removed) order) = subst (λ z. 1 ≤ length (labels_in (kept ++ removed) z)) (sym o.first) (omega arith) in
    let grows = grow (join_in s rule order) h (i.instance.2).valuation (kept ++ removed) is_plan o st (record { first = q.active; others = q.others }) [] order refl in
    reach_of s r h order oi kept removed body i (trial_of s r h (labels_in (kept ++ removed) order) rule order p some grows)
