-- How many constraints the first members of a body add.
use Rattle.std.proofs.Common.{◌≡◌, ℕ, ◌+◌, ◌<◌, List, [], ◌∷◌, ◌++◌, length, map, take, get_or, sym, ◌∙◌, ap, length-append, ◌≢◌, ◌-◌, Bool, true, false, ◌||◌, ◌==◌, set, refl, subst, arith, true-eqb, get_or-set_other, get_or-set_same, ◌≤◌, true≢false, slice_get, replicate, Some, ⊎_elim, zero, suc, add-one}
use Rattle.std.proofs.lemmas.List.{map_more, take_more, get_or_past, length-map, length-take-le, map-append, append-nil}
use Rattle.chr_rule.specs.Rules.{BodyItem, Simpagation}
use Rattle.chr_guard.specs.Instances.{added}
use Rattle.chr_guard.proofs.Under.{added_append}
use Rattle.std.proofs.Math.ListN.{length-set, length-replicate}
use Rattle.std.proofs.lemmas.List.Elements.{All-from_recursion}
use Rattle.std.proofs.lemmas.Bool.Decides.{nat_tests}
use Rattle.chr_model.specs.Stores.{among}
use Rattle.chr_model.proofs.Stores.{among-append, among-itself, among-more}
use Rattle.chr_causes.specs.Marks.{AreWithin, Adds, AreMarks}
use Rattle.std.proofs.lemmas.Option.{slice_get-get_or, slice_get_within}
use Rattle.std.proofs.lemmas.Bool.{or_cases, or_left, or_right, cases_eq}
use Rattle.std.proofs.lemmas.Grind.{common_steps, elements}
use Rattle.chr_log.specs.declared.events.Event.{Event as CodeEvent}
use Rattle.chr_log.specs.Events.{Event, event_of, events_of}
use Rattle.chr_causes.specs.declared.origins.Origin.{Origin}
use Rattle.chr_causes.specs.Origins.{IsLawful, IsOrigin, AreOrigins}
use Rattle.chr_causes.specs.Causes.{heads_of, IsHeadFor, IsCause, itself, head, AreCauses}
use Rattle.chr_causes.proofs.Tracing.{event_read}
use Rattle.chr_causes.proofs.OneOrigin.{one_origin, head_below}
use Rattle.std.specs.List.{AllByRecursion}
use Rattle.std.specs.List.Sorted.{IsStrictlyIncreasing}
use Rattle.chr_guard.proofs.Steps.{all_push}
use Rattle.chr_causes.specs.declared.causes.Cause.{Cause}

pub count_more : {A : Type 0} (f : A → BodyItem ℕ) (xs : List A) (i : ℕ) (x : A) → i < length xs → x ≡ get_or xs i x → length (added (map f (take (i + 1) xs))) ≡ length (added (map f (take i xs))) + length (added (f x ∷ []))
count_more f xs i x h is =
    ap (λ ms. length (added ms)) (map_more f xs i x h ∙ ap (λ y. map f (take i xs) ++ f y ∷ []) (sym is))
    ∙ ap length (added_append (map f (take i xs)) (f x ∷ []))
    ∙ length-append (added (map f (take i xs))) (added (f x ∷ []))

-- ---- labels that are marked one after another

within_at : (n : ℕ) (labels : List ℕ) (i : ℕ) → i < length labels → AreWithin n labels → (0 < get_or labels i 0) × (get_or labels i 0 < n + 1)
within_at n labels i h all = All-from_recursion (λ l. (0 < l) × (l < n + 1)) labels all i 0 h

one_more : (b c d : Bool) (l k : ℕ) (ls : List ℕ) → c ≡ (b || among ls (k + 1)) → (l ≡ k + 1 → d ≡ true) → (l ≢ k + 1 → d ≡ c) → d ≡ (b || among (ls ++ l ∷ []) (k + 1))
one_more b c d l k ls h same other = grind (arith, nat_tests, among-append)

pub mark_more : (labels : List ℕ) (i : ℕ) (old now : List Bool) → i < length labels → AreWithin (length old) labels → Adds (take i labels) old now → Adds (take (i + 1) labels) old (set now (get_or labels i 0 - 1) true)
mark_more labels i old now h within adds =
    let l = get_or labels i 0 in
    let at = within_at (length old) labels i h within in
    let above : 0 < l = at.0 in
    let below : l < length old + 1 = at.1 in
    record {
      places = length-set now (l - 1) true ∙ adds.places;
      marks = λ k. subst (λ ls. get_or (set now (l - 1) true) k false ≡ (get_or old k false || among ls (k + 1))) (sym (take_more labels i 0 h))
          (one_more (get_or old k false) (get_or now k false) (get_or (set now (l - 1) true) k false) l k (take i labels) (adds.marks k)
          (λ e. (let same : l - 1 ≡ k = omega arith in subst (λ j. get_or (set now (l - 1) true) j false ≡ true) same (get_or-set_same now (l - 1) true false (omega (arith, adds.places)))))
          (λ e. get_or-set_other now (l - 1) k true false (λ s. e (omega (arith, s, above)))));
    }

within_left : (n : ℕ) (xs ys : List ℕ) → AreWithin n (xs ++ ys) → AreWithin n xs
within_left n [] ys h = tt
within_left n (x ∷ xs) ys h = (h.0, within_left n xs ys h.1)

within_right : (n : ℕ) (xs ys : List ℕ) → AreWithin n (xs ++ ys) → AreWithin n ys
within_right n [] ys h = h
within_right n (x ∷ xs) ys h = within_right n xs ys h.1

pub second_within : (n m : ℕ) (all xs ys part : List ℕ) → all ≡ xs ++ ys → part ≡ ys → m ≡ n → AreWithin n all → AreWithin m part
second_within n m all xs ys part e p k h = subst (λ i. AreWithin i part) (sym k) (subst (AreWithin n) (sym p) (within_right n xs ys (subst (AreWithin n) e h)))

pub both_added : (all xs ys a b : List ℕ) (old middle new : List Bool) → all ≡ xs ++ ys → a ≡ xs → b ≡ ys → Adds a old middle → Adds b middle new → Adds all old new
both_added all xs ys a b old middle new e p q f g = record {
  places = g.places ∙ f.places;
  marks = λ k.
      let first : get_or middle k false ≡ (get_or old k false || among a (k + 1)) = f.marks k in
      let second : get_or new k false ≡ (get_or middle k false || among b (k + 1)) = g.marks k in
      let parts : among all (k + 1) ≡ (among a (k + 1) || among b (k + 1)) = ap (λ ls. among ls (k + 1)) e ∙ among-append xs ys (k + 1) ∙ ap (λ ls. among ls (k + 1) || among ys (k + 1)) (sym p) ∙ ap (λ ls. among a (k + 1) || among ls (k + 1)) (sym q) in
      grind (arith, nat_tests);
}

-- ---- marks that come to be exactly those of the causes

-- Only causes are marked, the label is, and so is each head for a marked label of which the place isn't below.
pub record Traced (rules : List (Simpagation ℕ)) (log : List (Event ℕ)) (label place : ℕ) (marks : List Bool) : Type 0 where
  pub places : length marks ≡ label
  pub first : get_or marks (label - 1) false ≡ true
  pub sound : (k : ℕ) → get_or marks k false ≡ true → IsCause rules log label (k + 1)
  pub closed : (k : ℕ) → place ≤ k → get_or marks k false ≡ true → (h : ℕ) → IsHeadFor rules log (k + 1) h → get_or marks (h - 1) false ≡ true

at_first : (n : ℕ) (marks : List Bool) (k : ℕ) → 0 < n → marks ≡ set (replicate n false) (n - 1) true → get_or marks k false ≡ true → k ≡ n - 1
at_first n marks k lt is h = grind (arith, elements, common_steps)

pub traced_first : (rules : List (Simpagation ℕ)) (log : List (Event ℕ)) (label : ℕ) (marks : List Bool) → 0 < label → marks ≡ set (replicate label false) (label - 1) true → Traced rules log label label marks
traced_first rules log label marks lt is =
    let places : length marks ≡ label = ap length is ∙ length-set (replicate label false) (label - 1) true ∙ length-replicate label false in
    record {
      places = places;
      first = ap (λ bs. get_or bs (label - 1) false) is ∙ get_or-set_same (replicate label false) (label - 1) true false (omega (arith, length-replicate label false, lt));
      sound = λ k h. (let same : label ≡ k + 1 = omega (arith, at_first label marks k lt is h, lt) in subst (IsCause rules log label) same itself);
      closed = λ k le h. absurd (true≢false (sym h ∙ get_or_past marks k false (omega (arith, places, le))));
    }

-- labels that are all low enough have places
heads_within : (n : ℕ) (ls : List ℕ) → ((h : ℕ) → among ls h ≡ true → (0 < h) × (h < n + 1)) → AreWithin n ls
heads_within n [] f = tt
heads_within n (l ∷ ls) f = (f l (among-itself l ls), heads_within n ls (λ h e. f h (among-more l ls h e)))

-- the origin at a place
pub origin_read : (rules : List (Simpagation ℕ)) (log : List (Event ℕ)) (origins : List Origin) (p : ℕ) (d : Origin) → AreOrigins rules log origins → p < length origins → IsOrigin rules log (p + 1) (get_or origins p d)
origin_read rules log origins p d all lt = all.each p (get_or origins p d) (slice_get-get_or origins p d lt)

pub made_within : {Z : Type 0} (rules : List (Simpagation ℕ)) (events : List (CodeEvent Z)) (origins : List Origin) (p : ℕ) (d : Origin) → AreOrigins rules (events_of events) origins → p < length origins → (get_or origins p d).made < length events
made_within rules events origins p d all lt =
    let makes = (origin_read rules (events_of events) origins p d all lt).makes in
    omega (arith, slice_get_within (events_of events) (get_or origins p d).made makes.event makes.there, length-map events event_of)

-- the heads of the event that made a label's goal, as it was read
module _ {Z : Type 0} (rules : List (Simpagation ℕ)) (events : List (CodeEvent Z)) (lawful : IsLawful rules (events_of events)) (label : ℕ) (origins : List Origin) (p : ℕ) (d : Origin) (x : CodeEvent Z) (all : AreOrigins rules (events_of events) origins) (lt : p < length origins) (is : x ≡ get_or events (get_or origins p d).made x) where
  from : IsOrigin rules (events_of events) (p + 1) (get_or origins p d)
  from = origin_read rules (events_of events) origins p d all lt

  there : slice_get (events_of events) (get_or origins p d).made ≡ Some (event_of x)
  there = event_read events (get_or origins p d).made x (made_within rules events origins p d all lt) is

  head_by : (h : ℕ) → among (heads_of (event_of x)) h ≡ true → IsHeadFor rules (events_of events) (p + 1) h
  head_by h has = record { origin = get_or origins p d; from = from; event = event_of x; there = there; has = has }

  -- all heads for the label have places
  pub heads_fit : (n : ℕ) → p < n → AreWithin n (heads_of (event_of x))
  heads_fit n lt = heads_within n (heads_of (event_of x)) (λ h has. (let b = head_below rules (events_of events) lawful (p + 1) h (head_by h has) in (b.0, omega (arith, b.1, lt))))

  head_has : (h : ℕ) → IsHeadFor rules (events_of events) (p + 1) h → among (heads_of (event_of x)) h ≡ true
  head_has h hd =
      let same : hd.origin ≡ get_or origins p d = one_origin rules (events_of events) lawful (p + 1) hd.origin (get_or origins p d) hd.from from in
      let said : Some hd.event ≡ Some (event_of x) = sym hd.there ∙ ap (λ (y : Origin). slice_get (events_of events) y.made) same ∙ there in
      let event : hd.event ≡ event_of x = cc in
      subst (λ y. among (heads_of y) h ≡ true) event hd.has

  -- its heads are marked
  pub heads_traced : (old new : List Bool) → get_or old p false ≡ true → Adds (heads_of (event_of x)) old new → Traced rules (events_of events) label (p + 1) old → Traced rules (events_of events) label p new
  heads_traced old new here adds t = record {
    places = adds.places ∙ t.places;
    first = adds.marks (label - 1) ∙ or_left _ _ t.first;
    sound = λ k h. ⊎_elim (t.sound k) (λ has. head (t.sound p here) (head_by (k + 1) has)) (or_cases (get_or old k false) _ (sym (adds.marks k) ∙ h));
    closed = λ k le h g hd. ⊎_elim
        (λ was. ⊎_elim (λ same. here_closed g (subst (λ n. IsHeadFor rules (events_of events) (n + 1) g) same hd)) (λ other. adds.marks (g - 1) ∙ or_left _ _ (t.closed k (omega arith) was g hd)) (cases_eq k p))
        (λ has. absurd (omega (arith, head_below rules (events_of events) lawful (p + 1) (k + 1) (head_by (k + 1) has), le)))
        (or_cases (get_or old k false) _ (sym (adds.marks k) ∙ h));
  }
    where
      here_closed : (g : ℕ) → IsHeadFor rules (events_of events) (p + 1) g → get_or new (g - 1) false ≡ true
      here_closed g hd =
          let same : g - 1 + 1 ≡ g = omega (arith, head_below rules (events_of events) lawful (p + 1) g hd) in
          adds.marks (g - 1) ∙ or_right _ _ (subst (λ n. among (heads_of (event_of x)) n ≡ true) (sym same) (head_has g hd))

-- a label that isn't marked is passed over
pub traced_passed : (rules : List (Simpagation ℕ)) (log : List (Event ℕ)) (label p : ℕ) (marks : List Bool) → get_or marks p false ≡ false → Traced rules log label (p + 1) marks → Traced rules log label p marks
traced_passed rules log label p marks not t = record {
  places = t.places;
  first = t.first;
  sound = t.sound;
  closed = λ k le h. t.closed k (grind arith) h;
}

-- where all places are passed, the causes are marked
module _ (rules : List (Simpagation ℕ)) (log : List (Event ℕ)) (lawful : IsLawful rules log) (label : ℕ) (lt : 0 < label) (marks : List Bool) (t : Traced rules log label 0 marks) where
  cause_marked : {l : ℕ} → IsCause rules log label l → (0 < l) × (get_or marks (l - 1) false ≡ true)
  cause_marked itself = (lt, t.first)
  cause_marked (head {l} {h} c hd) =
      let i = cause_marked c in
      let same : l ≡ l - 1 + 1 = omega (arith, i.0) in
      ((head_below rules log lawful l h hd).0, t.closed (l - 1) (omega arith) i.1 h (subst (λ n. IsHeadFor rules log n h) same hd))

  pub traced_all : AreMarks rules log label marks
  traced_all = record {
    places = t.places;
    none = λ c. (let i = cause_marked c in let z : 0 < 0 = i.0 in absurd (omega arith));
    exact = λ k. (t.sound k, λ c. (let i = cause_marked c in let same : k + 1 - 1 ≡ k = omega arith in subst (λ n. get_or marks n false ≡ true) same i.1));
  }

-- ---- the labels that are marked, by rising label

-- those from n on
abbrev pub marked : ℕ → List Bool → List ℕ
marked n [] = []
marked n (true ∷ bs) = n ∷ marked (n + 1) bs
marked n (false ∷ bs) = marked (n + 1) bs

marked-push : (n : ℕ) (bs : List Bool) (b : Bool) → marked n (bs ++ b ∷ []) ≡ marked n bs ++ marked (n + length bs) (b ∷ [])
marked-push n [] b = ap (λ k. marked k (b ∷ [])) (omega arith)
marked-push n (true ∷ bs) b = ap (λ xs. n ∷ xs) (marked-push (n + 1) bs b ∙ ap (λ k. marked (n + 1) bs ++ marked k (b ∷ [])) (omega arith))
marked-push n (false ∷ bs) b = marked-push (n + 1) bs b ∙ ap (λ k. marked (n + 1) bs ++ marked k (b ∷ [])) (omega arith)

-- a marked label has its mark
marked_in : (n : ℕ) (bs : List Bool) (l : ℕ) → among (marked n bs) l ≡ true → (k : ℕ) × (l ≡ n + k) × (get_or bs k false ≡ true)
marked_in n [] l h = absurd (true≢false (sym h))
marked_in n (false ∷ bs) l h = let i = marked_in (n + 1) bs l h in (suc i.0, omega (arith, i.1), i.2)
marked_in n (true ∷ bs) l h =
    elim (n == l) as (λ b. (n == l ≡ b) → (b || among (marked (n + 1) bs) l) ≡ true → (k : ℕ) × (l ≡ n + k) × (get_or (true ∷ bs) k false ≡ true)) [
      | true ↦ λ e _. (0, omega (arith, true-eqb n l (sym e)), refl)
      | false ↦ λ e j. let i = marked_in (n + 1) bs l j in (suc i.0, omega (arith, i.1), i.2)
    ] refl h

marked_out : (n : ℕ) (bs : List Bool) (k : ℕ) → get_or bs k false ≡ true → among (marked n bs) (n + k) ≡ true
marked_out n [] k h = absurd (true≢false (sym h))
marked_out n (true ∷ bs) zero h = grind (arith, nat_tests)
marked_out n (false ∷ bs) zero h = absurd (true≢false (sym h))
marked_out n (true ∷ bs) (suc k) h = grind (arith, nat_tests, marked_out (n + 1) bs k h)
marked_out n (false ∷ bs) (suc k) h = subst (λ m. among (marked (n + 1) bs) m ≡ true) (let e : n + 1 + k ≡ n + suc k = omega arith in e) (marked_out (n + 1) bs k h)

marked_first : (n : ℕ) (bs : List Bool) → 0 < length (marked n bs) → n ≤ get_or (marked n bs) 0 0
marked_first n [] h = absurd (omega arith)
marked_first n (true ∷ bs) h = omega arith
marked_first n (false ∷ bs) h = omega (arith, marked_first (n + 1) bs h)

rising_cons : (x : ℕ) (xs : List ℕ) → (0 < length xs → x < get_or xs 0 0) → IsStrictlyIncreasing xs → IsStrictlyIncreasing (x ∷ xs)
rising_cons x xs first rest zero h = first (omega arith)
rising_cons x xs first rest (suc k) h = let r = rw add-one at (rest k (omega arith)) in rw add-one r

marked_rises : (n : ℕ) (bs : List Bool) → IsStrictlyIncreasing (marked n bs)
marked_rises n [] = λ k h. absurd (omega arith)
marked_rises n (true ∷ bs) = rising_cons n (marked (n + 1) bs) (λ h. omega (arith, marked_first (n + 1) bs h)) (marked_rises (n + 1) bs)
marked_rises n (false ∷ bs) = marked_rises (n + 1) bs

-- one mark more
taken_more : (marks : List Bool) (i : ℕ) (b : Bool) → i < length marks → get_or marks i false ≡ b → marked 1 (take (i + 1) marks) ≡ marked 1 (take i marks) ++ marked (1 + i) (b ∷ [])
taken_more marks i b lt is =
    ap (marked 1) (take_more marks i false lt ∙ ap (λ x. take i marks ++ x ∷ []) is)
    ∙ marked-push 1 (take i marks) b
    ∙ ap (λ n. marked 1 (take i marks) ++ marked (1 + n) (b ∷ [])) (length-take-le i marks (omega arith))

abbrev pub label_of : Cause → ℕ
label_of c = c.label

pub labels_push : (marks : List Bool) (i : ℕ) (old new : List Cause) (c : Cause) → i < length marks → get_or marks i false ≡ true → c.label ≡ i + 1 → new ≡ old ++ c ∷ [] → map label_of old ≡ marked 1 (take i marks) → map label_of new ≡ marked 1 (take (i + 1) marks)
labels_push marks i old new c lt is l more so_far =
    ap (map label_of) more ∙ map-append label_of old (c ∷ []) ∙ ap (λ xs. xs ++ c.label ∷ []) so_far
    ∙ ap (λ n. marked 1 (take i marks) ++ n ∷ []) (let e : c.label ≡ 1 + i = omega (arith, l) in e)
    ∙ sym (taken_more marks i true lt is)

pub labels_pass : (marks : List Bool) (i : ℕ) (old : List Cause) → i < length marks → get_or marks i false ≡ false → map label_of old ≡ marked 1 (take i marks) → map label_of old ≡ marked 1 (take (i + 1) marks)
labels_pass marks i old lt is so_far = so_far ∙ sym (taken_more marks i false lt is ∙ append-nil (marked 1 (take i marks)))

-- each has its origin
abbrev pub AllStand : List (Simpagation ℕ) → List (Event ℕ) → List Cause → Type 0
AllStand rules log list = AllByRecursion (λ c. IsOrigin rules log c.label c.origin) list

pub origins_push : (rules : List (Simpagation ℕ)) (log : List (Event ℕ)) (old new : List Cause) (c : Cause) → new ≡ old ++ c ∷ [] → IsOrigin rules log c.label c.origin → AllStand rules log old → AllStand rules log new
origins_push rules log old new c more from all =
    let P : Cause → Type 0 = λ x. IsOrigin rules log x.label x.origin in
    subst (AllByRecursion P) (sym more) ((all_push P old c).1 (all, from))

-- all that are marked
pub marked_all : (rules : List (Simpagation ℕ)) (log : List (Event ℕ)) (label : ℕ) (marks : List Bool) (list : List Cause) → AreMarks rules log label marks → map label_of list ≡ marked 1 marks → AllStand rules log list → AreCauses rules log label list
marked_all rules log label marks list m labels all = record {
  rising = subst IsStrictlyIncreasing (sym labels) (marked_rises 1 marks);
  exact = λ l. (λ h. there l (marked_in 1 marks l (ap (λ ls. among ls l) (sym labels) ∙ h)), λ c. ap (λ ls. among ls l) labels ∙ back l c);
  origins = all;
}
  where
    there : (l : ℕ) → (k : ℕ) × (l ≡ 1 + k) × (get_or marks k false ≡ true) → IsCause rules log label l
    there l i = subst (IsCause rules log label) (let e : i.0 + 1 ≡ l = omega (arith, i.1) in e) ((m.exact i.0).0 i.2)

    back : (l : ℕ) → IsCause rules log label l → among (marked 1 marks) l ≡ true
    back zero c = absurd (m.none c)
    back (suc k) c = subst (λ n. among (marked 1 marks) n ≡ true) (let e : 1 + k ≡ suc k = omega arith in e) (marked_out 1 marks k ((m.exact k).1 (subst (IsCause rules log label) (let e : suc k ≡ k + 1 = omega arith in e) c)))
