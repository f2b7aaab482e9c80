-- Slots of a bucket.
use Rattle.std.proofs.Common.{length-take-le, get_or-take, get_or-drop, length-drop, ◌≡◌, ℕ, zero, suc, ◌+◌, ◌-◌, ◌<◌, ◌≤◌, Bool, true, false, ◌==◌, if◌then◌else◌, List, [], ◌∷◌, ◌++◌, Option, Some, None, refl, sym, ap, subst, arith, true-eqb, length, take, drop, slice_index_or, ◌∙◌, slice_set, get_or, inl, inr, length-append, ltb, add-one, option_map, nat_eq, nat_lt, ltb-true, unwrap_or, drop-drop, length-set}
use Rattle.std.specs.List.{AllByRecursion, slice_get}
use Rattle.std.proofs.Math.Seq.{drop-cons}
use Rattle.std.proofs.lemmas.List.Elements.{All-from_recursion, recursion_from_All, All-filter, All-weaker, All-append}
use Rattle.std.proofs.lemmas.List.{drop_all, take-append-drop, take-append-le, take_all, take_more}
use Rattle.std.proofs.lemmas.Option.{slice_get_cases, slice_get_read, slice_get-get_or, slice_get_past, slice_get_within, get_or_from_slice_get}
use Rattle.std.proofs.lemmas.Bool.{ltb-false, eqb-true}
use Rattle.std.proofs.lemmas.Bool.Decides.{nat_tests}
use Rattle.chr_value.proofs.Places.{all-push}
use Rattle.chr_index.specs.declared.bucket.TheConstants.{BACK}
use Rattle.chr_index.specs.declared.bucket.Slot.{Slot}
use Rattle.chr_index.specs.Buckets.{is_live, jump_of, JumpsAreDead, live_labels, live_slots, drop_number, IsIn, SlotsRise, IsLeastBetween, IsLiveOrNone, HasLabelAt, IsBucket, jump_at, AreAlike}

-- ---- how many live

pub live_few : (ss : List Slot) → length (live_labels ss) ≤ length ss
live_few [] = omega arith
live_few (s ∷ ss) = let few = live_few ss in grind (arith, nat_tests)

-- ---- a fact by places, over the front and over the rest

pub all_front : {X : Type 0} (P : X → Type 0) (xs : List X) (r : ℕ) → r ≤ length xs → ((k : ℕ) (d : X) → 0 ≤ k → k < r → P (slice_index_or xs k d)) → AllByRecursion P (take r xs)
all_front P xs r w h = recursion_from_All P (take r xs) (λ k d l. let u : k < r = omega (arith, l, length-take-le r xs w) in rw (get_or-take r xs k d u) (h k d (omega arith) u))

pub all_rest : {X : Type 0} (P : X → Type 0) (xs : List X) (r : ℕ) → ((k : ℕ) (d : X) → r ≤ k → k < length xs → P (slice_index_or xs k d)) → AllByRecursion P (drop r xs)
all_rest P xs r h = recursion_from_All P (drop r xs) (λ k d l. rw (get_or-drop r xs k d) (h (r + k) d (omega arith) (omega (arith, l, length-drop r xs))))

-- ---- the labels of the live ones

pub living_append : (xs ys : List Slot) → live_labels (xs ++ ys) ≡ live_labels xs ++ live_labels ys
living_append [] ys = refl
living_append (s ∷ xs) ys = elim (is_live s) as (λ b. (if b then s.label ∷ live_labels (xs ++ ys) else live_labels (xs ++ ys)) ≡ (if b then s.label ∷ live_labels xs else live_labels xs) ++ live_labels ys) [ true ↦ ap (λ (z : List ℕ). s.label ∷ z) (living_append xs ys) | false ↦ living_append xs ys ]

pub living_split : (r : ℕ) (xs : List Slot) → live_labels xs ≡ live_labels (take r xs) ++ live_labels (drop r xs)
living_split r xs = ap live_labels (sym (take-append-drop r xs)) ∙ living_append (take r xs) (drop r xs)

pub living_all : (P : ℕ → Type 0) (ss : List Slot) → AllByRecursion (λ s. P s.label) ss → AllByRecursion P (live_labels ss)
living_all P [] h = tt
living_all P (s ∷ ss) h = elim (is_live s) as (λ b. AllByRecursion P (if b then s.label ∷ live_labels ss else live_labels ss)) [ true ↦ (h.0, living_all P ss h.1) | false ↦ living_all P ss h.1 ]

pub living_kept : (ss : List Slot) → live_labels (live_slots ss) ≡ live_labels ss
living_kept [] = refl
living_kept (s ∷ ss) = elim (is_live s) as (λ b. ((is_live s) ≡ b) → live_labels (if b then s ∷ live_slots ss else live_slots ss) ≡ (if b then s.label ∷ live_labels ss else live_labels ss)) [
  | true ↦ λ t. ap (λ (b : Bool). if b then s.label ∷ live_labels (live_slots ss) else live_labels (live_slots ss)) t ∙ ap (λ (z : List ℕ). s.label ∷ z) (living_kept ss)
  | false ↦ λ t. living_kept ss
] refl

-- the live ones pass what the slots pass, and where each live label passes, each of them does
pub kept_all : (P : Slot → Type 0) (ss : List Slot) → AllByRecursion P ss → AllByRecursion P (live_slots ss)
kept_all P ss h = recursion_from_All P (live_slots ss) (All-filter is_live P ss (All-from_recursion P ss h))

pub kept_rise : (ss : List Slot) → SlotsRise ss → SlotsRise (live_slots ss)
kept_rise [] h = tt
kept_rise (s ∷ ss) h = elim (is_live s) as (λ b. SlotsRise (if b then s ∷ live_slots ss else live_slots ss)) [ true ↦ (kept_all (λ t. s.label < t.label) ss h.0, kept_rise ss h.1) | false ↦ kept_rise ss h.1 ]

pub kept_pass : (P : ℕ → Type 0) (ss : List Slot) → AllByRecursion P (live_labels ss) → AllByRecursion (λ s. P s.label) (live_slots ss)
kept_pass P [] h = tt
kept_pass P (s ∷ ss) h = elim (is_live s) as (λ b. AllByRecursion P (if b then s.label ∷ live_labels ss else live_labels ss) → AllByRecursion (λ t. P t.label) (if b then s ∷ live_slots ss else live_slots ss)) [ true ↦ λ k. (k.0, kept_pass P ss k.1) | false ↦ λ k. kept_pass P ss k ] h

-- ---- a slot after the others

pub rise_push : (s : Slot) (ss : List Slot) → AllByRecursion (λ t. t.label < s.label) ss → SlotsRise ss → SlotsRise (ss ++ s ∷ [])
rise_push s [] b h = (tt, tt)
rise_push s (t ∷ ss) b h = (all-push (λ u. t.label < u.label) ss s h.0 b.0, rise_push s ss b.1 h.1)

-- ---- by places

-- what rises is parted by each label
pub rise_at : (ss : List Slot) (i j : ℕ) (d : Slot) → SlotsRise ss → i ≤ j → j < length ss → (slice_index_or ss i d).label ≤ (slice_index_or ss j d).label
rise_at [] i j d h l u = absurd (omega arith)
rise_at (s ∷ ss) zero zero d h l u = omega arith
rise_at (s ∷ ss) zero (suc j) d h l u = let k : s.label < (slice_index_or ss j d).label = All-from_recursion (λ t. s.label < t.label) ss h.0 j d (omega arith) in omega arith
rise_at (s ∷ ss) (suc i) zero d h l u = absurd (omega arith)
rise_at (s ∷ ss) (suc i) (suc j) d h l u = rise_at ss i j d h.1 (omega arith) (omega arith)

pub live_at : (ss : List Slot) (p : ℕ) (d : Slot) → p < length ss → is_live (get_or ss p d) ≡ true → IsLiveOrNone (slice_get ss p)
live_at ss p d u h = subst IsLiveOrNone (sym (slice_get-get_or ss p d u)) h

pub none_at : (ss : List Slot) (p : ℕ) → length ss ≤ p → IsLiveOrNone (slice_get ss p)
none_at ss p u = subst IsLiveOrNone (sym (slice_get_past ss p u)) tt

pub label_at : (ss : List Slot) (p l : ℕ) (d : Slot) → p < length ss → (get_or ss p d).label ≡ l → HasLabelAt ss p l
label_at ss p l d u h = ap (option_map (λ s. s.label)) (slice_get-get_or ss p d u) ∙ ap (λ z. Some z) h

pub all_map : {X : Type 0} (P Q : X → Type 0) (xs : List X) → ((x : X) → P x → Q x) → AllByRecursion P xs → AllByRecursion Q xs
all_map P Q xs f h = recursion_from_All Q xs (All-weaker P Q f xs (All-from_recursion P xs h))

-- no slot has the label, where those up to a place are at most it, those after are above it, and the one at the place has another
pub apart : (ss : List Slot) (i l : ℕ) (d : Slot) → i < length ss → SlotsRise ss → AllByRecursion (λ s. s.label ≤ l) (take (suc i) ss) → AllByRecursion (λ s. l < s.label) (drop (suc i) ss) → ((get_or ss i d).label ≡ l → ⊥) → AllByRecursion (λ s. s.label ≡ l → ⊥) ss
apart [] i l d w r f b n = tt
apart (s ∷ ss) zero l d w r f b n = (n, all_map (λ s. l < s.label) (λ s. s.label ≡ l → ⊥) ss (λ t h e. absurd (omega arith)) b)
apart (s ∷ []) (suc i) l d w r f b n = absurd (omega arith)
apart (s ∷ t ∷ ss) (suc i) l d w r f b n = ((λ e. let lo : s.label < t.label = r.0.0 in let hi : t.label ≤ l = f.1.0 in absurd (omega arith)), apart (t ∷ ss) i l d (omega arith) r.1 f.1 b n)

-- ---- what goes

pub drop_absent : (l : ℕ) (ms : List ℕ) → AllByRecursion (λ m. m ≡ l → ⊥) ms → drop_number l ms ≡ ms
drop_absent l [] h = refl
drop_absent l (m ∷ ms) h = elim (m == l) as (λ b. (m == l ≡ b) → (if b then drop_number l ms else m ∷ drop_number l ms) ≡ m ∷ ms) [ true ↦ λ t. absurd (h.0 (true-eqb m l (sym t))) | false ↦ λ t. ap (λ (z : List ℕ). m ∷ z) (drop_absent l ms h.1) ] refl

pub struck : (ss : List Slot) (i l : ℕ) (t : Slot) → is_live t ≡ false → SlotsRise ss → HasLabelAt ss i l → live_labels (slice_set ss i t) ≡ drop_number l (live_labels ss)
struck [] i l t d r h = let z : None ≡ Some l = h in absurd (cc)
struck (s ∷ ss) zero l t d r h =
    let same : s.label ≡ l = cc in
    let later : drop_number l (live_labels ss) ≡ live_labels ss = drop_absent l (live_labels ss) (living_all (λ m. m ≡ l → ⊥) ss (all_map (λ t. s.label < t.label) (λ t. t.label ≡ l → ⊥) ss (λ t b e. absurd (omega arith)) r.0)) in
    ap (λ (b : Bool). if b then t.label ∷ live_labels ss else live_labels ss) d ∙
    elim (is_live s) as (λ b. live_labels ss ≡ drop_number l (if b then s.label ∷ live_labels ss else live_labels ss)) [ true ↦ grind (arith, nat_tests) | false ↦ sym later ]
struck (s ∷ ss) (suc i) l t d r h =
    let under : s.label < l = before ss i s.label l r.0 h in
    let rest = struck ss i l t d r.1 h in
    elim (is_live s) as (λ b. (if b then s.label ∷ live_labels (slice_set ss i t) else live_labels (slice_set ss i t)) ≡ drop_number l (if b then s.label ∷ live_labels ss else live_labels ss)) [
      | true ↦ grind (arith, nat_tests)
      | false ↦ rest
    ]
  where
    before : (ss : List Slot) (i k l : ℕ) → AllByRecursion (λ t. k < t.label) ss → HasLabelAt ss i l → k < l
    before [] i k l a h = let z : None ≡ Some l = h in absurd (cc)
    before (t ∷ ss) zero k l a h = let same : t.label ≡ l = cc in let z : k < t.label = a.0 in omega arith
    before (t ∷ ss) (suc i) k l a h = before ss i k l a.1 h

all_struck : (P : ℕ → Type 0) (ss : List Slot) (i l : ℕ) (t : Slot) → t.label ≡ l → HasLabelAt ss i l → AllByRecursion (λ t. P t.label) ss → AllByRecursion (λ t. P t.label) (slice_set ss i t)
all_struck P [] i l t e h a = tt
all_struck P (s ∷ ss) zero l t e h a = let same : s.label ≡ l = cc in (subst P (same ∙ sym e) a.0, a.1)
all_struck P (s ∷ ss) (suc i) l t e h a = (a.0, all_struck P ss i l t e h a.1)

pub rise_struck : (ss : List Slot) (i l : ℕ) (t : Slot) → t.label ≡ l → HasLabelAt ss i l → SlotsRise ss → SlotsRise (slice_set ss i t)
rise_struck [] i l t e h r = tt
rise_struck (s ∷ ss) zero l t e h r = let same : s.label ≡ l = cc in (subst (λ k. AllByRecursion (λ t. k < t.label) ss) (same ∙ sym e) r.0, r.1)
rise_struck (s ∷ ss) (suc i) l t e h r = (all_struck (λ k. s.label < k) ss i l t e h r.0, rise_struck ss i l t e h r.1)

pub front_struck : (ss : List Slot) (f i : ℕ) (t : Slot) → is_live t ≡ false → live_labels (take f ss) ≡ [] → live_labels (take f (slice_set ss i t)) ≡ []
front_struck ss zero i t d h = refl
front_struck [] (suc f) i t d h = refl
front_struck (s ∷ ss) (suc f) zero t d h = ap (λ (b : Bool). if b then t.label ∷ live_labels (take f ss) else live_labels (take f ss)) d ∙ elim (is_live s) as (λ b. (if b then s.label ∷ live_labels (take f ss) else live_labels (take f ss)) ≡ [] → live_labels (take f ss) ≡ []) [ true ↦ λ k. absurd (cc) | false ↦ λ k. k ] h
front_struck (s ∷ ss) (suc f) (suc i) t d h = elim (is_live s) as (λ b. (if b then s.label ∷ live_labels (take f ss) else live_labels (take f ss)) ≡ [] → (if b then s.label ∷ live_labels (take f (slice_set ss i t)) else live_labels (take f (slice_set ss i t))) ≡ []) [ true ↦ λ k. absurd (cc) | false ↦ λ k. front_struck ss f i t d k ] h

-- the jump of a slot, by its run
abbrev pub run_jump : ℕ → ℕ
run_jump n = if nat_lt n BACK then n else 1

jump_none : (s : Slot) → is_live s ≡ true → jump_of s ≡ 0
jump_none s h = ap run_jump (eqb-true s.run 0 h)

pub kept_jumps : (ss : List Slot) → JumpsAreDead (live_slots ss)
kept_jumps [] = tt
kept_jumps (s ∷ ss) = elim (is_live s) as (λ b. (is_live s ≡ b) → JumpsAreDead (if b then s ∷ live_slots ss else live_slots ss)) [
  | true ↦ λ t. ((let z : jump_of s ≡ 0 = jump_none s t in omega arith), ap (λ (n : ℕ). live_labels (take n (s ∷ live_slots ss))) (jump_none s t), kept_jumps ss)
  | false ↦ λ t. kept_jumps ss
] refl

pub kept_bucket : (ss : List Slot) → SlotsRise ss → IsBucket (live_slots ss) 0
kept_bucket ss r = record { rising = kept_rise ss r; jumps = kept_jumps ss; within = omega arith; front = refl }

-- ---- before a push

pub record IsReady (l : ℕ) (old : List ℕ) (ss : List Slot) (f : ℕ) : Type 0 where
  pub bucket : IsBucket ss f
  pub below : AllByRecursion (λ s. s.label < l) ss
  pub same : live_labels ss ≡ old

pub kept_ready : (l : ℕ) (old : List ℕ) (ss : List Slot) → SlotsRise ss → live_labels ss ≡ old → AllByRecursion (λ m. m < l) old → IsReady l old (live_slots ss) 0
kept_ready l old ss r e h = record { bucket = kept_bucket ss r; below = kept_pass (λ m. m < l) ss (subst (AllByRecursion (λ m. m < l)) (sym e) h); same = living_kept ss ∙ e }

jumps_push : (ss : List Slot) (t : Slot) → jump_of t ≡ 0 → JumpsAreDead ss → JumpsAreDead (ss ++ t ∷ [])
jumps_push [] t e h = ((omega arith), ap (λ (n : ℕ). live_labels (take n (t ∷ []))) e, tt)
jumps_push (s ∷ ss) t e h = ((let z = length-append (s ∷ ss) (t ∷ []) in let y : jump_of s ≤ length (s ∷ ss) = h.0 in omega (arith, z, y)), ap live_labels (take-append-le (jump_of s) (s ∷ ss) (t ∷ []) h.0) ∙ h.1, jumps_push ss t e h.2)

pub pushed_bucket : (l : ℕ) (old : List ℕ) (ss : List Slot) (f : ℕ) → IsReady l old ss f → IsBucket (ss ++ (record { label = l; run = 0 }) ∷ []) f
pushed_bucket l old ss f h = record {
  rising = rise_push (record { label = l; run = 0 }) ss h.below h.bucket.rising;
  jumps = jumps_push ss (record { label = l; run = 0 }) refl h.bucket.jumps;
  within = simp length-append (omega (arith, h.bucket.within));
  front = ap live_labels (take-append-le f ss ((record { label = l; run = 0 }) ∷ []) h.bucket.within) ∙ h.bucket.front;
}

pub pushed_living : (l : ℕ) (old : List ℕ) (ss : List Slot) (f : ℕ) → IsReady l old ss f → live_labels (ss ++ (record { label = l; run = 0 }) ∷ []) ≡ old ++ l ∷ []
pushed_living l old ss f h = living_append ss ((record { label = l; run = 0 }) ∷ []) ∙ ap (λ (z : List ℕ). z ++ l ∷ []) h.same

-- ---- the last slot, where it is live

pub pushed_back : (l : ℕ) (ms : List ℕ) → AllByRecursion (λ m. m < l) ms → drop_number l (ms ++ l ∷ []) ≡ ms
pushed_back l [] h = grind (arith, nat_tests)
pushed_back l (m ∷ ms) h = let u : m < l = h.0 in grind (arith, nat_tests, pushed_back l ms h.1)

-- the last one is not among dead ones
among_dead : (xs : List Slot) (t : Slot) (j : ℕ) → is_live t ≡ true → j ≤ length (xs ++ t ∷ []) → live_labels (take j (xs ++ t ∷ [])) ≡ [] → j ≤ length xs
among_dead xs t zero live u h = omega arith
among_dead [] t (suc j) live u h = absurd (let z : t.label ∷ live_labels (take j []) ≡ [] = sym (ap (λ (b : Bool). if b then t.label ∷ live_labels (take j []) else live_labels (take j [])) live) ∙ h in cc)
among_dead (x ∷ xs) t (suc j) live u h =
    let rest : live_labels (take j (xs ++ t ∷ [])) ≡ [] = elim (is_live x) as (λ b. (if b then x.label ∷ live_labels (take j (xs ++ t ∷ [])) else live_labels (take j (xs ++ t ∷ []))) ≡ [] → live_labels (take j (xs ++ t ∷ [])) ≡ []) [ true ↦ λ e. absurd (cc) | false ↦ λ e. e ] h in
    omega (arith, among_dead xs t j live (omega arith) rest)

dead_front : (xs : List Slot) (t : Slot) (j : ℕ) → j ≤ length xs → live_labels (take j (xs ++ t ∷ [])) ≡ [] → live_labels (take j xs) ≡ []
dead_front xs t j u h = sym (ap live_labels (take-append-le j xs (t ∷ []) u)) ∙ h

jumps_pop : (xs : List Slot) (t : Slot) → is_live t ≡ true → JumpsAreDead (xs ++ t ∷ []) → JumpsAreDead xs
jumps_pop [] t live h = tt
jumps_pop (x ∷ xs) t live h =
    let u : jump_of x ≤ length (x ∷ xs) = among_dead (x ∷ xs) t (jump_of x) live h.0 h.1 in
    (u, dead_front (x ∷ xs) t (jump_of x) u h.1, jumps_pop xs t live h.2)

above_pop : (k : ℕ) (xs : List Slot) (t : Slot) → AllByRecursion (λ s. k < s.label) (xs ++ t ∷ []) → AllByRecursion (λ s. k < s.label) xs × (k < t.label)
above_pop k [] t h = (tt, h.0)
above_pop k (x ∷ xs) t h = let rest = above_pop k xs t h.1 in ((h.0, rest.0), rest.1)

rise_pop : (xs : List Slot) (t : Slot) → SlotsRise (xs ++ t ∷ []) → SlotsRise xs × AllByRecursion (λ s. s.label < t.label) xs
rise_pop [] t h = (tt, tt)
rise_pop (x ∷ xs) t h =
    let up = above_pop x.label xs t h.0 in
    let rest = rise_pop xs t h.1 in
    ((up.0, rest.0), (up.1, rest.1))

last_apart : (ss : List Slot) (t : Slot) → slice_get ss (length ss - 1) ≡ Some t → ss ≡ take (length ss - 1) ss ++ t ∷ []
last_apart ss t h =
    sym (take_all (length ss - 1 + 1) ss (omega arith)) ∙ take_more ss (length ss - 1) t (slice_get_within ss (length ss - 1) t h) ∙ ap (λ z. take (length ss - 1) ss ++ z ∷ []) (get_or_from_slice_get ss (length ss - 1) t t h)

-- the slots without the last one, which lives
module _ (ss : List Slot) (t : Slot) (at : slice_get ss (length ss - 1) ≡ Some t) (live : is_live t ≡ true) where
  abbrev others : List Slot
  others = take (length ss - 1) ss

  pub popped_bucket : (f : ℕ) → IsBucket ss f → IsBucket (take (length ss - 1) ss) f
  popped_bucket f h =
      let whole : IsBucket (others ++ t ∷ []) f = subst (λ (z : List Slot). IsBucket z f) (last_apart ss t at) h in
      let within : f ≤ length others = among_dead others t f live whole.within whole.front in
      record {
        rising = (rise_pop others t whole.rising).0;
        jumps = jumps_pop others t live whole.jumps;
        within = within;
        front = dead_front others t f within whole.front;
      }

  pub popped_living : SlotsRise ss → live_labels (take (length ss - 1) ss) ≡ drop_number t.label (live_labels ss)
  popped_living r =
      let apart : ss ≡ others ++ t ∷ [] = last_apart ss t at in
      let below : AllByRecursion (λ s. s.label < t.label) others = (rise_pop others t (subst SlotsRise apart r)).1 in
      let last : live_labels (t ∷ []) ≡ t.label ∷ [] = ap (λ (b : Bool). if b then t.label ∷ [] else []) live in
      sym (ap (drop_number t.label) (ap live_labels apart ∙ living_append others (t ∷ []) ∙ ap (λ (z : List ℕ). live_labels others ++ z) last) ∙ pushed_back t.label (live_labels others) (living_all (λ m. m < t.label) others below))

-- ---- the next

drop_at : (ss : List Slot) (p : ℕ) (s : Slot) → slice_get ss p ≡ Some s → drop p ss ≡ s ∷ drop (suc p) ss
drop_at ss p s h = drop-cons ss p s (slice_get_within ss p s h) ∙ ap (λ z. z ∷ drop (suc p) ss) (get_or_from_slice_get ss p s s h)

drop_end : (ss : List Slot) (p : ℕ) → slice_get ss p ≡ None → drop p ss ≡ []
drop_end ss p h = elim (slice_get_cases ss p).1 [ inl y ↦ absurd (let z = y.2 in cc) | inr n ↦ drop_all p ss n.0 ]

drop_rise : (ss : List Slot) (p : ℕ) → SlotsRise ss → SlotsRise (drop p ss)
drop_rise ss zero h = h
drop_rise [] (suc p) h = tt
drop_rise (s ∷ ss) (suc p) h = drop_rise ss p h.1

drop_jumps : (ss : List Slot) (p : ℕ) → JumpsAreDead ss → JumpsAreDead (drop p ss)
drop_jumps ss zero h = h
drop_jumps [] (suc p) h = tt
drop_jumps (s ∷ ss) (suc p) h = drop_jumps ss p h.2

-- the slots of a bucket from its first one on
module _ (slots ss : List Slot) (f : ℕ) (same : slots ≡ ss) (bucket : IsBucket ss f) where
  rest : take (length slots - f) (drop f slots) ≡ drop f ss
  rest = take_all (length slots - f) (drop f slots) (omega (arith, length-drop f slots)) ∙ ap (drop f) same

  pub run_from : IsBucket (take (length slots - f) (drop f slots)) 0
  run_from = subst (λ (z : List Slot). IsBucket z 0) (sym rest) (record { rising = drop_rise ss f bucket.rising; jumps = drop_jumps ss f bucket.jumps; within = omega arith; front = refl })

  pub run_living : live_labels (take (length slots - f) (drop f slots)) ≡ live_labels ss
  run_living = ap live_labels rest ∙ sym (living_split f ss ∙ ap (λ (z : List ℕ). z ++ live_labels (drop f ss)) bucket.front)

is_in_all : (P : ℕ → Type 0) (ms : List ℕ) (n : ℕ) → AllByRecursion P ms → IsIn n ms → P n
is_in_all P [] n a h = absurd h
is_in_all P (m ∷ ms) n a h = elim h [ inl e ↦ subst P e a.0 | inr t ↦ is_in_all P ms n a.1 t ]

all_append : (P : ℕ → Type 0) (xs ys : List ℕ) → AllByRecursion P xs → AllByRecursion P ys → AllByRecursion P (xs ++ ys)
all_append P xs ys a b = recursion_from_All P (xs ++ ys) (All-append P xs ys (All-from_recursion P xs a) (All-from_recursion P ys b))

is_in_middle : (xs ys : List ℕ) (l : ℕ) → IsIn l (xs ++ l ∷ ys)
is_in_middle [] ys l = inl refl
is_in_middle (x ∷ xs) ys l = inr (is_in_middle xs ys l)

-- a slot that has the label parts the slots

label_over : (ss : List Slot) (i k : ℕ) (s : Slot) → AllByRecursion (λ t. k < t.label) ss → slice_get ss i ≡ Some s → k < s.label
label_over ss i k s a h = subst (λ (z : Slot). k < z.label) (get_or_from_slice_get ss i s s h) (All-from_recursion (λ t. k < t.label) ss a i s (slice_get_within ss i s h))

front_there : (ss : List Slot) (i l : ℕ) (s : Slot) → SlotsRise ss → slice_get ss i ≡ Some s → s.label ≡ l → AllByRecursion (λ t. t.label ≤ l) (take (suc i) ss)
front_there [] i l s r h e = tt
front_there (t ∷ ss) zero l s r h e = let same : t ≡ s = cc in (omega (arith, ap (λ (z : Slot). z.label) same, e), tt)
front_there (t ∷ ss) (suc i) l s r h e = (omega (arith, label_over ss i t.label s r.0 h, e), front_there ss i l s r.1 h e)

later_there : (ss : List Slot) (i l : ℕ) (s : Slot) → SlotsRise ss → slice_get ss i ≡ Some s → s.label ≡ l → AllByRecursion (λ t. l < t.label) (drop (suc i) ss)
later_there [] i l s r h e = tt
later_there (t ∷ ss) zero l s r h e = let same : t ≡ s = cc in subst (λ (n : ℕ). AllByRecursion (λ u. n < u.label) ss) (ap (λ (z : Slot). z.label) same ∙ e) r.0
later_there (t ∷ ss) (suc i) l s r h e = later_there ss i l s r.1 h e

pub front_near : (ss : List Slot) (i l : ℕ) (s : Slot) → SlotsRise ss → slice_get ss i ≡ Some s → s.label ≡ l → AllByRecursion (λ t. t.label ≤ l) (take (i + 1) ss)
front_near ss i l s r h e = rw add-one (front_there ss i l s r h e)

pub later_near : (ss : List Slot) (i l : ℕ) (s : Slot) → SlotsRise ss → slice_get ss i ≡ Some s → s.label ≡ l → AllByRecursion (λ t. l < t.label) (drop (i + 1) ss)
later_near ss i l s r h e = rw add-one (later_there ss i l s r h e)

-- what the search for the next one has found: those in front are at most `after`, and the others live from a place on
pub record IsSought (ss : List Slot) (after r p : ℕ) : Type 0 where
  pub rising : SlotsRise ss
  pub front : AllByRecursion (λ s. s.label ≤ after) (take r ss)
  pub later : AllByRecursion (λ s. after < s.label) (drop r ss)
  pub skipped : live_labels (drop r ss) ≡ live_labels (drop p ss)
  pub live : IsLiveOrNone (slice_get ss p)

pub sought_none : (ss : List Slot) (after r p : ℕ) → IsSought ss after r p → slice_get ss p ≡ None → (n : ℕ) → IsIn n (live_labels ss) → after < n → ⊥
sought_none ss after r p h e n st u =
    let whole : live_labels ss ≡ live_labels (take r ss) ++ [] = living_split r ss ∙ ap (λ (z : List ℕ). live_labels (take r ss) ++ z) (h.skipped ∙ ap live_labels (drop_end ss p e)) in
    absurd (omega (arith, is_in_all (λ m. m ≤ after) (live_labels (take r ss) ++ []) n (all_append (λ m. m ≤ after) (live_labels (take r ss)) [] (living_all (λ m. m ≤ after) (take r ss) h.front) tt) (subst (IsIn n) whole st)))

pub record IsNext (ss : List Slot) (after l : ℕ) : Type 0 where
  pub is_in : IsIn l (live_labels ss)
  pub over : after < l
  pub least : (n : ℕ) → IsIn n (live_labels ss) → after < n → l ≤ n

pub sought_some : (ss : List Slot) (after r p : ℕ) (s : Slot) → IsSought ss after r p → slice_get ss p ≡ Some s → IsNext ss after s.label
sought_some ss after r p s h e =
    let at : drop p ss ≡ s ∷ drop (suc p) ss = drop_at ss p s e in
    let tail : List ℕ = live_labels (drop (suc p) ss) in
    let there : live_labels (drop p ss) ≡ s.label ∷ tail = ap live_labels at ∙ ap (λ (b : Bool). if b then s.label ∷ tail else tail) (subst IsLiveOrNone e h.live) in
    let whole : live_labels ss ≡ live_labels (take r ss) ++ s.label ∷ tail = living_split r ss ∙ ap (λ (z : List ℕ). live_labels (take r ss) ++ z) (h.skipped ∙ there) in
    record {
      is_in = subst (IsIn s.label) (sym whole) (is_in_middle (live_labels (take r ss)) tail s.label);
      over = (subst (AllByRecursion (λ m. after < m)) (h.skipped ∙ there) (living_all (λ m. after < m) (drop r ss) h.later)).0;
      least = λ n st u. low (live_labels (take r ss)) tail s.label n (living_all (λ m. m ≤ after) (take r ss) h.front) (living_all (λ m. s.label < m) (drop (suc p) ss) (subst SlotsRise at (drop_rise ss p h.rising)).0) (subst (IsIn n) whole st) u;
    }
  where
    low : (xs ys : List ℕ) (l n : ℕ) → AllByRecursion (λ m. m ≤ after) xs → AllByRecursion (λ m. l < m) ys → IsIn n (xs ++ l ∷ ys) → after < n → l ≤ n
    low [] ys l n a b st u = elim st [ inl e ↦ omega arith | inr t ↦ (let z : l < n = is_in_all (λ m. l < m) ys n b t in omega arith) ]
    low (x ∷ xs) ys l n a b st u = elim st [ inl e ↦ (let z : x ≤ after = a.0 in absurd (omega arith)) | inr t ↦ low xs ys l n a.1 b t u ]

-- and so the least one, which is none where that place is past the end
pub least_none : (ss : List Slot) (after below r p : ℕ) → IsSought ss after r p → slice_get ss p ≡ None → IsLeastBetween (live_labels ss) after below None
least_none ss after below r p h e = λ n st u v. sought_none ss after r p h e n st u

pub least_some : (ss : List Slot) (after below r p : ℕ) (s : Slot) → IsSought ss after r p → slice_get ss p ≡ Some s → s.label < below → IsLeastBetween (live_labels ss) after below (Some s.label)
least_some ss after below r p s h e u = let found = sought_some ss after r p s h e in (found.is_in, found.over, u, found.least)

pub least_past : (ss : List Slot) (after below r p : ℕ) (s : Slot) → IsSought ss after r p → slice_get ss p ≡ Some s → below ≤ s.label → IsLeastBetween (live_labels ss) after below None
least_past ss after below r p s h e w = λ n st u v. let least : s.label ≤ n = (sought_some ss after r p s h e).least n st u in absurd (omega arith)

pub below_last : (ss : List Slot) (s : Slot) (l : ℕ) → SlotsRise ss → slice_get ss (length ss - 1) ≡ Some s → s.label < l → AllByRecursion (λ t. t.label < l) ss
below_last ss s l r e u =
    let others : List Slot = take (length ss - 1) ss in
    let apart : ss ≡ others ++ s ∷ [] = last_apart ss s e in
    subst (AllByRecursion (λ t. t.label < l)) (sym apart) (all-push (λ t. t.label < l) others s (all_map (λ t. t.label < s.label) (λ t. t.label < l) others (λ t b. omega arith) (rise_pop others s (subst SlotsRise apart r)).1) u)

pub get_none : {X : Type 0} (ss : List X) (p : ℕ) → false ≡ ltb p (length ss) → slice_get ss p ≡ None
get_none ss p h = slice_get_past ss p (ltb-false p (length ss) (sym h))

-- where the first is above, all are
pub later_first : (ss : List Slot) (l : ℕ) (s : Slot) → SlotsRise ss → slice_get ss 0 ≡ Some s → l < s.label → AllByRecursion (λ t. l < t.label) ss
later_first [] l s r at h = absurd (cc)
later_first (t ∷ ss) l s r at h =
    let same : t ≡ s = cc in
    let first : l < t.label = subst (λ z. l < z.label) (sym same) h in
    (first, all_map (λ u. t.label < u.label) (λ u. l < u.label) ss (λ u lt. omega arith) r.0)

-- ---- jumps over dead slots

-- ---- slots that are alike

pub alike_same : (ss : List Slot) → AreAlike ss ss
alike_same [] = tt
alike_same (s ∷ ss) = (refl, refl, alike_same ss)

pub alike_trans : (ss ts us : List Slot) → AreAlike ss ts → AreAlike ts us → AreAlike ss us
alike_trans [] [] us h k = k
alike_trans (s ∷ ss) (t ∷ ts) (u ∷ us) h k = (h.0 ∙ k.0, h.1 ∙ k.1, alike_trans ss ts us h.2 k.2)
alike_trans [] (t ∷ ts) us h k = absurd h
alike_trans (s ∷ ss) [] us h k = absurd h
alike_trans (s ∷ ss) (t ∷ ts) [] h k = absurd k

pub alike_set : (ss : List Slot) (i : ℕ) (t d : Slot) → i < length ss → (get_or ss i d).label ≡ t.label → is_live (get_or ss i d) ≡ is_live t → AreAlike ss (slice_set ss i t)
alike_set [] i t d u e f = absurd (omega arith)
alike_set (s ∷ ss) zero t d u e f = (e, f, alike_same ss)
alike_set (s ∷ ss) (suc i) t d u e f = (refl, refl, alike_set ss i t d (omega arith) e f)

-- what is shown of slots that are alike, from their ends on
alike_both : (P : List Slot → List Slot → Type 0) → P [] []
    → ((s t : Slot) (ss ts : List Slot) → s.label ≡ t.label → is_live s ≡ is_live t → AreAlike ss ts → P ss ts → P (s ∷ ss) (t ∷ ts))
    → (ss ts : List Slot) → AreAlike ss ts → P ss ts
alike_both P none more [] [] h = none
alike_both P none more (s ∷ ss) (t ∷ ts) h = more s t ss ts h.0 h.1 h.2 (alike_both P none more ss ts h.2)
alike_both P none more [] (t ∷ ts) h = absurd h
alike_both P none more (s ∷ ss) [] h = absurd h

pub alike_living : (ss ts : List Slot) → AreAlike ss ts → live_labels ss ≡ live_labels ts
alike_living = alike_both (λ ss ts. live_labels ss ≡ live_labels ts) refl (λ s t ss ts label live h rest. rw (label, live, rest))

pub alike_take : (ss ts : List Slot) (f : ℕ) → AreAlike ss ts → AreAlike (take f ss) (take f ts)
alike_take ss ts zero h = tt
alike_take ss ts (suc f) h = alike_both (λ ss ts. AreAlike (take (suc f) ss) (take (suc f) ts)) tt (λ s t ss ts label live h _. (label, live, alike_take ss ts f h)) ss ts h

alike_above : (k : ℕ) (ss ts : List Slot) → AreAlike ss ts → AllByRecursion (λ s. k < s.label) ss → AllByRecursion (λ s. k < s.label) ts
alike_above k =
    alike_both (λ ss ts. AllByRecursion (λ s. k < s.label) ss → AllByRecursion (λ s. k < s.label) ts) (λ a. a)
    (λ s t ss ts label live h rest a. (omega (arith, label, a.0), rest a.1))

pub alike_rise : (ss ts : List Slot) → AreAlike ss ts → SlotsRise ss → SlotsRise ts
alike_rise =
    alike_both (λ ss ts. SlotsRise ss → SlotsRise ts) (λ r. r)
    (λ s t ss ts label live h rest r. (subst (λ k. AllByRecursion (λ u. k < u.label) ts) label (alike_above s.label ss ts h r.0), rest r.1))

-- ---- what is dead in front

-- fewer than are dead are dead
fewer : (ss : List Slot) (a b : ℕ) → b ≤ a → live_labels (take a ss) ≡ [] → live_labels (take b ss) ≡ []
fewer ss a zero u h = refl
fewer ss zero (suc b) u h = absurd (omega arith)
fewer [] (suc a) (suc b) u h = refl
fewer (s ∷ ss) (suc a) (suc b) u h = elim (is_live s) as (λ t. (if t then s.label ∷ live_labels (take a ss) else live_labels (take a ss)) ≡ [] → (if t then s.label ∷ live_labels (take b ss) else live_labels (take b ss)) ≡ []) [ true ↦ λ k. absurd (cc) | false ↦ λ k. fewer ss a b (omega arith) k ] h

-- dead ones after dead ones
pub both_dead : (ss : List Slot) (a b j : ℕ) → j ≤ a + b → live_labels (take a ss) ≡ [] → live_labels (take b (drop a ss)) ≡ [] → live_labels (take j ss) ≡ []
both_dead ss zero b j u h k = fewer ss b j (omega arith) k
both_dead ss (suc a) b zero u h k = refl
both_dead [] (suc a) b (suc j) u h k = refl
both_dead (s ∷ ss) (suc a) b (suc j) u h k = elim (is_live s) as (λ t. (if t then s.label ∷ live_labels (take a ss) else live_labels (take a ss)) ≡ [] → (if t then s.label ∷ live_labels (take j ss) else live_labels (take j ss)) ≡ []) [ true ↦ λ e. absurd (cc) | false ↦ λ e. both_dead ss a b j (omega arith) e k ] h

-- the jump at a place leads over dead slots, within the list
pub record IsJump (ss : List Slot) (i j : ℕ) : Type 0 where
  pub within : j ≤ length (drop i ss)
  pub dead : live_labels (take j (drop i ss)) ≡ []

pub jump_here : (ss : List Slot) (i : ℕ) → JumpsAreDead ss → IsJump ss i (jump_at ss i)
jump_here [] zero h = record { within = omega arith; dead = refl }
jump_here [] (suc i) h = record { within = omega arith; dead = refl }
jump_here (s ∷ ss) zero h = record { within = h.0; dead = h.1 }
jump_here (s ∷ ss) (suc i) h = let k = jump_here ss i h.2 in record { within = k.within; dead = k.dead }

jump_slot : (ss : List Slot) (i : ℕ) → jump_at ss i ≡ unwrap_or (option_map (λ s. jump_of s) (slice_get ss i)) 0
jump_slot [] i = refl
jump_slot (s ∷ ss) zero = refl
jump_slot (s ∷ ss) (suc i) = jump_slot ss i

pub jump_in : (ss : List Slot) (i : ℕ) (d : Slot) → i < length ss → jump_of (get_or ss i d) ≡ jump_at ss i
jump_in ss i d u = sym (jump_slot ss i ∙ ap (λ (o : Option Slot). unwrap_or (option_map (λ s. jump_of s) o) 0) (slice_get-get_or ss i d u))

-- the jump of the slot that there is at a place, or 0
pub jump_got : (ss : List Slot) (i : ℕ) (o : Option Slot) → slice_get ss i ≡ o → unwrap_or (option_map (λ s. jump_of s) o) 0 ≡ jump_at ss i
jump_got ss i o h = sym (jump_slot ss i ∙ ap (λ (o : Option Slot). unwrap_or (option_map (λ s. jump_of s) o) 0) h)

-- a jump doesn't leave the slots
pub jump_within : (ss : List Slot) (i : ℕ) → i ≤ length ss → JumpsAreDead ss → i + jump_at ss i ≤ length ss
jump_within ss i u h = omega (arith, (jump_here ss i h).within, length-drop i ss)

-- and what lives from its end on is what lives from its begin on
pub jump_living : (ss : List Slot) (i m : ℕ) → m ≡ i + jump_at ss i → JumpsAreDead ss → live_labels (drop i ss) ≡ live_labels (drop m ss)
jump_living ss i m e h =
    living_split (jump_at ss i) (drop i ss) ∙ ap (λ (z : List ℕ). z ++ live_labels (drop (jump_at ss i) (drop i ss))) (jump_here ss i h).dead ∙ ap live_labels (drop-drop (jump_at ss i) i ss ∙ ap (λ (n : ℕ). drop n ss) (sym e))

-- a jump to where another begins can be as long as both
pub jump_both : (ss : List Slot) (i p j : ℕ) → i ≤ p → p ≤ length ss → p ≡ i + jump_at ss i → j ≤ jump_at ss i + jump_at ss p → JumpsAreDead ss → IsJump ss i j
jump_both ss i p j u v e l h =
    let next = jump_here ss p h in
    record {
      within = omega (arith, length-drop i ss, length-drop p ss, next.within);
      dead = both_dead (drop i ss) (jump_at ss i) (jump_at ss p) j l (jump_here ss i h).dead (ap (λ (z : List Slot). live_labels (take (jump_at ss p) z)) (drop-drop (jump_at ss i) i ss ∙ ap (λ (n : ℕ). drop n ss) (sym e)) ∙ next.dead);
    }

-- ---- one slot in place of another

-- with another jump
pub jumps_set : (ss : List Slot) (i : ℕ) (t d : Slot) → i < length ss → (get_or ss i d).label ≡ t.label → is_live (get_or ss i d) ≡ is_live t → IsJump ss i (jump_of t) → JumpsAreDead ss → JumpsAreDead (slice_set ss i t)
jumps_set [] i t d u e f j h = absurd (omega arith)
jumps_set (s ∷ ss) zero t d u e f j h = (j.within, sym (alike_living (take (jump_of t) (s ∷ ss)) (take (jump_of t) (t ∷ ss)) (alike_take (s ∷ ss) (t ∷ ss) (jump_of t) (e, f, alike_same ss))) ∙ j.dead, h.2)
jumps_set (s ∷ ss) (suc i) t d u e f j h =
    let same : AreAlike (s ∷ ss) (s ∷ slice_set ss i t) = (refl, refl, alike_set ss i t d (omega arith) e f) in (
      omega (arith, h.0, length-set ss i t),
      sym (alike_living (take (jump_of s) (s ∷ ss)) (take (jump_of s) (s ∷ slice_set ss i t)) (alike_take (s ∷ ss) (s ∷ slice_set ss i t) (jump_of s) same)) ∙ h.1,
      jumps_set ss i t d (omega arith) e f (record { within = j.within; dead = j.dead }) h.2,
    )

-- dead, with a jump that is at most one more than the next one's
pub jumps_struck : (ss : List Slot) (i : ℕ) (t : Slot) → is_live t ≡ false → jump_of t ≤ jump_at ss (suc i) + 1 → JumpsAreDead ss → JumpsAreDead (slice_set ss i t)
jumps_struck [] i t d u h = tt
jumps_struck (s ∷ ss) zero t d u h =
    ((omega (arith, (jump_here ss 0 h.2).within)), dead (jump_of t) u, h.2)
  where
    dead : (j : ℕ) → j ≤ jump_at ss 0 + 1 → live_labels (take j (t ∷ ss)) ≡ []
    dead zero v = refl
    dead (suc j) v = ap (λ (b : Bool). if b then t.label ∷ live_labels (take j ss) else live_labels (take j ss)) d ∙ fewer ss (jump_at ss 0) j (omega arith) (jump_here ss 0 h.2).dead
jumps_struck (s ∷ ss) (suc i) t d u h = (
  omega (arith, h.0, length-set ss i t),
  front_struck (s ∷ ss) (jump_of s) (suc i) t d h.1,
  jumps_struck ss i t d u h.2,
)

-- ---- the front that is dead

no_more : (xs ys : List ℕ) → ys ≡ xs ++ ys → xs ≡ []
no_more [] ys e = refl
no_more (x ∷ xs) ys e = absurd (omega (arith, ap length e, length-append xs ys))

-- where the front up to a place is dead, and nothing lives between that place and another, the front up to that is dead
pub front_later : (ss : List Slot) (f r : ℕ) → live_labels (take f ss) ≡ [] → live_labels (drop f ss) ≡ live_labels (drop r ss) → live_labels (take r ss) ≡ []
front_later ss f r h e = no_more (live_labels (take r ss)) (live_labels (drop r ss)) (sym e ∙ sym (living_split f ss ∙ ap (λ (z : List ℕ). z ++ live_labels (drop f ss)) h) ∙ living_split r ss)

pub dead_one : (n : ℕ) → 0 < n → nat_eq n 0 ≡ false
dead_one n h = grind (arith, nat_tests)

-- a slot that is dead jumps
pub jump_some : (s : Slot) → (s.run ≡ 0 → ⊥) → 0 < jump_of s
jump_some s h = grind (arith, nat_tests)

-- a run below BACK is the jump, and one from there on jumps over one slot
pub jump_low : (n : ℕ) → n < BACK → run_jump n ≡ n
jump_low n h = grind (arith, nat_tests)

pub jump_one : (n : ℕ) → BACK ≤ n → run_jump n ≡ 1
jump_one n h = grind (arith, nat_tests)

-- each of the slots in a front that is dead is dead
dead_in : (ss : List Slot) (j k : ℕ) (d : Slot) → k < j → k < length ss → live_labels (take j ss) ≡ [] → is_live (get_or ss k d) ≡ false
dead_in ss zero k d u v h = absurd (omega arith)
dead_in [] (suc j) k d u v h = absurd (omega arith)
dead_in (s ∷ ss) (suc j) zero d u v h = elim (is_live s) as (λ b. (if b then s.label ∷ live_labels (take j ss) else live_labels (take j ss)) ≡ [] → b ≡ false) [ true ↦ λ e. absurd (cc) | false ↦ λ e. refl ] h
dead_in (s ∷ ss) (suc j) (suc k) d u v h = dead_in ss j k d (omega arith) (omega arith) (elim (is_live s) as (λ b. (if b then s.label ∷ live_labels (take j ss) else live_labels (take j ss)) ≡ [] → live_labels (take j ss) ≡ []) [ true ↦ λ e. absurd (cc) | false ↦ λ e. e ] h)

-- each slot that a jump leads over is dead, and by itself a jump over one
pub over_dead : (ss : List Slot) (i m : ℕ) (d : Slot) → i ≤ m → m < i + jump_at ss i → m < length ss → JumpsAreDead ss → is_live (get_or ss m d) ≡ false
over_dead ss i m d u v w h =
    let e : i + (m - i) ≡ m = omega arith in
    subst (λ (n : ℕ). is_live (get_or ss n d) ≡ false) e
    (subst (λ (t : Slot). is_live t ≡ false) (get_or-drop i ss (m - i) d) (dead_in (drop i ss) (jump_at ss i) (m - i) d (omega arith) (omega (arith, length-drop i ss)) (jump_here ss i h).dead))

pub jump_alone : (ss : List Slot) (i : ℕ) (d : Slot) → i < length ss → is_live (get_or ss i d) ≡ false → IsJump ss i 1
jump_alone [] i d u h = absurd (omega arith)
jump_alone (s ∷ ss) zero d u h = record { within = omega arith; dead = ap (λ (b : Bool). if b then s.label ∷ [] else []) h }
jump_alone (s ∷ ss) (suc i) d u h = let k = jump_alone ss i d (omega arith) h in record { within = k.within; dead = k.dead }

-- ---- what a look-up gives

pub get_there : {A : Type 0} (xs : List A) (i : ℕ) (x : A) → true ≡ ltb i (length xs) → x ≡ slice_index_or xs i x → slice_get xs i ≡ Some x
get_there xs i x t e = slice_get_read xs (length xs) i x refl (ltb-true i (length xs) (sym t)) e
