-- Bindings and the valuations that extend them.
use Rattle.chr_guard.proofs.Under.{some_is_some}
use Rattle.std.proofs.Common.{◌≡◌, ◌≢◌, ◌↔◌, ℕ, pos, zero, suc, ◌+◌, ◌<◌, ◌≤◌, Bool, true, false, IsTrue, ◌==◌, if◌then◌else◌, List, [], ◌∷◌, length, take, replicate, Option, Some, None, IsSome, IfSome, ◌⊎◌, ⊎_elim, inl, inr, refl, sym, subst, ap, ap₂, ◌∙◌, arith, slice_get, slice_index_or, slice_set, get_or-set_same, get_or-set_other, length-set}
use Rattle.std.proofs.lemmas.Grind.{common_steps}
use Rattle.std.specs.List.{refill}
use Rattle.std.specs.Int.{bit_at}
use Rattle.std.proofs.lemmas.List.{length-take-le, length-replicate, take_at, ext_get_or}
use Rattle.std.proofs.lemmas.Nat.Bits.{bit_at-zero}
use Rattle.std.proofs.lemmas.Bool.{cases_eq, cases_lt}
use Rattle.std.proofs.lemmas.Bool.Decides.{nat_tests}
use Rattle.std.proofs.lemmas.Option.{slice_get-get_or, get_or_from_slice_get}
use Rattle.chr_value.specs.Atoms.{Value, said}
use Rattle.chr_value.specs.Limits.{IsWithin}
use Rattle.chr_value.specs.declared.value.ValueRef.{ValueRef}
use Rattle.chr_value.specs.declared.value.ValueRef.TheVariants as refs
use Rattle.chr_guard.specs.Values.{Valuation}
use Rattle.chr_guard.specs.Bindings.{bound_at, told, told_from, AreBoundBy, Extends, Keeps, Narrows, NoneUnder, NarrowsIf}

-- a place without a value that says anything
abbrev pub filler : {A : Type 0} → ValueRef A
filler = refs.Int (pos 0)

-- the bits and the places of the variables say what each is bound to
taken_from : {A : Type 0} (bits n from x : ℕ) (places : List (ValueRef A)) → n ≤ length places → ((y : ℕ) → n ≤ y → bit_at bits (from + y) ≡ 0) → bound_at (take n (told_from bits from places)) x ≡ told (bit_at bits (from + x)) (slice_index_or places x filler)
taken_from bits zero from x places within behind = ap (λ b. told b (slice_index_or places x filler)) (sym (behind x (omega arith)))
taken_from bits (suc n) from x [] within behind = absurd (omega (arith, within))
taken_from bits (suc n) from zero (b ∷ places) within behind = let here : from ≡ from + 0 = omega arith in ap (λ y. told (bit_at bits y) b) here
taken_from bits (suc n) from (suc x) (b ∷ places) within behind =
    let next : (y : ℕ) → suc from + y ≡ from + suc y = λ y. omega arith in
    taken_from bits n (suc from) x places (omega (arith, within)) (λ y le. ap (bit_at bits) (next y) ∙ behind (suc y) (omega (arith, le))) ∙ ap (λ y. told (bit_at bits y) (slice_index_or places x filler)) (next x)

pub at_taken : {A : Type 0} (bits n : ℕ) (places : List (ValueRef A)) → n ≤ length places → ((y : ℕ) → n ≤ y → bit_at bits y ≡ 0) → (x : ℕ) → bound_at (take n (told_from bits 0 places)) x ≡ told (bit_at bits x) (slice_index_or places x filler)
at_taken bits n places within behind x =
    let plain : (y : ℕ) → 0 + y ≡ y = λ y. omega arith in
    taken_from bits n 0 x places within (λ y le. ap (bit_at bits) (plain y) ∙ behind y le) ∙ ap (λ y. told (bit_at bits y) (slice_index_or places x filler)) (plain x)

pub length-told : {A : Type 0} (bits from : ℕ) (places : List (ValueRef A)) → length (told_from bits from places) ≡ length places
length-told bits from [] = refl
length-told bits from (b ∷ places) = ap suc (length-told bits (suc from) places)

-- a bit is 0 or 1
bit_cases : (bits x : ℕ) → (bit_at bits x ≡ 0) ⊎ (bit_at bits x ≡ 1)
bit_cases bits x = let small : bit_at bits x < 2 = omega arith in grind arith

-- each variable has a place
pub has_room : {A : Type 0} {bits n : ℕ} {places : List (ValueRef A)} → AreBoundBy bits n places → n ≤ length places
has_room by = omega (arith, by.full, by.within)

-- a bound variable is one of them, and the value at its place is within the limits
pub known_place : {A : Type 0} {bits n : ℕ} {places : List (ValueRef A)} → AreBoundBy bits n places → (x : ℕ) → bit_at bits x ≡ 1 → x < n
known_place {A} {bits} {n} by x one = ⊎_elim (λ less. less) (λ le. let none = by.behind x le in absurd (omega (arith, none, one))) (cases_lt x n)

known_limits : {A : Type 0} {bits n : ℕ} {places : List (ValueRef A)} → AreBoundBy bits n places → (x : ℕ) → bit_at bits x ≡ 1 → IsWithin (said (slice_index_or places x filler))
known_limits {A} {bits} {n} {places} by x one = subst (λ o. IfSome o (λ b. IsWithin (said b))) (slice_get-get_or places x filler (omega (arith, known_place by x one, has_room by))) (by.limits x one)

limits_known : {A : Type 0} (x : ℕ) (places : List (ValueRef A)) → IsWithin (said (slice_index_or places x filler)) → IfSome (slice_get places x) (λ b. IsWithin (said b))
limits_known x places within =
    elim (slice_get places x) as (λ o. slice_get places x ≡ o → IfSome o (λ b. IsWithin (said b))) [
      | Some b ↦ λ e. subst (λ c. IsWithin (said c)) (get_or_from_slice_get places x b filler e) within
      | None ↦ λ _. tt
    ] refl

-- how many variables a binding has
pub length_binding : {A : Type 0} (bits n : ℕ) (places : List (ValueRef A)) (binding : List (Option (Value ℕ))) → AreBoundBy bits n places → take n (told_from bits 0 places) ≡ binding → length binding ≡ n
length_binding bits n places binding by same = sym (ap length same) ∙ length-take-le n (told_from bits 0 places) (omega (arith, by.full, by.within, length-told bits 0 places))

pub is_place : {A : Type 0} (bits n : ℕ) (places : List (ValueRef A)) (binding : List (Option (Value ℕ))) (x : ℕ) → AreBoundBy bits n places → take n (told_from bits 0 places) ≡ binding → x < length binding → x < n
is_place bits n places binding x by same lt = omega (arith, lt, length_binding bits n places binding by same)

-- lists that bind as many variables to the same are equal
pub same_places : (binding other : List (Option (Value ℕ))) → length binding ≡ length other → ((x : ℕ) → bound_at binding x ≡ bound_at other x) → binding ≡ other
same_places binding other e at = ext_get_or None binding other e (λ x _. at x)

pub binds_as : {A : Type 0} (bits n : ℕ) (places : List (ValueRef A)) (binding : List (Option (Value ℕ))) → AreBoundBy bits n places → length binding ≡ n → ((x : ℕ) → told (bit_at bits x) (slice_index_or places x filler) ≡ bound_at binding x) → take n (told_from bits 0 places) ≡ binding
binds_as bits n places binding by len at =
    same_places (take n (told_from bits 0 places)) binding (length_binding bits n places (take n (told_from bits 0 places)) by refl ∙ sym len) (λ x. at_taken bits n places (has_room by) by.behind x ∙ at x)

-- where no variable is bound
pub free_at : (n x : ℕ) → bound_at (replicate n None) x ≡ None
free_at n x = grind (arith, common_steps)

pub none_bound : {A : Type 0} (n : ℕ) (places : List (ValueRef A)) → length places ≡ 24 → n ≤ 24 → AreBoundBy 0 n places
none_bound n places full within = grind (arith, bit_at-zero)

pub told_none : {A : Type 0} (n : ℕ) (places : List (ValueRef A)) → length places ≡ 24 → n ≤ 24 → take n (told_from 0 0 places) ≡ replicate n None
told_none n places full within = binds_as 0 n places (replicate n None) (none_bound n places full within) (length-replicate n None) (λ x. ap (λ b. told b (slice_index_or places x filler)) (bit_at-zero x) ∙ sym (free_at n x))

-- what a variable is bound to, by its bit and its place
told_is : {A : Type 0} (bits n x : ℕ) (places : List (ValueRef A)) (binding : List (Option (Value ℕ))) → AreBoundBy bits n places → take n (told_from bits 0 places) ≡ binding → told (bit_at bits x) (slice_index_or places x filler) ≡ bound_at binding x
told_is bits n x places binding by same = sym (at_taken bits n places (has_room by) by.behind x) ∙ ap (λ b. bound_at b x) same

-- the bits are those of the variables that are bound
pub known_bits : {A : Type 0} (bits n : ℕ) (places : List (ValueRef A)) (binding : List (Option (Value ℕ))) → AreBoundBy bits n places → take n (told_from bits 0 places) ≡ binding → (x : ℕ) → (bit_at bits x ≡ 1) ↔ IsSome (bound_at binding x)
known_bits bits n places binding by same x = grind (arith, told_is bits n x places binding by same, bit_cases bits x)

-- what a variable is bound to, by its bit
pub told_one : {A : Type 0} (bits n x : ℕ) (places : List (ValueRef A)) (binding : List (Option (Value ℕ))) → AreBoundBy bits n places → take n (told_from bits 0 places) ≡ binding → bit_at bits x ≡ 1 → Some (said (slice_index_or places x filler)) ≡ bound_at binding x
told_one bits n x places binding by same one = rw one at (told_is bits n x places binding by same)

pub told_zero : {A : Type 0} (bits n x : ℕ) (places : List (ValueRef A)) (binding : List (Option (Value ℕ))) → AreBoundBy bits n places → take n (told_from bits 0 places) ≡ binding → (bit_at bits x ≡ 1 → ⊥) → None ≡ bound_at binding x
told_zero bits n x places binding by same not_one = grind (arith, told_is bits n x places binding by same, bit_cases bits x)

-- what a variable is bound to is within the limits
pub bound_within : {A : Type 0} (bits n x : ℕ) (places : List (ValueRef A)) (binding : List (Option (Value ℕ))) → AreBoundBy bits n places → take n (told_from bits 0 places) ≡ binding → IfSome (bound_at binding x) (λ a. IsWithin a)
bound_within bits n x places binding by same =
    elim (bit_cases bits x) [
      | inl none ↦ subst (λ o. IfSome o (λ a. IsWithin a)) (told_zero bits n x places binding by same (λ one. omega (arith, none, one))) tt
      | inr one ↦ subst (λ o. IfSome o (λ a. IsWithin a)) (told_one bits n x places binding by same one) (known_limits by x one)
    ]

-- a place more is copied
pub copy_more : {A : Type 0} (i : ℕ) (places copies : List (ValueRef A)) (b : ValueRef A) → i < length copies → b ≡ slice_index_or places i filler → ((x : ℕ) → x < i → slice_index_or copies x filler ≡ slice_index_or places x filler) → (x : ℕ) → x < i + 1 → slice_index_or (slice_set copies i b) x filler ≡ slice_index_or places x filler
copy_more i places copies b within is before x below = grind (arith, cases_eq x i, before x, get_or-set_same copies i b filler within, get_or-set_other copies i x b filler)

-- places that are the same as far as there are variables
pub bound_copy : {A : Type 0} (bits n : ℕ) (places copies : List (ValueRef A)) (binding : List (Option (Value ℕ))) → AreBoundBy bits n places → take n (told_from bits 0 places) ≡ binding → length copies ≡ 24 → ((x : ℕ) → x < n → slice_index_or copies x filler ≡ slice_index_or places x filler) → AreBoundBy bits n copies × (take n (told_from bits 0 copies) ≡ binding)
bound_copy bits n places copies binding by same full at = (now, binds_as bits n copies binding now (length_binding bits n places binding by same) (λ x. alike x ∙ told_is bits n x places binding by same))
  where
    now : AreBoundBy bits n copies
    now = record { full = full; within = by.within; behind = by.behind; limits = λ x one. limits_known x copies (subst (λ c. IsWithin (said c)) (sym (at x (known_place by x one))) (known_limits by x one)) }

    alike : (x : ℕ) → told (bit_at bits x) (slice_index_or copies x filler) ≡ told (bit_at bits x) (slice_index_or places x filler)
    alike x = grind (arith, bit_cases bits x, by.behind x, at x)

-- a write at a variable's place
pub after_write : {A : Type 0} (bs slice : List (ValueRef A)) (x at : ℕ) (b : ValueRef A) → slice ≡ bs → at ≡ x → refill (length bs) bs (slice_set slice at b) ≡ slice_set bs x b
after_write bs slice x at b same there = ap₂ (λ s y. refill (length bs) bs (slice_set s y b)) same there ∙ take_at (slice_set bs x b) _ (length bs) (length-set bs x b)

pub bound_write : {A : Type 0} (bits new n x : ℕ) (places : List (ValueRef A)) (b : ValueRef A) → AreBoundBy bits n places → x < n → IsWithin (said b) → bit_at new x ≡ 1 → ((y : ℕ) → y ≢ x → bit_at new y ≡ bit_at bits y) → AreBoundBy new n (slice_set places x b)
bound_write bits new n x places b by lt limit here others = record {
  full = length-set places x b ∙ by.full;
  within = by.within;
  behind = λ y le. others y (λ e. omega (arith, e, le, lt)) ∙ by.behind y le;
  limits = λ y one. limits_known y (slice_set places x b) (elim (cases_eq y x) [
    | inl e ↦ subst (λ c. IsWithin (said c)) (sym (ap (λ z. slice_index_or (slice_set places x b) z filler) e ∙ get_or-set_same places x b filler (omega (arith, lt, has_room by)))) limit
    | inr ne ↦ subst (λ c. IsWithin (said c)) (sym (get_or-set_other places x y b filler ne)) (known_limits by y (sym (others y ne) ∙ one))
  ]);
}

pub told_write : {A : Type 0} (bits new n x : ℕ) (places : List (ValueRef A)) (b : ValueRef A) (binding : List (Option (Value ℕ))) (by : AreBoundBy bits n places) (same : take n (told_from bits 0 places) ≡ binding) (lt : x < n) (limit : IsWithin (said b)) (here : bit_at new x ≡ 1) (others : (y : ℕ) → y ≢ x → bit_at new y ≡ bit_at bits y) → take n (told_from new 0 (slice_set places x b)) ≡ slice_set binding x (Some (said b))
told_write bits new n x places b binding by same lt limit here others =
    let len = length_binding bits n places binding by same in
    let place : x < length places = omega (arith, lt, by.full, by.within) in
    binds_as new n (slice_set places x b) (slice_set binding x (Some (said b))) (bound_write bits new n x places b by lt limit here others) (length-set binding x (Some (said b)) ∙ len) (λ y.
    grind (arith, cases_eq y x, told_is bits n y places binding by same, others y, get_or-set_same places x b filler place, get_or-set_other places x y b filler, get_or-set_same binding x (Some (said b)) None, get_or-set_other binding x y (Some (said b)) None))

-- a value is put at a variable's place
pub put_at : {A : Type 0} (bits new n x at : ℕ) (places slice : List (ValueRef A)) (b : ValueRef A) (binding : List (Option (Value ℕ))) → AreBoundBy bits n places → take n (told_from bits 0 places) ≡ binding → x < length binding → slice ≡ places → at ≡ x → IsWithin (said b) → bit_at new x ≡ 1 → ((y : ℕ) → y ≢ x → bit_at new y ≡ bit_at bits y)
    → AreBoundBy new n (refill (length places) places (slice_set slice at b)) × (take n (told_from new 0 (refill (length places) places (slice_set slice at b))) ≡ slice_set binding x (Some (said b)))
put_at bits new n x at places slice b binding by same lt is there limit here others =
    let place = is_place bits n places binding x by same lt in
    rw (after_write places slice x at b is there) (bound_write bits new n x places b by place limit here others, told_write bits new n x places b binding by same place limit here others)

-- a binding is the least valuation that extends it
pub extends_itself : (binding : List (Option (Value ℕ))) → Extends (bound_at binding) binding
extends_itself binding x t at = at

-- a free variable is bound
pub told_new : (old : List (Option (Value ℕ))) (x : ℕ) (t : Value ℕ) → x < length old → bound_at old x ≡ None → NarrowsIf (λ v. v x ≡ Some t) true old (slice_set old x (Some t))
told_new old x t within free = record {
  places = length-set old x (Some t);
  exactly = λ v. (
    λ h. ((λ y a at. grind (arith, cases_eq y x, h y a, get_or-set_other old x y (Some t) None)), h x t (get_or-set_same old x (Some t) None within)),
    λ h y a at. grind (arith, cases_eq y x, h.0 y a, get_or-set_same old x (Some t) None within, get_or-set_other old x y (Some t) None),
  );
}

-- what is bound has one value, and stays bound
pub bound_settled : (binding : List (Option (Value ℕ))) (x : ℕ) (v : Valuation) → IsSome (bound_at binding x) → Extends v binding → v x ≡ bound_at binding x
bound_settled binding x v some extends = let t = some_is_some (bound_at binding x) some in extends x t.0 t.1 ∙ sym t.1

pub stays_bound : (P : Valuation → Type 0) (old new : List (Option (Value ℕ))) (x : ℕ) → Narrows P old new → IsSome (bound_at old x) → IsSome (bound_at new x)
stays_bound P old new x n some = subst (λ o. IsSome o) (sym (bound_settled old x (bound_at new) some ((n.exactly (bound_at new)).0 (extends_itself new)).0)) some

-- a variable is bound already
pub told_bound : (told : Bool) (old : List (Option (Value ℕ))) (x : ℕ) (t : Value ℕ) → IsSome (bound_at old x) → IsTrue told ↔ (bound_at old x ≡ Some t) → NarrowsIf (λ v. v x ≡ Some t) told old old
told_bound true old x t some means = record { places = refl; exactly = λ v. (λ h. (h, h x t (means.0 refl)), λ h. h.0) }
told_bound false old x t some means = λ v h e. let c : false ≡ true = means.1 (sym (bound_settled old x v some h) ∙ e) in absurd (cc)

-- one variable, or one term, after another
pub narrows_both : (P Q : Valuation → Type 0) (old mid new : List (Option (Value ℕ))) → Narrows P old mid → Narrows Q mid new → Narrows (λ v. P v × Q v) old new
narrows_both P Q old mid new p q = record {
  places = q.places ∙ p.places;
  exactly = λ v. (λ h. let m = (q.exactly v).0 h in let o = (p.exactly v).0 m.0 in (o.0, (o.1, m.1)), λ h. (q.exactly v).1 ((p.exactly v).1 (h.0, h.1.0), h.1.1));
}

-- under an equivalent condition
pub narrows_as : (P Q : Valuation → Type 0) (old new : List (Option (Value ℕ))) → ((v : Valuation) → P v ↔ Q v) → Narrows P old new → Narrows Q old new
narrows_as P Q old new e n = record {
  places = n.places;
  exactly = λ v. (λ h. let m = (n.exactly v).0 h in (m.0, (e v).0 m.1), λ h. (n.exactly v).1 (h.0, (e v).1 h.1));
}

pub narrows_nothing : (P : Valuation → Type 0) (old : List (Option (Value ℕ))) → ((v : Valuation) → P v) → Narrows P old old
narrows_nothing P old p = record { places = refl; exactly = λ v. (λ h. (h, p v), λ h. h.0) }

-- what is bound stays bound
pub keeps_itself : (binding : List (Option (Value ℕ))) → Keeps binding binding
keeps_itself binding = record { places = refl; extends = extends_itself binding }

pub keeps_both : (old mid new : List (Option (Value ℕ))) → Keeps old mid → Keeps mid new → Keeps old new
keeps_both old mid new k l = record { places = l.places ∙ k.places; extends = λ x t at. l.extends x t (k.extends x t at) }

pub narrows_keeps : (P : Valuation → Type 0) (old new : List (Option (Value ℕ))) → Narrows P old new → Keeps old new
narrows_keeps P old new n = record { places = n.places; extends = ((n.exactly (bound_at new)).0 (extends_itself new)).0 }

-- A binding that has kept another returns to it: the variables that the other binds are bound to the same.
pub returns_to : {A : Type 0} (bits known n : ℕ) (places : List (ValueRef A)) (binding before : List (Option (Value ℕ))) → AreBoundBy bits n places → take n (told_from bits 0 places) ≡ binding → ((x : ℕ) → (bit_at known x ≡ 1) ↔ IsSome (bound_at before x)) → Keeps before binding → AreBoundBy known n places × (take n (told_from known 0 places) ≡ before)
returns_to bits known n places binding before by same are k = (now, binds_as known n places before now (sym k.places ∙ length_binding bits n places binding by same) (λ x. each x (bit_cases known x)))
  where
    kept : (x : ℕ) → bit_at known x ≡ 1 → bound_at binding x ≡ bound_at before x
    kept x one = let t = some_is_some (bound_at before x) ((are x).0 one) in k.extends x t.0 t.1 ∙ sym t.1

    stays : (x : ℕ) → bit_at known x ≡ 1 → bit_at bits x ≡ 1
    stays x one = (known_bits bits n places binding by same x).1 (rw (kept x one) ((are x).0 one))

    now : AreBoundBy known n places
    now = record {
      full = by.full;
      within = by.within;
      behind = λ x le. grind (arith, bit_cases known x, by.behind x, stays x);
      limits = λ x one. by.limits x (stays x one);
    }

    each : (x : ℕ) → (bit_at known x ≡ 0) ⊎ (bit_at known x ≡ 1) → told (bit_at known x) (slice_index_or places x filler) ≡ bound_at before x
    each x (inl none) = grind (arith, are x)
    each x (inr one) = ap (λ b. told b (slice_index_or places x filler)) one ∙ told_one bits n x places binding by same (stays x one) ∙ kept x one

-- where there is none for a part there is none for the whole
pub none_after : (P Q R : Valuation → Type 0) (old mid : List (Option (Value ℕ))) → Narrows P old mid → NoneUnder Q mid → ((v : Valuation) → R v → P v × Q v) → NoneUnder R old
none_after P Q R old mid p n e v h r = let two = e v r in n v ((p.exactly v).1 (h, two.0)) two.1

-- all free
pub free_extends : (v : Valuation) (n : ℕ) → Extends v (replicate n None)
free_extends v n x t at = let c : None ≡ Some t = sym (free_at n x) ∙ at in absurd (cc)

-- a valuation but for one variable
abbrev changed : Valuation → ℕ → Option (Value ℕ) → Valuation
changed v x t y = if y == x then t else v y

-- where one variable is bound the others are as before
pub others_stay : (old new : List (Option (Value ℕ))) (x y : ℕ) (t : Value ℕ) → Narrows (λ v. v x ≡ Some t) old new → y ≢ x → bound_at new y ≡ bound_at old y
others_stay old new x y t n ne = grind (arith, nat_tests, least.0 y, there y)
  where
    least : Extends (bound_at new) old × (bound_at new x ≡ Some t)
    least = (n.exactly (bound_at new)).0 (extends_itself new)

    there : Extends (changed (bound_at old) x (Some t)) new
    there = (n.exactly (changed (bound_at old) x (Some t))).1 ((λ z a at. grind (arith, nat_tests, least.0 z a, least.1)), grind (arith, nat_tests))
