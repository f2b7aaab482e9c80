-- Rows and columns: trial by trial, and what they are up to a place.
use Rattle.std.proofs.Common.{◌≡◌, Bool, true, false, ◌==◌, ℕ, zero, suc, ◌+◌, ◌-◌, ◌<◌, ◌≤◌, List, [], ◌∷◌, ◌++◌, map, take, length, Some, get_or, slice_get, refl, sym, ◌∙◌, ap, subst, arith, Result, Ok, Err, IfOk, IfSome, Option, MatchOption, ◌↔◌, IsTrue}
use Rattle.chr_sheet.proofs.Words.{AllByRecursion, take_more, take-map, length-map, same_from_push, get_or-map, take_all, length_push, Placed, Trial, IsFormed, IsWholeUnder, at_heads, lengthened, trial_alone, Row, IsRow, trials_of, branch_trials, misfit, judged_part, AreMisfits, AreMisfitsUpTo, IsSettledAt, MustBeWhole, ⊤, heads_of, Simpagation, Misfit, Part, Whole, IsVerdict, IsSettledUnder, last_of, Head, Column, IsColumn, at_head, column_trials}
use Rattle.std.proofs.lemmas.Bool.Decides.{nat_tests}
use Rattle.std.proofs.lemmas.Option.{slice_get_read, slice_get_within, get_or_from_slice_get}
use Rattle.chr_guard.proofs.Steps.{all_at, all_more, all_push, read_there}
use Rattle.std.specs.Result.{result_ok}
use Rattle.chr_guard.specs.Settled.{Places, Marks, mark_of}
use Rattle.chr_search.specs.declared.judged.Verdict.{Verdict}
use Rattle.chr_search.proofs.Judging.{few_heads}
use Rattle.chr_value.specs.Atoms.{Atom}
use Rattle.chr_sheet.specs.declared.column.OneHead.{OneHead}

-- ---- rows, and what they are up to a place

abbrev pub row_of : Trial → List Placed → Row
row_of part lasts = record { part = part; lasts = lasts }

-- the labels before a place, and the one there
pub record IsCut (part : Trial) (r : Row) (n : ℕ) (before : List Placed) (last : Placed) : Type 0 where
  pub trials : trials_of (row_of part before) ≡ take n (trials_of r)
  pub trial : slice_get (trials_of r) n ≡ Some (lengthened part last)
  pub formed : IsFormed (lengthened part last)
  pub row : 1 ≤ length before → IsRow (row_of part before)

-- an image of an image, read at its place
pub image_at : {X Y Z : Type 0} (f : X → Y) (g : Y → Z) (xs : List X) (ys : List Y) (i : ℕ) (x : X) → map f xs ≡ ys → i < length xs → x ≡ get_or xs i x → (i < length (map g ys)) × (g (f x) ≡ get_or (map g ys) i (g (f x)))
image_at f g xs ys i x is h e =
    subst (λ zs. (i < length (map g zs)) × (g (f x) ≡ get_or (map g zs) i (g (f x)))) is
    (omega (arith, length-map (map f xs) g, length-map xs f), ap g (ap f e ∙ sym (get_or-map f xs i x (f x) h)) ∙ sym (get_or-map g (map f xs) i (f x) (g (f x)) (omega (arith, length-map xs f))))

-- the images before a place, and the one there
pub cut_images : {X Y Z : Type 0} (f : X → Y) (g : Y → Z) (xs ys : List X) (n : ℕ) (x : X) → n < length (map f xs) → take (n + 1) xs ≡ ys ++ x ∷ [] → (map g (map f ys) ≡ take n (map g (map f xs))) × (n < length (map g (map f xs))) × (g (f x) ≡ get_or (map g (map f xs)) n (g (f x)))
cut_images f g xs ys n x h e =
    let within : n < length xs = omega (arith, length-map xs f) in
    let parts = same_from_push ys (take n xs) x (get_or xs n x) (sym e ∙ take_more xs n x within) in
    let at = image_at f g xs (map f xs) n x refl within parts.1 in
    (ap (map g) (ap (map f) parts.0 ∙ sym (take-map f n xs)) ∙ sym (take-map g n (map f xs)), at.0, at.1)

cut_whole : {X : Type 0} (f : X → Placed) (part : Trial) (xs ys : List X) (n : ℕ) (x : X) → IsRow (row_of part (map f xs)) → n < length (map f xs) → take (n + 1) xs ≡ ys ++ x ∷ [] → IsCut part (row_of part (map f xs)) n (map f ys) (f x)
cut_whole f part xs ys n x r h e =
    let all : List Trial = trials_of (row_of part (map f xs)) in
    let cut = cut_images f (lengthened part) xs ys n x h e in
    let of = all_at IsFormed all n (lengthened part (f x)) cut.1 cut.2 r.formed in
    record {
      trials = cut.0;
      trial = slice_get_read all (length all) n (lengthened part (f x)) refl cut.1 cut.2;
      formed = of.1;
      row = λ some. record { part = r.part; some = some; full = r.full; formed = subst (AllByRecursion IsFormed) (sym cut.0) of.0 };
    }

pub cut : {X : Type 0} (f : X → Placed) (part : Trial) (xs ys : List X) (n : ℕ) (x : X) (r : Row) → row_of part (map f xs) ≡ r → IsRow (row_of part (map f xs)) → n < length r.lasts → take (n + 1) xs ≡ ys ++ x ∷ [] → IsCut part r n (map f ys) (f x)
cut f part xs ys n x r is w h e = subst (λ r. n < length r.lasts → IsCut part r n (map f ys) (f x)) is (λ k. cut_whole f part xs ys n x w k e) h

-- the first trial
pub first_of : {X : Type 0} (f : X → Placed) (r : Row) (xs : List X) (x : X) → map f xs ≡ r.lasts → 1 ≤ length r.lasts → x ≡ get_or xs 0 x → slice_get (trials_of r) 0 ≡ Some (lengthened r.part (f x))
first_of f r [] x is some e = absurd (omega (arith, ap length is))
first_of f r (y ∷ ys) x is some e = subst (λ ls. slice_get (map (lengthened r.part) ls) 0 ≡ Some (lengthened r.part (f x))) is (ap (λ z. Some (lengthened r.part (f z))) (sym e))

-- whether there are labels, told by their number
pub told_some : {X : Type 0} (f : X → Placed) (xs : List X) (len : ℕ) (told : Bool) → told ≡ (len == 0) → told ≡ false → length xs ≡ len → 1 ≤ length (map f xs)
told_some f [] len told e is count = absurd (grind (arith, nat_tests))
told_some f (x ∷ xs) len told e is count = omega arith

-- no label, and so no trial
pub none_before : {X : Type 0} (f : X → Placed) (part : Trial) (xs : List X) (len : ℕ) (told : Bool) → told ≡ (len == 0) → told ≡ true → length xs ≡ len → [] ≡ trials_of (row_of part (map f xs))
none_before f part [] len told e is count = refl
none_before f part (x ∷ xs) len told e is count = absurd (grind (arith, nat_tests))

-- what is kept before a place is judged as all are up to it
pub judged_row : (ts before : List Trial) (n : ℕ) → before ≡ take n ts → map misfit before ≡ take n (map misfit ts)
judged_row ts before n e = ap (map misfit) e ∙ sym (take-map misfit n ts)

pub judged_branch : (r : Row) (before : List Trial) (n : ℕ) → 1 ≤ n → before ≡ take (n - 1) (trials_of r) → judged_part r.part ∷ map misfit before ≡ take n (judged_part r.part ∷ map misfit (trials_of r))
judged_branch r before zero some e = absurd (omega arith)
judged_branch r before (suc n) some e = ap (λ js. judged_part r.part ∷ js) (judged_row (trials_of r) before n (e ∙ ap (λ k. take k (trials_of r)) (let z : suc n - 1 ≡ n = omega arith in z)))

pub branch_there : (r : Row) (n : ℕ) (t : Trial) → 1 ≤ n → slice_get (trials_of r) (n - 1) ≡ Some t → slice_get (branch_trials r) n ≡ Some t
branch_there r zero t some e = absurd (omega arith)
branch_there r (suc n) t some e = subst (λ k. slice_get (trials_of r) k ≡ Some t) (let z : suc n - 1 ≡ n = omega arith in z) e

-- ---- rows, trial by trial

pub trials_count : {X : Type 0} (f : X → Placed) (r : Row) (xs : List X) → map f xs ≡ r.lasts → length (trials_of r) ≡ length xs
trials_count f r xs e = length-map r.lasts (lengthened r.part) ∙ ap length (sym e) ∙ length-map xs f

none_there : (ts : List Trial) (n : ℕ) (P : Trial → Type 0) → length ts ≤ n → MatchOption (slice_get ts n) ⊤ P
none_there [] n P h = tt
none_there (t ∷ ts) zero P h = absurd (omega arith)
none_there (t ∷ ts) (suc n) P h = none_there ts n P (omega arith)

-- all of them are misfits, or all before one
pub all_up_to : (ts : List Trial) (n : ℕ) → length ts ≡ n → AreMisfits ts → AreMisfitsUpTo ts n
all_up_to ts n count a = record {
  few = omega arith;
  misfits = subst AreMisfits (sym (take_all n ts (omega arith))) a;
  next = none_there ts n MustBeWhole (omega arith);
}

pub taken_up_to : (ts : List Trial) (i n : ℕ) → length ts ≤ i → length ts ≡ n → AreMisfits (take i ts) → AreMisfitsUpTo ts n
taken_up_to ts i n all count a = all_up_to ts n count (subst AreMisfits (take_all i ts all) a)

-- with all heads, what isn't a misfit is whole
is_whole : (t : Trial) (v : Verdict) → length t.placed ≡ length (heads_of t.rule) → (IsVerdict t Misfit → ⊥) → IsVerdict t v → v ≡ Whole
is_whole t Whole full not is = refl
is_whole t Part full not is = absurd (omega (arith, is.left))
is_whole t Misfit full not is = absurd (not is)

pub must_be_whole : (t : Trial) → IsVerdict t Whole → MustBeWhole t
must_be_whole t w v is = is_whole t v w.full (λ m. m.0 w) is

-- it is told of a trial whether it is a misfit
pub record IsTold (ts : List Trial) (i : ℕ) (t : Trial) (told : Bool) (binding : Places) : Type 0 where
  pub within : i < length ts
  pub there : t ≡ get_or ts i t
  pub full : length t.placed ≡ length (heads_of t.rule)
  pub means : IsTrue told ↔ IsVerdict t Misfit
  pub whole : told ≡ false → IsWholeUnder t binding

-- where it is the first one that isn't, this is kept of its binding
pub told_up_to : {ts : List Trial} {i : ℕ} {t : Trial} {told : Bool} {binding : Places} → IsTold ts i t told binding → told ≡ false → AreMisfits (take i ts) → AreMisfitsUpTo ts i
told_up_to {ts} {i} {t} is isnt a = record {
  few = (let within = is.within in omega arith);
  misfits = a;
  next = subst (λ o. MatchOption o ⊤ MustBeWhole) (sym (slice_get_read ts (length ts) i t refl is.within is.there)) (λ v. is_whole t v is.full (λ m. let unfit = is.means.1 m in absurd (cc)));
}

pub told_settled : {E : Type 0} {ts : List Trial} {i : ℕ} {t : Trial} {told : Bool} {binding : Places} (kept : Option Marks) (r : Result Marks E) → IsTold ts i t told binding → told ≡ false → IfOk r (λ marks. marks ≡ map mark_of binding) → kept ≡ result_ok r → IfSome kept (IsSettledAt ts i)
told_settled {E} {ts} {i} kept (Err e) known isnt is same = subst (λ o. IfSome o (IsSettledAt ts i)) (sym same) tt
told_settled {E} {ts} {i} {t} {told} {binding} kept (Ok marks) known isnt is same =
    subst (λ o. IfSome o (IsSettledAt ts i)) (sym same)
    (subst (λ o. MatchOption o ⊥ (λ u. IsSettledUnder u marks)) (sym (slice_get_read ts (length ts) i t refl known.within known.there)) (record { binding = binding; under = known.whole isnt; settled = is }))

pub told_more : {ts : List Trial} {i : ℕ} {t : Trial} {told : Bool} {binding : Places} → IsTold ts i t told binding → IsTrue told → AreMisfits (take i ts) → AreMisfits (take (i + 1) ts)
told_more {ts} {i} {t} is unfit a = (all_more (λ t. IsVerdict t Misfit) ts i t is.within is.there).1 (a, is.means.0 unfit)

-- where a part doesn't fit, no trial does that it begins
pub all_unfit : (part : Trial) (lasts : List Placed) → ((p : Placed) → IsFormed (lengthened part p) → IsVerdict (lengthened part p) Misfit) → AllByRecursion IsFormed (map (lengthened part) lasts) → AllByRecursion (λ t. IsVerdict t Misfit) (map (lengthened part) lasts)
all_unfit part [] f a = tt
all_unfit part (p ∷ ps) f a = (f p a.0, all_unfit part ps f a.1)

pub trials_step : {X : Type 0} (f : X → Placed) (r : Row) (xs : List X) (i : ℕ) (x : X) → map f xs ≡ r.lasts → i < length xs → x ≡ get_or xs i x → take (i + 1) (trials_of r) ≡ take i (trials_of r) ++ lengthened r.part (f x) ∷ []
trials_step f r xs i x lasts h e =
    let at = image_at f (lengthened r.part) xs r.lasts i x lasts h e in
    take_more (trials_of r) i (lengthened r.part (f x)) at.0 ∙ ap (λ y. take i (trials_of r) ++ y ∷ []) (sym at.1)

-- what holds of a row's trials and labels
pub formed_there : {X : Type 0} (f : X → Placed) (r : Row) (xs : List X) (i : ℕ) (x : X) → IsRow r → map f xs ≡ r.lasts → i < length xs → x ≡ get_or xs i x → IsFormed (lengthened r.part (f x))
formed_there f r xs i x row lasts h e =
    let at = image_at f (lengthened r.part) xs r.lasts i x lasts h e in
    (all_at IsFormed (trials_of r) i (lengthened r.part (f x)) at.0 at.1 row.formed).1

pub label_low : (part : Trial) (p : Placed) → IsFormed (lengthened part p) → p.label ≤ 4294967295
label_low part p formed = ((all_push (λ (q : Placed). (1 ≤ q.head) × (q.head ≤ length (heads_of part.rule)) × (q.label ≤ 4294967295)) part.placed p).0 formed.within).1.2

pub part_few : (r : Row) → IsRow r → length r.part.placed ≤ 5
part_few r row = few r.lasts row.some row.formed
  where
    few : (lasts : List Placed) → 1 ≤ length lasts → AllByRecursion IsFormed (map (lengthened r.part) lasts) → length r.part.placed ≤ 5
    few [] some formed = absurd (omega arith)
    few (p ∷ ps) some formed = omega (arith, few_heads r.part.rule formed.0.scoped, row.full)

-- ---- columns, and what they are up to a place

abbrev pub column_of : Trial → List Head → Column
column_of t os = record { first = t; more = os }

-- the only label of a trial
pub only_placed : (ps : List Placed) → length ps ≡ 1 → (p : Placed) × (ps ≡ p ∷ [])
only_placed (p ∷ []) e = (p, refl)
only_placed ps e = absurd (omega arith)

pub only_read : {X : Type 0} (f : X → Placed) (xs : List X) (x : X) (ps : List Placed) → map f xs ≡ ps → length ps ≡ 1 → x ≡ get_or xs 0 x → ps ≡ f x ∷ []
only_read f (y ∷ []) x ps e one is = sym e ∙ ap (λ z. f z ∷ []) (sym is)
only_read f xs x ps e one is = absurd (omega (arith, ap length e))

-- the trial of one label, at another head
pub at_head_alone : (t : Trial) (o : Head) (p : Placed) (atom : Atom ℕ) → t.placed ≡ p ∷ [] → atom ≡ p.atom → at_head t o ≡ trial_alone o.rule o.number (record { head = o.head; label = p.label; atom = atom })
at_head_alone t o p atom e is =
    ap (λ (ps : List Placed). record { rule = o.rule; number = o.number; head = o.head; placed = map (λ (p : Placed). record p { head = o.head }) ps }) e
    ∙ ap (λ a. trial_alone o.rule o.number (record { head = o.head; label = p.label; atom = a })) (sym is)

-- the trials before one that isn't the first, and that one
pub record IsCutAt (t : Trial) (c : Column) (n : ℕ) (before : List Head) (last : Head) : Type 0 where
  pub trials : column_trials (column_of t before) ≡ take n (column_trials c)
  pub trial : slice_get (column_trials c) n ≡ Some (at_head t last)
  pub formed : IsFormed (at_head t last)
  pub full : length (heads_of last.rule) ≡ 1
  pub column : IsColumn (column_of t before)

column_cut : {X : Type 0} (f : X → Head) (t : Trial) (xs ys : List X) (n : ℕ) (x : X) → IsColumn (column_of t (map f xs)) → n ≤ length (map f xs) → take n xs ≡ ys ++ x ∷ [] → IsCutAt t (column_of t (map f xs)) n (map f ys) (f x)
column_cut f t xs ys zero x w h e = absurd (let none : 0 ≡ length (ys ++ x ∷ []) = ap length e in omega (arith, length_push ys x))
column_cut f t xs ys (suc k) x w h e =
    let g : Head → Trial = at_head t in
    let all : List Trial = column_trials (column_of t (map f xs)) in
    let cut = cut_images f g xs ys k x (omega arith) (ap (λ n. take n xs) (let z : k + 1 ≡ suc k = omega arith in z) ∙ e) in
    let trials : column_trials (column_of t (map f ys)) ≡ take (suc k) all = ap (λ ts. t ∷ ts) cut.0 in
    let here : suc k < length all = omega (arith, cut.1) in
    let formed = all_at IsFormed all (suc k) (g (f x)) here cut.2 w.formed in
    let full = all_at (λ (u : Trial). length (heads_of u.rule) ≡ 1) all (suc k) (g (f x)) here cut.2 w.full in
    record {
      trials = trials;
      trial = slice_get_read all (length all) (suc k) (g (f x)) refl here cut.2;
      formed = formed.1;
      full = full.1;
      column = record {
        alone = w.alone;
        full = subst (AllByRecursion (λ (u : Trial). length (heads_of u.rule) ≡ 1)) (sym trials) full.0;
        formed = subst (AllByRecursion IsFormed) (sym trials) formed.0;
      };
    }

pub cut_column : {X : Type 0} (f : X → Head) (t : Trial) (xs ys : List X) (n : ℕ) (x : X) (c : Column) → column_of t (map f xs) ≡ c → IsColumn (column_of t (map f xs)) → n ≤ length c.more → take n xs ≡ ys ++ x ∷ [] → IsCutAt t c n (map f ys) (f x)
cut_column f t xs ys n x c is w h e = subst (λ c. n ≤ length c.more → IsCutAt t c n (map f ys) (f x)) is (λ k. column_cut f t xs ys n x w k e) h

-- the last of the trials
pub last_at : {X : Type 0} (f : X → Trial) (t : Trial) (xs : List X) (i : ℕ) (x : X) → i + 1 ≡ length xs → x ≡ get_or xs i x → f x ≡ last_of t (map f xs)
last_at f t (y ∷ []) zero x count e = ap f e
last_at f t (y ∷ z ∷ xs) (suc i) x count e = last_at f (f y) (z ∷ xs) i x (omega arith) e
last_at f t xs i x count e = absurd (omega arith)

pub last_is : {X : Type 0} (f : X → Head) (t : Trial) (xs ys : List X) (x : X) (c : Column) → column_of t (map f xs) ≡ c → ys ≡ xs → Some x ≡ slice_get ys (length ys - 1) → at_head c.first (f x) ≡ last_of c.first (map (at_head c.first) c.more)
last_is f t xs ys x c is same e =
    let read : slice_get xs (length xs - 1) ≡ Some x = subst (λ zs. slice_get zs (length zs - 1) ≡ Some x) same (sym e) in
    let within : length xs - 1 < length xs = slice_get_within xs (length xs - 1) x read in
    subst (λ c. at_head c.first (f x) ≡ last_of c.first (map (at_head c.first) c.more)) is (last_at (at_head t) t (map f xs) (length xs - 1) (f x) (omega (arith, length-map xs f)) (ap f (sym (get_or_from_slice_get xs (length xs - 1) x x read)) ∙ sym (get_or-map f xs (length xs - 1) x (f x) within)))

-- ---- columns, trial by trial

-- a head that is kept, by its index
abbrev pub kept_at : List OneHead → ℕ → OneHead
kept_at xs i = get_or xs i (record { number = 0; head = 0 })

pub kept_there : (xs : List OneHead) (i : ℕ) → i < length xs → kept_at xs i ≡ get_or xs i (kept_at xs i)
kept_there xs i h = read_there xs i (record { number = 0; head = 0 }) h

pub column_count : {X : Type 0} (f : X → Head) (c : Column) (xs : List X) → map f xs ≡ c.more → length (column_trials c) ≡ length xs + 1
column_count f c xs e = omega (arith, length-map c.more (at_head c.first), ap length e, length-map xs f)

-- a trial at its place
head_at : {X : Type 0} (f : X → Head) (c : Column) (xs : List X) (i : ℕ) (x : X) → map f xs ≡ c.more → i < length xs → x ≡ get_or xs i x → (i + 1 < length (column_trials c)) × (at_head c.first (f x) ≡ get_or (column_trials c) (i + 1) (at_head c.first (f x)))
head_at f c xs i x more h e =
    let at = image_at f (at_head c.first) xs c.more i x more h e in
    (omega (arith, at.0), subst (λ n. at_head c.first (f x) ≡ get_or (column_trials c) n (at_head c.first (f x))) (let z : suc i ≡ i + 1 = omega arith in z) at.1)

-- what holds of the trial of a head
pub record IsColumnTrial (t : Trial) : Type 0 where
  pub formed : IsFormed t
  pub full : length (heads_of t.rule) ≡ 1

pub first_trial : (c : Column) → IsColumn c → IsColumnTrial c.first
first_trial c w = record { formed = w.formed.0; full = w.full.0 }

pub other_trial : {X : Type 0} (f : X → Head) (c : Column) (xs : List X) (i : ℕ) (x : X) → IsColumn c → map f xs ≡ c.more → i < length xs → x ≡ get_or xs i x → IsColumnTrial (at_head c.first (f x))
other_trial f c xs i x w more h e =
    let t : Trial = at_head c.first (f x) in
    let at = head_at f c xs i x more h e in
    record { formed = (all_at IsFormed (column_trials c) (i + 1) t at.0 at.1 w.formed).1; full = (all_at (λ (t : Trial). length (heads_of t.rule) ≡ 1) (column_trials c) (i + 1) t at.0 at.1 w.full).1 }

-- the trials up to a head, and the one there
pub column_step : {X : Type 0} (f : X → Head) (c : Column) (xs : List X) (i : ℕ) (x : X) → map f xs ≡ c.more → i < length xs → x ≡ get_or xs i x → take (i + 1 + 1) (column_trials c) ≡ take (i + 1) (column_trials c) ++ at_head c.first (f x) ∷ []
column_step f c xs i x more h e =
    let at = head_at f c xs i x more h e in
    take_more (column_trials c) (i + 1) (at_head c.first (f x)) at.0 ∙ ap (λ y. take (i + 1) (column_trials c) ++ y ∷ []) (sym at.1)

pub other_placed : (t : Trial) (p : Placed) (h : Head) → t.placed ≡ p ∷ [] → (at_head t h).placed ≡ record p { head = h.head } ∷ []
other_placed t p h e = ap (map (λ (q : Placed). record q { head = h.head })) e

-- ---- whether they are misfits

first_heads : (t : Trial) (p : Placed) → t.placed ≡ p ∷ [] → at_heads t ≡ (p.head, p.atom) ∷ []
first_heads t p e = ap (map (λ (q : Placed). (q.head, q.atom))) e

other_heads : (t : Trial) (p : Placed) (h : Head) → t.placed ≡ p ∷ [] → at_heads (at_head t h) ≡ (h.head, p.atom) ∷ []
other_heads t p h e = ap (λ ps. map (λ (q : Placed). (q.head, q.atom)) (map (λ (q : Placed). record q { head = h.head }) ps)) e

other_full : (t : Trial) (h : Head) → length t.placed ≡ 1 → length (heads_of h.rule) ≡ 1 → length (at_head t h).placed ≡ length (heads_of h.rule)
other_full t h one full = length-map t.placed (λ (p : Placed). record p { head = h.head }) ∙ one ∙ sym full

-- by its rule and its label's atom at the head
abbrev pub IsToldAlone : Simpagation ℕ → ℕ → Atom ℕ → Bool → Places → Type 0
IsToldAlone rule head atom told binding = (t : Trial) → t.rule ≡ rule → at_heads t ≡ (head, atom) ∷ [] → IsFormed t → (IsTrue told ↔ IsVerdict t Misfit) × (told ≡ false → IsWholeUnder t binding)

pub first_told : (c : Column) (p : Placed) (rule : Simpagation ℕ) (told : Bool) (binding : Places) → IsColumn c → c.first.placed ≡ p ∷ [] → rule ≡ c.first.rule → IsToldAlone rule p.head p.atom told binding → IsTold (column_trials c) 0 c.first told binding
first_told c p rule told binding w one is tell = record {
  within = omega arith;
  there = refl;
  full = w.alone ∙ sym w.full.0;
  means = (tell c.first (sym is) (first_heads c.first p one) w.formed.0).0;
  whole = (tell c.first (sym is) (first_heads c.first p one) w.formed.0).1;
}

pub other_told : {X : Type 0} (f : X → Head) (c : Column) (xs : List X) (i : ℕ) (x : X) (p : Placed) (rule : Simpagation ℕ) (told : Bool) (binding : Places) → IsColumn c → map f xs ≡ c.more → i < length xs → x ≡ get_or xs i x → c.first.placed ≡ p ∷ [] → rule ≡ (f x).rule → IsToldAlone rule (f x).head p.atom told binding → IsTold (column_trials c) (i + 1) (at_head c.first (f x)) told binding
other_told f c xs i x p rule told binding w more h e one is tell =
    let t = other_trial f c xs i x w more h e in
    let at = head_at f c xs i x more h e in
    record {
      within = at.0;
      there = at.1;
      full = other_full c.first (f x) w.alone t.full;
      means = (tell (at_head c.first (f x)) (sym is) (other_heads c.first p (f x) one) t.formed).0;
      whole = (tell (at_head c.first (f x)) (sym is) (other_heads c.first p (f x) one) t.formed).1;
    }
