-- What is kept, in several places and in one more, judged in order and read on.
use Rattle.std.proofs.Common.{◌≡◌, ◌≢◌, ℕ, zero, suc, ◌+◌, ◌<◌, ◌≤◌, List, [], ◌∷◌, ◌++◌, length, length-append, map, take, get_or, append_assoc, refl, sym, ◌∙◌, ap, arith, Bool, true, false, Some, MatchOption, slice_get, slice_set, None, subst, inl, inr, ⊎_elim, drop, ◌↔◌, ◌-◌}
use Rattle.chr_sheet.proofs.Words.{AllByRecursion, append-nil, take_more, length-map, take-map, take-append-drop, Whole, Trial, column_trials, trials_at, trials_in, marked_verdict, judged_at, judged_in, trials_of, misfit, Row, IsRow, judged_part, branch_trials, take_all, same_from_push, AreMisfits, AreRight, MustBeWhole, ⊤, Judgement, IsVerdict, AreJudgedInOrder, AreNext, AreNextTogether, Space}
use Rattle.chr_sheet.specs.declared.trials.Trials.{Trials as CodeTrials}
use Rattle.chr_value.proofs.Chosen.{some_is}
use Rattle.chr_sheet.specs.declared.trials.Trials.TheVariants as some
use Rattle.chr_sheet.specs.Rows.{IsJudgedSheet}
use Rattle.std.proofs.lemmas.List.{set_split, take_more_set}
use Rattle.std.proofs.Math.Seq.{split_at}

-- ---- what is kept in several places, and in one more

trials_both : {Z : Type 0} (xs ys : List (CodeTrials Z)) → trials_in (xs ++ ys) ≡ trials_in xs ++ trials_in ys
trials_both [] ys = refl
trials_both (x ∷ xs) ys = ap (λ ts. trials_at x ++ ts) (trials_both xs ys) ∙ sym (append_assoc (trials_at x) (trials_in xs) (trials_in ys))

trials_more : {Z : Type 0} (xs : List (CodeTrials Z)) (x : CodeTrials Z) → trials_in (xs ++ x ∷ []) ≡ trials_in xs ++ trials_at x
trials_more xs x = trials_both xs (x ∷ []) ∙ ap (λ ts. trials_in xs ++ ts) (append-nil (trials_at x))

judged_more : {Z : Type 0} (xs : List (CodeTrials Z)) (x : CodeTrials Z) → judged_in (xs ++ x ∷ []) ≡ judged_in xs ++ judged_at x
judged_more [] x = append-nil (judged_at x)
judged_more (y ∷ xs) x = ap (λ js. judged_at y ++ js) (judged_more xs x) ∙ sym (append_assoc (judged_at y) (judged_in xs) (judged_at x))

pub trials_counted : {Z : Type 0} (xs : List (CodeTrials Z)) (i : ℕ) (x : CodeTrials Z) (before here : ℕ) → i < length xs → x ≡ get_or xs i x → before ≡ length (trials_in (take i xs)) → here ≡ length (trials_at x) → before + here ≡ length (trials_in (take (i + 1) xs))
trials_counted xs i x before here h e b k =
    let more = take_more xs i x h ∙ ap (λ y. take i xs ++ y ∷ []) (sym e) in
    omega (arith, ap (λ ys. length (trials_in ys)) more, ap length (trials_more (take i xs) x), length-append (trials_in (take i xs)) (trials_at x))

pub judged_pushed : {Z : Type 0} (xs new : List (CodeTrials Z)) (x : CodeTrials Z) → new ≡ xs ++ x ∷ [] → judged_in new ≡ judged_in xs ++ judged_at x
judged_pushed xs new x e = ap judged_in e ∙ judged_more xs x

trials_cut : {Z : Type 0} (all before after : List (CodeTrials Z)) (x : CodeTrials Z) → all ≡ before ++ x ∷ after → trials_in all ≡ (trials_in before ++ trials_at x) ++ trials_in after
trials_cut all before after x e = ap trials_in e ∙ trials_both before (x ∷ after) ∙ sym (append_assoc (trials_in before) (trials_at x) (trials_in after))

-- ---- counted

pub judged_count : {Z : Type 0} (x : CodeTrials Z) → length (judged_at x) ≡ length (trials_at x)
judged_count (some.One t) = refl
judged_count (some.Row r) = length-map (trials_of r) misfit
judged_count (some.Branch r) = ap suc (length-map (trials_of r) misfit)
judged_count (some.Column c) = length-map (column_trials c) misfit

judged_length : {Z : Type 0} (x : CodeTrials Z) (xs : List (CodeTrials Z)) → length (judged_in (x ∷ xs)) ≡ length (judged_at x) + length (judged_in xs)
judged_length x xs = length-append (judged_at x) (judged_in xs)

pub judged_front : {Z : Type 0} (xs : List (CodeTrials Z)) (n : ℕ) → length (judged_in (take n xs)) ≤ length (judged_in xs)
judged_front (x ∷ xs) (suc n) = omega (arith, judged_front xs n, judged_length x xs, judged_length x (take n xs))
judged_front [] (suc n) = omega arith
judged_front xs zero = omega arith

pub judged_step : {Z : Type 0} (xs : List (CodeTrials Z)) (i : ℕ) (x : CodeTrials Z) → i < length xs → x ≡ get_or xs i x → judged_in (take (i + 1) xs) ≡ judged_in (take i xs) ++ judged_at x
judged_step xs i x h e = judged_pushed (take i xs) (take (i + 1) xs) x (take_more xs i x h ∙ ap (λ y. take i xs ++ y ∷ []) (sym e))

pub judged_counted : {Z : Type 0} (xs : List (CodeTrials Z)) (i : ℕ) (x : CodeTrials Z) → i < length xs → x ≡ get_or xs i x → length (judged_in (take (i + 1) xs)) ≡ length (judged_in (take i xs)) + length (judged_at x)
judged_counted xs i x h e = ap length (judged_step xs i x h e) ∙ length-append (judged_in (take i xs)) (judged_at x)

pub judged_within : {Z : Type 0} (xs : List (CodeTrials Z)) (i : ℕ) (x : CodeTrials Z) → i < length xs → x ≡ get_or xs i x → length (judged_in (take i xs)) + length (judged_at x) ≤ length (judged_in xs)
judged_within xs i x h e = omega (arith, judged_front xs (i + 1), judged_counted xs i x h e)

-- none of those that are kept in one place is whole
misfits_other : (ts : List Trial) → AllByRecursion (λ j. j.verdict ≢ Whole) (map misfit ts)
misfits_other [] = tt
misfits_other (t ∷ ts) = (λ e. absurd (cc), misfits_other ts)

other_marked : (told : Bool) → marked_verdict told ≢ Whole
other_marked true = λ e. absurd (cc)
other_marked false = λ e. absurd (cc)

none_whole : {Z : Type 0} (x : CodeTrials Z) → AllByRecursion (λ j. j.verdict ≢ Whole) (judged_at x)
none_whole (some.One s) = (other_marked s.is_misfit, tt)
none_whole (some.Row r) = misfits_other (trials_of r)
none_whole (some.Branch r) = (λ e. absurd (cc), misfits_other (trials_of r))
none_whole (some.Column c) = misfits_other (column_trials c)

-- ---- some and then others

pub all_both : {X : Type 0} (P : X → Type 0) (xs ys : List X) → AllByRecursion P (xs ++ ys) ↔ (AllByRecursion P xs × AllByRecursion P ys)
all_both P [] ys = (λ a. (tt, a), λ a. a.1)
all_both P (x ∷ xs) ys =
    let rest = all_both P xs ys in
    (λ a. let r = rest.0 a.1 in ((a.0, r.0), r.1), λ a. (a.0.0, rest.1 (a.0.1, a.1)))

-- what holds of all that are kept holds of those in each place
pub all_here : {Z : Type 0} (P : Judgement → Type 0) (xs : List (CodeTrials Z)) (i : ℕ) (x : CodeTrials Z) → i < length xs → x ≡ get_or xs i x → AllByRecursion P (judged_in xs) → AllByRecursion P (judged_at x)
all_here P [] i x h e a = absurd (omega arith)
all_here P (y ∷ xs) zero x h e a = subst (λ z. AllByRecursion P (judged_at z)) (sym e) ((all_both P (judged_at y) (judged_in xs)).0 a).0
all_here P (y ∷ xs) (suc i) x h e a = all_here P xs i x (omega arith) e ((all_both P (judged_at y) (judged_in xs)).0 a).1

both_in_order : (ts us : List Trial) (js ks : List Judgement) → AreJudgedInOrder ts js → AllByRecursion (λ j. j.verdict ≢ Whole) js → AreJudgedInOrder us ks → AreJudgedInOrder (ts ++ us) (js ++ ks)
both_in_order ts us [] ks a n b = subst (λ (z : List Trial). AreJudgedInOrder (z ++ us) ks) (sym a) b
both_in_order [] us (j ∷ js) ks a n b = absurd a
both_in_order (t ∷ ts) us (j ∷ js) ks a n b = (a.0, ⊎_elim (λ w. absurd (n.0 w.0)) (λ m. inr (m.0, both_in_order ts us js ks m.1 n.1 b)) a.1)

-- a whole one is the last, whatever trials come after it
past_whole : (ts us : List Trial) (js : List Judgement) (w : Judgement) → AreJudgedInOrder ts (js ++ w ∷ []) → w.verdict ≡ Whole → AreJudgedInOrder (ts ++ us) (js ++ w ∷ [])
past_whole (t ∷ ts) us [] w a h = (a.0, ⊎_elim (λ m. inl m) (λ m. absurd (m.0 h)) a.1)
past_whole (t ∷ ts) us (j ∷ js) w a h = (a.0, ⊎_elim (λ m. inl m) (λ m. inr (m.0, past_whole ts us js w m.1 h)) a.1)
past_whole [] us [] w a h = absurd a
past_whole [] us (j ∷ js) w a h = absurd a

-- ---- misfits

misfits_in_order : (ts : List Trial) → AreJudgedInOrder ts (map misfit ts)
misfits_in_order [] = refl
misfits_in_order (t ∷ ts) = (refl, inr (λ e. absurd (cc), misfits_in_order ts))

-- ---- trials that are kept together, where none is whole

kept_in_order : {Z : Type 0} (x : CodeTrials Z) → AreJudgedInOrder (trials_at x) (judged_at x)
kept_in_order (some.One s) = (refl, inr (other_marked s.is_misfit, refl))
kept_in_order (some.Row r) = misfits_in_order (trials_of r)
kept_in_order (some.Branch r) = (refl, inr (λ e. absurd (cc), misfits_in_order (trials_of r)))
kept_in_order (some.Column c) = misfits_in_order (column_trials c)

-- and in several places
none_whole_in : {Z : Type 0} (xs : List (CodeTrials Z)) → AllByRecursion (λ j. j.verdict ≢ Whole) (judged_in xs)
none_whole_in [] = tt
none_whole_in (x ∷ xs) = (all_both (λ (j : Judgement). j.verdict ≢ Whole) (judged_at x) (judged_in xs)).1 (none_whole x, none_whole_in xs)

pub all_in_order : {Z : Type 0} (xs : List (CodeTrials Z)) → AreJudgedInOrder (trials_in xs) (judged_in xs)
all_in_order [] = refl
all_in_order (x ∷ xs) = both_in_order (trials_at x) (trials_in xs) (judged_at x) (judged_in xs) (kept_in_order x) (none_whole x) (all_in_order xs)

all_front : {X : Type 0} (P : X → Type 0) (xs : List X) (n : ℕ) → AllByRecursion P xs → AllByRecursion P (take n xs)
all_front P xs n a = ((all_both P (take n xs) (drop n xs)).0 (subst (AllByRecursion P) (sym (take-append-drop n xs)) a)).0

-- up to one that is whole
cut_in_order : (ts : List Trial) (js : List Judgement) (n : ℕ) (w : Judgement) → AreJudgedInOrder ts js → AllByRecursion (λ j. j.verdict ≢ Whole) js → slice_get ts n ≡ Some w.trial → w.verdict ≡ Whole → AreJudgedInOrder ts (take n js ++ w ∷ [])
cut_in_order [] js n w a o e h = absurd (cc)
cut_in_order (t ∷ ts) js zero w a o e h = (sym (some_is t w.trial e), inl (h, refl))
cut_in_order (t ∷ ts) [] (suc n) w a o e h = absurd (cc)
cut_in_order (t ∷ ts) (j ∷ js) (suc n) w a o e h = (a.0, ⊎_elim (λ m. absurd (o.0 m.0)) (λ m. inr (m.0, cut_in_order ts js n w m.1 o.1 e h)) a.1)

-- Those that are kept up to a place, and there up to a trial that is whole: they are judged in order, whatever comes after it.
whole_in_place : {Z : Type 0} (all before after : List (CodeTrials Z)) (x : CodeTrials Z) (n : ℕ) (w : Judgement) → all ≡ before ++ x ∷ after → slice_get (trials_at x) n ≡ Some w.trial → w.verdict ≡ Whole → AreJudgedInOrder (trials_in all) ((judged_in before ++ take n (judged_at x)) ++ w ∷ [])
whole_in_place all before after x n w e at h =
    let here = cut_in_order (trials_at x) (judged_at x) n w (kept_in_order x) (none_whole x) at h in
    let front = both_in_order (trials_in before) (trials_at x) (judged_in before) (take n (judged_at x) ++ w ∷ []) (all_in_order before) (none_whole_in before) here in
    let joined = subst (AreJudgedInOrder (trials_in before ++ trials_at x)) (sym (append_assoc (judged_in before) (take n (judged_at x)) (w ∷ []))) front in
    subst (λ (ts : List Trial). AreJudgedInOrder ts ((judged_in before ++ take n (judged_at x)) ++ w ∷ [])) (sym (trials_cut all before after x e))
    (past_whole (trials_in before ++ trials_at x) (trials_in after) (judged_in before ++ take n (judged_at x)) w joined h)

others_there : {Z : Type 0} (before : List (CodeTrials Z)) (x : CodeTrials Z) (n : ℕ) → AllByRecursion (λ j. j.verdict ≢ Whole) (judged_in before ++ take n (judged_at x))
others_there before x n = (all_both (λ (j : Judgement). j.verdict ≢ Whole) (judged_in before) (take n (judged_at x))).1 (none_whole_in before, all_front (λ (j : Judgement). j.verdict ≢ Whole) (judged_at x) n (none_whole x))

misfits_right : (ts : List Trial) → AreMisfits ts → AreRight (map misfit ts)
misfits_right [] h = tt
misfits_right (t ∷ ts) h = (h.0, misfits_right ts h.1)

pub right_up_to : (ts : List Trial) (n : ℕ) → AreMisfits (take n ts) → AreRight (take n (map misfit ts))
right_up_to ts n a = subst AreRight (sym (take-map misfit n ts)) (misfits_right (take n ts) a)

-- and of a branch, one more
pub right_behind : (r : Row) (n : ℕ) → IsRow r → AreMisfits (take n (trials_of r)) → AreRight (take (n + 1) (judged_part r.part ∷ map misfit (trials_of r)))
right_behind r n w a = subst (λ k. AreRight (take k (judged_part r.part ∷ map misfit (trials_of r)))) (let e : suc n ≡ n + 1 = omega arith in e) (w.part, right_up_to (trials_of r) n a)

pub next_behind : (r : Row) (n : ℕ) → MatchOption (slice_get (trials_of r) n) ⊤ MustBeWhole → MatchOption (slice_get (branch_trials r) (n + 1)) ⊤ MustBeWhole
next_behind r n m = subst (λ k. MatchOption (slice_get (branch_trials r) k) ⊤ MustBeWhole) (let e : suc n ≡ n + 1 = omega arith in e) m

-- ---- no more judgements than trials

few_in_order : (ts : List Trial) (js : List Judgement) → AreJudgedInOrder ts js → length js ≤ length ts
few_in_order ts [] a = omega arith
few_in_order [] (j ∷ js) a = absurd a
few_in_order (t ∷ ts) (j ∷ js) a = ⊎_elim (λ m. omega (arith, ap length m.1)) (λ m. omega (arith, few_in_order ts js m.1)) a.1

-- ---- a sheet whose trials are judged in their places

-- one place is judged: its trials are the same
pub put_same : {Z : Type 0} (xs : List (CodeTrials Z)) (i : ℕ) (x y : CodeTrials Z) → i < length xs → x ≡ get_or xs i x → trials_at y ≡ trials_at x → trials_in (slice_set xs i y) ≡ trials_in xs
put_same xs i x y h e same =
    let put = trials_cut (slice_set xs i y) (take i xs) (drop (suc i) xs) y (set_split xs i y h) in
    let was = trials_cut xs (take i xs) (drop (suc i) xs) x (split_at xs i x h ∙ ap (λ z. take i xs ++ z ∷ drop (suc i) xs) (sym e)) in
    put ∙ ap (λ ts. (trials_in (take i xs) ++ ts) ++ trials_in (drop (suc i) xs)) same ∙ sym was

-- and the verdicts on those up to it are right
pub put_right : {Z : Type 0} (xs : List (CodeTrials Z)) (i n : ℕ) (y : CodeTrials Z) → i < length xs → length (trials_at y) ≤ n → AreRight (judged_in (take i xs)) → AreRight (take n (judged_at y)) → AreRight (judged_in (take (i + 1) (slice_set xs i y)))
put_right xs i n y h all right here =
    let whole : take n (judged_at y) ≡ judged_at y = take_all n (judged_at y) (omega (arith, judged_count y)) in
    subst AreRight (sym (judged_pushed (take i xs) (take (i + 1) (slice_set xs i y)) y (take_more_set xs i y h)))
    ((all_both (λ (j : Judgement). IsVerdict j.trial j.verdict) (judged_in (take i xs)) (judged_at y)).1 (right, subst AreRight whole here))

-- none of the trials of a sheet is whole
pub sheet_of_others : {Z : Type 0} (xs : List (CodeTrials Z)) → length (trials_in xs) < 18446744073709551616 → AreRight (judged_in xs) → IsJudgedSheet (record { others = judged_in xs; whole = None })
sheet_of_others xs few right =
    let all : judged_in xs ++ [] ≡ judged_in xs = append-nil (judged_in xs) in
    record { whole = tt; other = none_whole_in xs; right = right; few = omega (arith, ap length all, few_in_order (trials_in xs) (judged_in xs) (all_in_order xs)) }

-- in one place is one that is whole: it is taken out with all after it
pub record IsCutAtWhole {Z : Type 0} (given xs front : List (CodeTrials Z)) (i n : ℕ) (x y : CodeTrials Z) (js : List Judgement) (w : Judgement) : Type 0 where
  pub within : i < length xs
  pub count : length (trials_in given) < 18446744073709551616
  pub same : trials_in (slice_set xs i y) ≡ trials_in given
  pub right : AreRight (judged_in (take i xs))
  pub here : AreRight (take n (judged_at y))
  pub cut : front ++ x ∷ [] ≡ take i xs ++ y ∷ []
  pub others : js ≡ judged_in front ++ take n (judged_at x)
  pub trial : slice_get (trials_at x) n ≡ Some w.trial
  pub verdict : w.verdict ≡ Whole

pub whole_in_order : {Z : Type 0} {given xs front : List (CodeTrials Z)} {i n : ℕ} {x y : CodeTrials Z} {js : List Judgement} {w : Judgement} → IsCutAtWhole given xs front i n x y js w → AreJudgedInOrder (trials_in given) (js ++ w ∷ [])
whole_in_order {Z} {given} {xs} {front} {i} {n} {x} {y} {js} {w} k =
    let same = same_from_push front (take i xs) x y k.cut in
    let split = set_split xs i y k.within ∙ ap (λ z. take i xs ++ z ∷ drop (suc i) xs) (sym same.1) ∙ ap (λ zs. zs ++ x ∷ drop (suc i) xs) (sym same.0) in
    subst (λ (ts : List Trial). AreJudgedInOrder ts (js ++ w ∷ [])) k.same
    (subst (λ (z : List Judgement). AreJudgedInOrder (trials_in (slice_set xs i y)) (z ++ w ∷ [])) (sym k.others) (whole_in_place (slice_set xs i y) front (drop (suc i) xs) x n w split k.trial k.verdict))

pub sheet_with_whole : {Z : Type 0} {given xs front : List (CodeTrials Z)} {i n : ℕ} {x y : CodeTrials Z} {js : List Judgement} {w : Judgement} → IsCutAtWhole given xs front i n x y js w → IsJudgedSheet (record { others = js; whole = Some w })
sheet_with_whole {Z} {given} {xs} {front} {i} {n} {x} {y} {js} {w} k =
    let same = same_from_push front (take i xs) x y k.cut in
    let right = subst (λ zs. AreRight (judged_in zs)) (sym same.0) k.right in
    let here = subst (λ z. AreRight (take n (judged_at z))) (sym same.1) k.here in
    record {
      whole = k.verdict;
      other = subst (AllByRecursion (λ (j : Judgement). j.verdict ≢ Whole)) (sym k.others) (others_there front x n);
      right = subst AreRight (sym k.others) ((all_both (λ (j : Judgement). IsVerdict j.trial j.verdict) (judged_in front) (take n (judged_at x))).1 (right, here));
      few = (let count = k.count in omega (arith, few_in_order (trials_in given) (js ++ w ∷ []) (whole_in_order k)));
    }

-- ---- reading trials on and on

-- so far these are read: those that are next ahead are the ones after them
abbrev pub AreReadTo : Space → ℕ → List ℕ → ℕ → List ℕ → List Trial → Type 0
AreReadTo s most place left ahead ts = (more : List Trial) → AreNext s left ahead more → AreNext s most place (ts ++ more)

pub read_on : {Z : Type 0} (s : Space) (most : ℕ) (place : List ℕ) (left : ℕ) (ahead after : List ℕ) (used : ℕ) (xs new : List (CodeTrials Z)) (x : CodeTrials Z) → AreReadTo s most place left ahead (trials_in xs) → AreNextTogether s left ahead (trials_at x) after → used ≡ length (trials_at x) → new ≡ xs ++ x ∷ []
    → AreReadTo s most place (left - used) after (trials_in new)
read_on s most place left ahead after used xs new x r t count is more h =
    let ts = trials_at x in
    let next = subst (λ n. AreNext s n ahead (ts ++ more)) (let e : length ts + (left - used) ≡ left = omega (arith, t.1) in e) (t.2 (left - used) more h) in
    subst (AreNext s most place) (sym (append_assoc (trials_in xs) ts more) ∙ ap (λ us. us ++ more) (sym (ap trials_in is ∙ trials_more xs x))) (r (ts ++ more) next)

pub read_all : (s : Space) (most : ℕ) (place : List ℕ) (left : ℕ) (ahead : List ℕ) (ts : List Trial) → AreReadTo s most place left ahead ts → AreNext s left ahead [] → AreNext s most place ts
read_all s most place left ahead ts r n = subst (AreNext s most place) (append-nil ts) (r [] n)
