-- What is known of the versions, and the exchange that adds one.
use Rattle.std.proofs.Common.{◌≡◌, ◌≤◌, List, [], ◌∷◌, ◌++◌, length, take, refl, sym, ap, ◌∙◌, arith, ℕ, ◌+◌, ◌<◌, ◌==◌, Bool, true, false, subst, inl, length-append}
use Rattle.std.proofs.lemmas.List.{take_at, take_all, append-nil}
use mathlib.Core.List.{IsPrefix}
use Rattle.std.specs.Prelude.{Some, None, MatchBool}
use Rattle.chr_versions.specs.Kept.{last_of, IsKept, Adds}
use Rattle.std.proofs.lemmas.Bool.{eq-eqb}
use Rattle.std.proofs.lemmas.Bool.Decides.{nat_tests}
use prog.Atomic.{either}
use Rattle.logbook.specs.Pages.{Cell, cell, keeps, no_nib, step, Moves, Goes}

-- ---- beginnings of one list

-- beginnings that are equally long are the same
pub prefixes_same : {E : Type 0} (xs ys zs : List E) → IsPrefix xs zs → IsPrefix ys zs → length xs ≡ length ys → xs ≡ ys
prefixes_same xs ys zs p q le = sym (take_at xs p.0 (length xs) refl) ∙ ap (take (length xs)) (p.1 ∙ sym q.1) ∙ take_at ys q.0 (length xs) (sym le)

-- a beginning that is as long as the whole is the whole
pub prefix_whole : {E : Type 0} (xs ys : List E) → IsPrefix xs ys → length ys ≤ length xs → xs ≡ ys
prefix_whole xs ys p le = sym (take_at xs p.0 (length xs) refl) ∙ ap (take (length xs)) p.1 ∙ take_all (length xs) ys le

-- the value added last is the last one
pub last_added : {E : Type 0} (vs : List E) (v : E) → last_of (vs ++ v ∷ []) ≡ Some v
last_added [] v = refl
last_added (w ∷ []) v = refl
last_added (w ∷ x ∷ vs) v = last_added (x ∷ vs) v

-- there is a last version where there is any
pub no_last : {E : Type 0} (vs : List E) → last_of vs ≡ None → length vs ≡ 0
no_last [] e = refl
no_last (v ∷ []) e = absurd (cc)
no_last (v ∷ w ∷ vs) e = absurd (let none : length (w ∷ vs) ≡ 0 = no_last (w ∷ vs) e in omega arith)

-- ---- the exchange that adds a version keeps the rule

module _ {E : Type 0} where
  abbrev pub shown : List E → List E
  shown log = []

  abbrev pub moved : List E → List E → ℕ → Type 0
  moved xs ys n = Unit {0}

  pub adds_goes : (log v : List E) (e : E) (old : ℕ) → length v ≡ old → IsPrefix v log
      → (b : Bool) → (length log == old) ≡ b
      → Goes IsKept shown moved 0 (v, (no_nib, None)) (λ n. either (n == old) (old + 1) n) (Adds (step 0 old (old + 1) e) (v, (no_nib, None))) ((length log, true) ∷ (0, true) ∷ []) log
  adds_goes log v e old len pre true is =
      let here : length log ≡ old = grind (arith, nat_tests) in
      let same : v ≡ log = prefix_whole v log pre (omega arith) in
      let n : either (length log == old) (old + 1) (length log) ≡ length (log ++ e ∷ []) = rw is (omega (arith, length-append log (e ∷ []))) in (
        keeps,
        e ∷ [],
        None,
        tt,
        ap (λ (k : ℕ). (k, true) ∷ (0, true) ∷ []) n,
        inl (refl, refl),
        rw is (ap (λ w. w ++ e ∷ []) (sym same)),
      )
  adds_goes log v e old len pre false is =
      let all : log ++ [] ≡ log = append-nil log in
      let n : either (length log == old) (old + 1) (length log) ≡ length (log ++ []) = rw is (ap length (sym all)) in (
        keeps,
        [],
        None,
        tt,
        ap (λ (k : ℕ). (k, true) ∷ (0, true) ∷ []) n,
        inl (refl, refl),
        rw is (ap length all),
      )

  -- whatever the book is, the exchange adds the version to all that was seen, or finds that the history is longer
  pub adds_moves : (v : List E) (e : E) (old : ℕ) → length v ≡ old
      → Moves IsKept shown moved 0 (v, (no_nib, None)) (λ n. either (n == old) (old + 1) n) (Adds (step 0 old (old + 1) e) (v, (no_nib, None)))
  adds_moves v e old len cs log kept pre away =
      let P : List Cell → Type 0 = λ c. (0 < length c) × ((cell c 0).1 ≡ true) × Goes IsKept shown moved 0 (v, (no_nib, None)) (λ n. either (n == old) (old + 1) n) (Adds (step 0 old (old + 1) e) (v, (no_nib, None))) c log in
      subst P (sym kept) (omega arith, refl, adds_goes log v e old len pre (length log == old) refl)

-- the word that was found is the one that was expected
pub was_added : (found old : ℕ) (Added Longer : Type 0) → found ≡ old → MatchBool (found == old) Added Longer → Added
was_added found old Added Longer same told = subst (λ b. MatchBool b Added Longer) (eq-eqb found old same) told
