-- Two stores, compared entry by entry.
use Rattle.std.proofs.Common.{◌≡◌, ◌≢◌, ℕ, zero, suc, ◌+◌, ◌<◌, ◌≤◌, List, [], ◌∷◌, ◌++◌, length, take, drop, Some, refl, sym, ◌∙◌, ap, ap₂, arith}
use Rattle.std.specs.Prelude.{slice_get}
use Rattle.std.proofs.lemmas.List.{take_all}
use Rattle.std.proofs.lemmas.Option.{slice_get_within}
use Rattle.chr_value.specs.Atoms.{Atom}
use Rattle.chr_value.proofs.Chosen.{some_is}
use Rattle.chr_value.proofs.Places.{got-more}
use Rattle.chr_model.specs.Stores.{Store}
use Rattle.chr_check.specs.Faults.{IsFirstDifference}

dropped_next : {X : Type 0} (x : X) (xs : List X) (i : ℕ) (ys : List X) → drop (i + 1) xs ≡ ys → drop (suc i + 1) (x ∷ xs) ≡ ys
dropped_next x xs i ys e = let same : suc i + 1 ≡ suc (i + 1) = omega arith in ap (λ n. drop n (x ∷ xs)) same ∙ e

-- the first entry that is left
pub left_first : {X : Type 0} (xs : List X) (i : ℕ) (y : X) (ys : List X) → drop i xs ≡ y ∷ ys → (slice_get xs i ≡ Some y) × (drop (i + 1) xs ≡ ys) × (i < length xs)
left_first [] zero y ys e = absurd (cc)
left_first [] (suc i) y ys e = absurd (cc)
left_first (x ∷ xs) zero y ys e = let first : x ≡ y = cc in let rest : xs ≡ ys = cc in (ap (λ z. Some z) first, rest, omega arith)
left_first (x ∷ xs) (suc i) y ys e = let r = left_first xs i y ys e in (r.0, dropped_next x xs i ys r.1, omega (arith, r.2))

pub left_none : {X : Type 0} (xs : List X) (i : ℕ) → drop i xs ≡ [] → length xs ≤ i
left_none [] i e = omega arith
left_none (x ∷ xs) zero e = let z : x ∷ xs ≡ [] = e in absurd (cc)
left_none (x ∷ xs) (suc i) e = omega (arith, left_none xs i e)

-- they differ where one has an entry that the other hasn't
pub differs : (own given : Store) (place : ℕ) → take place own ≡ take place given → slice_get own place ≢ slice_get given place → IsFirstDifference own given (place + 1)
differs own given place same ne = record { place = place; same = same; differ = ne; line_is = refl }

pub own_longer : (own given : Store) (place : ℕ) (x : ℕ × Atom ℕ) → take place own ≡ take place given → slice_get own place ≡ Some x → length given ≤ place → IsFirstDifference own given (place + 1)
own_longer own given place x same at past = differs own given place same (λ e. (let within = slice_get_within given place x (sym e ∙ at) in absurd (omega (arith, within, past))))

pub given_longer : (own given : Store) (place : ℕ) (x : ℕ × Atom ℕ) → take place own ≡ take place given → slice_get given place ≡ Some x → length own ≤ place → IsFirstDifference own given (place + 1)
given_longer own given place x same at past = differs own given place same (λ e. (let within = slice_get_within own place x (e ∙ at) in absurd (omega (arith, within, past))))

pub other_entry : (own given : Store) (place : ℕ) (x y : ℕ × Atom ℕ) → take place own ≡ take place given → slice_get own place ≡ Some x → slice_get given place ≡ Some y → x ≢ y → IsFirstDifference own given (place + 1)
other_entry own given place x y same at there ne = differs own given place same (λ e. ne (some_is x y (sym at ∙ e ∙ there)))

pub same_entry : (own given : Store) (place : ℕ) (x y : ℕ × Atom ℕ) → take place own ≡ take place given → slice_get own place ≡ Some x → slice_get given place ≡ Some y → x ≡ y → take (place + 1) own ≡ take (place + 1) given
same_entry own given place x y same at there is = got-more own place x (sym at) ∙ ap₂ (λ (xs : Store) z. xs ++ z ∷ []) same is ∙ sym (got-more given place y (sym there))

pub all_same : (own given : Store) (place : ℕ) → take place own ≡ take place given → length own ≤ place → length given ≤ place → own ≡ given
all_same own given place same o g = sym (take_all place own o) ∙ same ∙ take_all place given g
