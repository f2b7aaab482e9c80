-- Lists, place by place.
use Rattle.std.proofs.Common.{◌≡◌, ◌↔◌, ◌<◌, ◌≤◌, ◌+◌, ℕ, Bool, true, false, ◌||◌, IsTrue, List, length, take, drop, get_or, map, refl, sym, ap, ◌∙◌, subst}
use Rattle.std.specs.List.{AllByRecursion, list_any}
use Rattle.std.proofs.lemmas.List.{take_all, length-map}
use Rattle.chr_value.proofs.Places.{all-at, left-at}
pub use Rattle.chr_value.proofs.Places.{all-push as all_push, left-at as map-left, front-more as map-more, same-more as same_more, all-more as all_more}

module _ {X Y : Type 0} (f : X → Y) where
  pub same_told : (xs ys : List X) (i : ℕ) → length xs ≤ i → length ys ≤ i → map f (take i xs) ≡ map f (take i ys) → IsTrue true ↔ (map f xs ≡ map f ys)
  same_told xs ys i lx ly h = (λ t. sym (ap (map f) (take_all i xs lx)) ∙ h ∙ ap (map f) (take_all i ys ly), λ e. refl)

  -- lists of different lengths
  pub differ_long : (xs ys : List X) → (length xs ≡ length ys → ⊥) → IsTrue false ↔ (map f xs ≡ map f ys)
  differ_long xs ys differ = (λ t. absurd cc, λ e. absurd (differ (sym (length-map xs f) ∙ ap length e ∙ length-map ys f)))

  -- what holds of all so far
  pub all_told : (P : Y → Type 0) (xs : List X) (i : ℕ) → length xs ≤ i → AllByRecursion P (map f (take i xs)) → IsTrue true ↔ AllByRecursion P (map f xs)
  all_told P xs i le h = (λ t. subst (λ ys. AllByRecursion P (map f ys)) (take_all i xs le) h, λ all. refl)

  -- what is denied of one is denied of all
  pub not_all : (P : Y → Type 0) (xs : List X) (i : ℕ) (x : X) (told : Bool) → i < length xs → x ≡ get_or xs i x → IsTrue told ↔ P (f x) → told ≡ false → IsTrue false ↔ AllByRecursion P (map f xs)
  not_all P xs i x told lt e means denied = (λ t. absurd cc, λ h. sym denied ∙ means.1 (all-at f P xs i x lt e h))

  -- whether one of what is left passes a test, where this one does and where it doesn't
  pub any_here : (p : Y → Bool) (xs : List X) (i : ℕ) (x : X) → i < length xs → x ≡ get_or xs i x → p (f x) ≡ true → list_any p (map f (drop i xs)) ≡ true
  any_here p xs i x lt e h = ap (list_any p) (left-at f xs i x lt e) ∙ ap (λ (b : Bool). b || list_any p (map f (drop (i + 1) xs))) h

  pub any_left : (p : Y → Bool) (xs : List X) (i : ℕ) (x : X) → i < length xs → x ≡ get_or xs i x → p (f x) ≡ false → list_any p (map f (drop i xs)) ≡ list_any p (map f (drop (i + 1) xs))
  any_left p xs i x lt e h = ap (list_any p) (left-at f xs i x lt e) ∙ ap (λ (b : Bool). b || list_any p (map f (drop (i + 1) xs))) h
