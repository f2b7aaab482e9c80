-- Lists of which each element says something, place by place.
use Rattle.std.proofs.Common.{◌≡◌, ◌<◌, ◌≤◌, ◌++◌, ◌+◌, ℕ, zero, suc, Some, List, [], ◌∷◌, length, map, take, drop, get_or, arith, sym, ap, ap₂, ◌∙◌, subst, slice_get}
use Rattle.std.specs.List.{AllByRecursion}
use Rattle.std.proofs.lemmas.List.{take_more, take_all, drop_more, drop_all, map_push, length-map, length-take-le, get_or-map}
use Rattle.std.proofs.lemmas.List.Elements.{All-from_recursion, All-get_or}
use Rattle.std.proofs.lemmas.Option.{slice_get_within, get_or_from_slice_get}

pub all-push : {Y : Type 0} (P : Y → Type 0) (ys : List Y) (y : Y) → AllByRecursion P ys → P y → AllByRecursion P (ys ++ y ∷ [])
all-push P [] y h p = (p, tt)
all-push P (z ∷ zs) y h p = (h.0, all-push P zs y h.1 p)

pub got-more : {X : Type 0} (xs : List X) (i : ℕ) (x : X) → Some x ≡ slice_get xs i → take (i + 1) xs ≡ take i xs ++ x ∷ []
got-more xs i x e = rw (take_more xs i x (slice_get_within xs i x (sym e)), get_or_from_slice_get xs i x x (sym e))

-- what holds of all elements holds of each
pub got : {X : Type 0} (P : X → Type 0) (xs : List X) (i : ℕ) (x : X) → Some x ≡ slice_get xs i → AllByRecursion P xs → P x
got P [] i x e h = absurd cc
got P (z ∷ zs) zero x e h = let same : z ≡ x = cc in subst P same h.0
got P (z ∷ zs) (suc i) x e h = got P zs i x e h.1

-- an element of the front of a list, and one behind it
pub got-in-front : {X : Type 0} (xs ys : List X) (i : ℕ) (x : X) → Some x ≡ slice_get xs i → Some x ≡ slice_get (xs ++ ys) i
got-in-front [] ys i x e = absurd cc
got-in-front (z ∷ zs) ys zero x e = e
got-in-front (z ∷ zs) ys (suc i) x e = got-in-front zs ys i x e

pub got-behind : {X : Type 0} (xs ys : List X) (i j : ℕ) (x : X) → i ≡ length xs + j → Some x ≡ slice_get ys j → Some x ≡ slice_get (xs ++ ys) i
got-behind [] ys i j x is e = let same : j ≡ i = omega (arith, is) in e ∙ ap (λ k. slice_get ys k) same
got-behind (z ∷ zs) ys zero j x is e = absurd (omega (arith, is))
got-behind (z ∷ zs) ys (suc i) j x is e = got-behind zs ys i j x (omega (arith, is)) e

module _ {X Y : Type 0} (f : X → Y) where
  -- lists that say the same do so at each place
  pub same-at : (xs ys : List X) (i : ℕ) (x y : X) → i < length xs → x ≡ get_or xs i x → y ≡ get_or ys i y → map f xs ≡ map f ys → f x ≡ f y
  same-at xs ys i x y lt ex ey h = cc (get_or-map f xs i x (f x) lt, get_or-map f ys i y (f x) (omega (arith, ap length h, length-map xs f, length-map ys f)))

  -- what holds of all holds at each place
  pub all-at : (P : Y → Type 0) (xs : List X) (i : ℕ) (x : X) → i < length xs → x ≡ get_or xs i x → AllByRecursion P (map f xs) → P (f x)
  all-at P xs i x lt ex h =
      subst P (get_or-map f xs i x (f x) lt ∙ ap f (sym ex)) (All-get_or P (map f xs) i (f x) (rw length-map lt) (All-from_recursion P (map f xs) h))

  pub got-all : (P : Y → Type 0) (xs : List X) (i : ℕ) (x : X) → Some x ≡ slice_get xs i → AllByRecursion P (map f xs) → P (f x)
  got-all P xs i x e h = all-at P xs i x (slice_get_within xs i x (sym e)) (sym (get_or_from_slice_get xs i x x (sym e))) h

  -- what is left, one element less
  pub left-at : (xs : List X) (i : ℕ) (x : X) → i < length xs → x ≡ get_or xs i x → map f (drop i xs) ≡ f x ∷ map f (drop (i + 1) xs)
  left-at xs i x lt ex = ap (map f) (drop_more xs i x lt) ∙ ap (λ y. f y ∷ map f (drop (i + 1) xs)) (sym ex)

  pub left-end : (xs : List X) (i : ℕ) → length xs ≤ i → map f (drop i xs) ≡ []
  left-end xs i le = ap (map f) (drop_all i xs le)

  -- the front, one element more
  pub front-more : (xs : List X) (i : ℕ) (x : X) → i < length xs → x ≡ get_or xs i x → map f (take (i + 1) xs) ≡ map f (take i xs) ++ f x ∷ []
  front-more xs i x lt e = ap (map f) (take_more xs i x lt) ∙ map_push f (take i xs) (get_or xs i x) ∙ ap (λ y. map f (take i xs) ++ f y ∷ []) (sym e)

  pub front-length : (xs : List X) (i : ℕ) → i ≤ length xs → length (map f (take i xs)) ≡ i
  front-length xs i le = length-map (take i xs) f ∙ length-take-le i xs le

  pub front-all : (xs : List X) (i : ℕ) → length xs ≤ i → map f (take i xs) ≡ map f xs
  front-all xs i le = ap (map f) (take_all i xs le)

  pub same-more : (xs ys : List X) (i : ℕ) (x y : X) → i < length xs → i < length ys → x ≡ get_or xs i x → y ≡ get_or ys i y → f x ≡ f y → map f (take i xs) ≡ map f (take i ys) → map f (take (i + 1) xs) ≡ map f (take (i + 1) ys)
  same-more xs ys i x y lx ly ex ey h t = front-more xs i x lx ex ∙ ap₂ (λ us (u : Y). us ++ u ∷ []) t h ∙ sym (front-more ys i y ly ey)

  pub all-more : (P : Y → Type 0) (xs : List X) (i : ℕ) (x : X) → i < length xs → x ≡ get_or xs i x → AllByRecursion P (map f (take i xs)) → P (f x) → AllByRecursion P (map f (take (i + 1) xs))
  all-more P xs i x lt e h p = subst (AllByRecursion P) (sym (front-more xs i x lt e)) (all-push P (map f (take i xs)) (f x) h p)

-- a list that is made place by place, and what it is made of
pub map-more : {W X Y : Type 0} (f : X → Y) (g : W → Y) (made new : List W) (xs : List X) (i : ℕ) (x : X) (w : W) → i < length xs → x ≡ get_or xs i x → new ≡ made ++ w ∷ [] → g w ≡ f x → map g made ≡ map f (take i xs) → map g new ≡ map f (take (i + 1) xs)
map-more f g made new xs i x w lt e pushed same before = ap (map g) pushed ∙ map_push g made w ∙ ap₂ (λ us u. us ++ u ∷ []) before same ∙ sym (front-more f xs i x lt e)

-- a list that is made place by place of what another says
pub mapped-more : {V W X Y : Type 0} (f : X → V) (h : V → Y) (g : W → Y) (made new : List W) (xs : List X) (i : ℕ) (x : X) (w : W) → i < length xs → x ≡ get_or xs i x → new ≡ made ++ w ∷ [] → g w ≡ h (f x) → map g made ≡ map h (map f (take i xs)) → map g new ≡ map h (map f (take (i + 1) xs))
mapped-more f h g made new xs i x w lt e pushed same before = ap (map g) pushed ∙ map_push g made w ∙ ap₂ (λ us u. us ++ u ∷ []) before same ∙ sym (ap (map h) (front-more f xs i x lt e) ∙ map_push h (map f (take i xs)) (f x))
