-- What holds of each element of a list, and of lists compared, step by step.
use Rattle.chr_rule.proofs.Places.{map-more, any_here as any_first, any_left}
use Rattle.std.proofs.lemmas.List.Recursion.{and_at}
use Rattle.std.proofs.lemmas.List.Elements.{All-from_recursion, recursion_from_All, All-take}
use Rattle.std.proofs.Common.{◌≡◌, ◌↔◌, ℕ, ◌+◌, ◌<◌, ◌≤◌, Bool, true, false, List, [], ◌∷◌, ◌++◌, length, take, drop, map, get_or, Option, refl, sym, subst, ap, ap₂, ◌∙◌, zero, suc, ℤ, replicate, Some, None, arith, slice_index_or, slice_set, get_or-set_same, get_or-set_other, length-set}
use Rattle.std.specs.List.{AllByRecursion, list_all, list_any}
use Rattle.std.proofs.lemmas.List.{take-append-drop, map-append, take_more, take_all, same_from_push, get_or-map, get_or_default, take-map, length-map, length-replicate, get_or_past, map_push, ext_get_or}
use Rattle.chr_value.specs.Atoms.{Value, Int, Sym, Comp, Args}
use Rattle.chr_guard.specs.Values.{Valuation}
use Rattle.chr_guard.specs.Bindings.{Narrows, NoneUnder, bound_at}
use Rattle.chr_guard.proofs.Bindings.{narrows_both, narrows_as, none_after, free_at}
use Rattle.std.proofs.lemmas.Bool.{cases_lt, cases_eq, or_parts}
use Rattle.chr_guard.specs.declared.settled.Mark.{Mark}
use Rattle.chr_guard.specs.Settled.{Marks, mark_of, mark_view, is_compound, filled, IsFilled}
use Rattle.chr_guard.specs.declared.settled.Mark.TheVariants as marks

pub all_push : {X : Type 0} (P : X → Type 0) (xs : List X) (x : X) → AllByRecursion P (xs ++ x ∷ []) ↔ (AllByRecursion P xs × P x)
all_push P [] x = (λ h. (tt, h.0), λ h. (h.1, tt))
all_push P (y ∷ ys) x =
    let rest = all_push P ys x in
    (λ h. let r = rest.0 h.1 in ((h.0, r.0), r.1), λ h. (h.0.0, rest.1 (h.0.1, h.1)))

-- the front with one element more
pub all_more : {X : Type 0} (P : X → Type 0) (xs : List X) (i : ℕ) (x : X) → i < length xs → x ≡ get_or xs i x → AllByRecursion P (take (i + 1) xs) ↔ (AllByRecursion P (take i xs) × P x)
all_more P xs i x h e = subst (λ l. AllByRecursion P l ↔ (AllByRecursion P (take i xs) × P x)) (sym (take_more xs i x h ∙ ap (λ y. take i xs ++ y ∷ []) (sym e))) (all_push P (take i xs) x)

-- each element of the whole
pub all_at : {X : Type 0} (P : X → Type 0) (xs : List X) (i : ℕ) (x : X) → i < length xs → x ≡ get_or xs i x → AllByRecursion P xs → AllByRecursion P (take i xs) × P x
all_at P xs i x h e a =
    let all = All-from_recursion P xs a in
    (recursion_from_All P (take i xs) (All-take P i xs all), subst P (sym e) (all i x h))

-- Two lists that a valuation makes equal place by place: f v gives the left side's element.
abbrev pub SoFar : {X Y : Type 0} → (Valuation → X → Y) → List X → List Y → ℕ → Valuation → Type 0
SoFar f xs ys i v = map (f v) (take i xs) ≡ take i ys

abbrev pub Same : {X Y : Type 0} → (Valuation → X → Y) → List X → List Y → Valuation → Type 0
Same f xs ys v = map (f v) xs ≡ ys

same_places : {X Y : Type 0} (f : Valuation → X → Y) (xs : List X) (ys : List Y) (i : ℕ) (x : X) (y : Y) → i < length xs → i < length ys → x ≡ get_or xs i x → y ≡ get_or ys i y → (v : Valuation) → (SoFar f xs ys i v × (f v x ≡ y)) ↔ SoFar f xs ys (i + 1) v
same_places f xs ys i x y h k ex ey v =
    let left = map-more (f v) xs i x h ex in
    let right = take_more ys i y k ∙ ap (λ z. take i ys ++ z ∷ []) (sym ey) in
    (λ s. left ∙ ap₂ (λ a b. a ++ b ∷ []) s.0 s.1 ∙ sym right, λ s. same_from_push (map (f v) (take i xs)) (take i ys) (f v x) y (sym left ∙ s ∙ right))

same_all : {X Y : Type 0} (f : Valuation → X → Y) (xs : List X) (ys : List Y) (i : ℕ) (x : X) (y : Y) → i < length xs → i < length ys → x ≡ get_or xs i x → y ≡ get_or ys i y → (v : Valuation) → Same f xs ys v → SoFar f xs ys i v × (f v x ≡ y)
same_all f xs ys i x y h k ex ey v s =
    (sym (take-map (f v) i xs) ∙ ap (take i) s, ap (f v) ex ∙ sym (get_or-map (f v) xs i x y h) ∙ ap (λ l. get_or l i y) s ∙ sym ey)

-- The same with the elements as they are read: a and b are the elements at i of lists that g and h translate.
pub map_read : {A B : Type 0} (f : A → B) (xs : List A) (i : ℕ) (x : A) → i < length xs → x ≡ get_or xs i x → f x ≡ get_or (map f xs) i (f x)
map_read f xs i x h e = ap f e ∙ sym (get_or-map f xs i x (f x) h)

-- a test that all pass, at one of them
pub known_read : {A X : Type 0} (p : X → Bool) (f : A → X) (xs : List A) (i : ℕ) (x : A) → i < length xs → x ≡ get_or xs i x → list_all p (map f xs) ≡ true → p (f x) ≡ true
known_read p f xs i x h e a = ap p (map_read f xs i x h e) ∙ and_at (list_all p) p refl (λ y ys. refl) (map f xs) i (f x) (rw length-map h) a

pub read_there : {A : Type 0} (xs : List A) (i : ℕ) (d : A) → i < length xs → get_or xs i d ≡ get_or xs i (get_or xs i d)
read_there xs i d h = get_or_default xs i d (get_or xs i d) h

module _ {A B X Y : Type 0} (f : Valuation → X → Y) (g : A → X) (h : B → Y) (as' : List A) (bs : List B) (i : ℕ) (a : A) (b : B) (left : i < length as') (right : i < length bs) (ea : a ≡ get_or as' i a) (eb : b ≡ get_or bs i b) where
  read_places : (v : Valuation) → (SoFar f (map g as') (map h bs) i v × (f v (g a) ≡ h b)) ↔ SoFar f (map g as') (map h bs) (i + 1) v
  read_places = same_places f (map g as') (map h bs) i (g a) (h b) (rw length-map left) (rw length-map right) (map_read g as' i a left ea) (map_read h bs i b right eb)

  read_all : (v : Valuation) → Same f (map g as') (map h bs) v → SoFar f (map g as') (map h bs) i v × (f v (g a) ≡ h b)
  read_all = same_all f (map g as') (map h bs) i (g a) (h b) (rw length-map left) (rw length-map right) (map_read g as' i a left ea) (map_read h bs i b right eb)

  pub read_more : (old mid new : List (Option (Value ℕ))) → Narrows (SoFar f (map g as') (map h bs) i) old mid → Narrows (λ v. f v (g a) ≡ h b) mid new → Narrows (SoFar f (map g as') (map h bs) (i + 1)) old new
  read_more old mid new p q =
      narrows_as (λ v. SoFar f (map g as') (map h bs) i v × (f v (g a) ≡ h b)) (SoFar f (map g as') (map h bs) (i + 1)) old new read_places
      (narrows_both (SoFar f (map g as') (map h bs) i) (λ v. f v (g a) ≡ h b) old mid new p q)

  pub read_stop : (old mid : List (Option (Value ℕ))) → Narrows (SoFar f (map g as') (map h bs) i) old mid → NoneUnder (λ v. f v (g a) ≡ h b) mid → NoneUnder (Same f (map g as') (map h bs)) old
  read_stop old mid p n = none_after (SoFar f (map g as') (map h bs) i) (λ v. f v (g a) ≡ h b) (Same f (map g as') (map h bs)) old mid p n read_all

  -- under one valuation
  pub read_next : (v : Valuation) → SoFar f (map g as') (map h bs) i v → f v (g a) ≡ h b → SoFar f (map g as') (map h bs) (i + 1) v
  read_next v p q = (read_places v).0 (p, q)

  pub read_at : (v : Valuation) → Same f (map g as') (map h bs) v → f v (g a) ≡ h b
  read_at v s = (read_all v s).1

pub read_whole : {A B X Y : Type 0} (f : Valuation → X → Y) (g : A → X) (h : B → Y) (as' : List A) (bs : List B) (i : ℕ) (v : Valuation) → length as' ≤ i → length bs ≤ i → SoFar f (map g as') (map h bs) i v → Same f (map g as') (map h bs) v
read_whole f g h as' bs i v l r s = ap (map (f v)) (sym (take_all i (map g as') (rw length-map l))) ∙ s ∙ take_all i (map h bs) (rw length-map r)

pub read_count : {A B X Y : Type 0} (f : Valuation → X → Y) (g : A → X) (h : B → Y) (as' : List A) (bs : List B) (v : Valuation) → Same f (map g as') (map h bs) v → length as' ≡ length bs
read_count f g h as' bs v s = sym (length-map as' g) ∙ sym (length-map (map g as') (f v)) ∙ ap length s ∙ length-map bs h

pub read_end : {A B X Y : Type 0} (f : Valuation → X → Y) (g : A → X) (h : B → Y) (as' : List A) (bs : List B) (i : ℕ) (old mid : List (Option (Value ℕ))) → length as' ≤ i → length bs ≤ i → Narrows (SoFar f (map g as') (map h bs) i) old mid → Narrows (Same f (map g as') (map h bs)) old mid
read_end f g h as' bs i old mid l r p =
    narrows_as (SoFar f (map g as') (map h bs) i) (Same f (map g as') (map h bs)) old mid
    (λ v. (read_whole f g h as' bs i v l r, λ s. ap (map (f v)) (take_all i (map g as') (rw length-map l)) ∙ s ∙ sym (take_all i (map h bs) (rw length-map r)))) p

-- the front is the whole
pub narrows_whole : {X : Type 0} (P : Valuation → X → Type 0) (xs : List X) (i : ℕ) (old mid : List (Option (Value ℕ))) → length xs ≤ i → Narrows (λ v. AllByRecursion (P v) (take i xs)) old mid → Narrows (λ v. AllByRecursion (P v) xs) old mid
narrows_whole P xs i old mid h n = subst (λ l. Narrows (λ v. AllByRecursion (P v) l) old mid) (take_all i xs h) n

-- an element read through what translates its list
pub read_as : {A B : Type 0} (f : A → B) (xs : List A) (ys : List B) (i : ℕ) (x : A) (y : B) → map f xs ≡ ys → i < length xs → x ≡ get_or xs i x → f x ≡ y → (i < length ys) × (y ≡ get_or ys i y)
read_as f xs ys i x y s h e is =
    subst (λ l. (i < length l) × (y ≡ get_or l i y)) s (rw length-map h, sym is ∙ ap f e ∙ sym (get_or-map f xs i x y h))

pub halves : {A B : Type 0} (f : A → B) (xs first rest : List A) (k : ℕ) → first ≡ take k xs → rest ≡ drop k xs → map f xs ≡ map f first ++ map f rest
halves f xs first rest k a b = ap (map f) (sym (take-append-drop k xs) ∙ ap₂ (λ p q. p ++ q) (sym a) (sym b)) ∙ map-append f first rest

-- ---- a binding again from what is kept of it

-- whether there is a compound value among the marks from a place on
pub any_here : (ms : List Mark) (i : ℕ) (m : Mark) → i < length ms → m ≡ get_or ms i m → m ≡ marks.Compound → list_any is_compound (map mark_view (drop i ms)) ≡ true
any_here ms i m lt e is = any_first mark_view is_compound ms i m lt e (ap (λ k. is_compound (mark_view k)) is)

pub any_later : (ms : List Mark) (i : ℕ) (m : Mark) → i < length ms → m ≡ get_or ms i m → (m ≡ marks.Compound → ⊥) → list_any is_compound (map mark_view (drop (i + 1) ms)) ≡ list_any is_compound (map mark_view (drop i ms))
any_later ms i m lt e ne = sym (any_left mark_view is_compound ms i m lt e (grind arith))

-- the mark that is read at a place
pub mark_there : (ms : List Mark) (i : ℕ) (m : Mark) → i < length ms → m ≡ get_or ms i m → slice_index_or (map mark_view ms) i None ≡ mark_view m
mark_there ms i m lt e = get_or_default (map mark_view ms) i None (mark_view m) (rw length-map lt) ∙ sym (map_read mark_view ms i m lt e)

-- a mark that keeps nothing
pub nothing_kept : (m : Mark) (k : Option (Option (Value ℕ))) → k ≡ mark_view m → ((n : ℤ) → m ≡ marks.Number n → ⊥) → ((name : _) → m ≡ marks.Symbol name → ⊥) → (o : Option (Value ℕ)) → filled k o ≡ o
nothing_kept m k at number symbol o = grind (arith, number, symbol)

-- the binding once the first i marks are done
pub record Filling (settled : Marks) (i : ℕ) (old new : List (Option (Value ℕ))) : Type 0 where
  pub places : length new ≡ length old
  pub before : (x : ℕ) → x < i → bound_at new x ≡ filled (slice_index_or settled x None) (bound_at old x)
  pub behind : (x : ℕ) → i ≤ x → bound_at new x ≡ bound_at old x

pub filling_start : (settled : Marks) (old : List (Option (Value ℕ))) → Filling settled 0 old old
filling_start settled old = record { places = refl; before = λ x h. absurd (omega arith); behind = λ x h. refl }

pub filling_put : (settled : Marks) (i : ℕ) (a : Value ℕ) (old mid new : List (Option (Value ℕ))) → i < length mid → slice_index_or settled i None ≡ Some (Some a) → new ≡ slice_set mid i (Some a) → Filling settled i old mid → Filling settled (i + 1) old new
filling_put settled i a old mid new within at put f = record {
  places = ap length put ∙ length-set mid i (Some a) ∙ f.places;
  before = λ x h. rw put (grind (arith, cases_eq x i, f.before x, get_or-set_same mid i (Some a) None within, get_or-set_other mid i x (Some a) None));
  behind = λ x h. ap (λ b. bound_at b x) put ∙ get_or-set_other mid i x (Some a) None (λ e. omega (arith, e, h)) ∙ f.behind x (omega (arith, h));
}

pub filling_skip : (settled : Marks) (i : ℕ) (old mid : List (Option (Value ℕ))) → ((o : Option (Value ℕ)) → filled (slice_index_or settled i None) o ≡ o) → Filling settled i old mid → Filling settled (i + 1) old mid
filling_skip settled i old mid same f = record {
  places = f.places;
  before = λ x h. grind (arith, cases_eq x i, f.before x, f.behind x, same (bound_at old x));
  behind = λ x h. f.behind x (omega (arith, h));
}

pub filling_end : (settled : Marks) (i : ℕ) (old new : List (Option (Value ℕ))) → length settled ≤ i → Filling settled i old new → IsFilled settled old new
filling_end settled i old new past f = record { places = f.places; each = λ x. grind (arith, cases_lt x i, f.before x, f.behind x, get_or_past settled x None) }

-- what is kept at each place
marks_at : (binding : List (Option (Value ℕ))) (x : ℕ) → slice_index_or (map mark_of binding) x None ≡ mark_of (bound_at binding x)
marks_at [] x = refl
marks_at (o ∷ binding) zero = refl
marks_at (o ∷ binding) (suc x) = marks_at binding x

-- The binding is there again where what stood at its compound values is right, and nothing stood where it is free.
module _ (binding : List (Option (Value ℕ))) (settled : Marks) (old new : List (Option (Value ℕ))) (is : settled ≡ map mark_of binding) (len : length old ≡ length binding) (fill : IsFilled settled old new) where
  again : ((x : ℕ) → bound_at binding x ≡ None → bound_at old x ≡ None) → ((x s : ℕ) (vs : Args ℕ) → bound_at binding x ≡ Some (Comp s vs) → bound_at old x ≡ Some (Comp s vs)) → new ≡ binding
  again free right = ext_get_or None new binding (fill.places ∙ len) (λ x h. fill.each x ∙ ap (λ m. filled m (bound_at old x)) (ap (λ ms. slice_index_or ms x None) is ∙ marks_at binding x) ∙ by_value x (bound_at binding x) refl)
    where
      by_value : (x : ℕ) (o : Option (Value ℕ)) → bound_at binding x ≡ o → filled (mark_of o) (bound_at old x) ≡ o
      by_value x None e = free x e
      by_value x (Some (Int n)) e = refl
      by_value x (Some (Sym s)) e = refl
      by_value x (Some (Comp s vs)) e = right x s vs e

-- where no compound value stands in it, from all free
no_compound : (binding : List (Option (Value ℕ))) (x s : ℕ) (vs : Args ℕ) → list_any is_compound (map mark_of binding) ≡ false → bound_at binding x ≡ Some (Comp s vs) → ⊥
no_compound [] x s vs none e = absurd (cc)
no_compound (o ∷ binding) zero s vs none e = grind arith
no_compound (o ∷ binding) (suc x) s vs none e = no_compound binding x s vs (or_parts (is_compound (mark_of o)) _ none).1 e

pub plain_again : (binding : List (Option (Value ℕ))) (settled : Marks) (n : ℕ) (new : List (Option (Value ℕ))) → settled ≡ map mark_of binding → n ≡ length settled → list_any is_compound settled ≡ false → IsFilled settled (replicate n None) new → new ≡ binding
plain_again binding settled n new is count none fill =
    again binding settled (replicate n None) new is (length-replicate n None ∙ count ∙ ap length is ∙ length-map binding mark_of) fill (λ x e. free_at n x)
    (λ x s vs e. absurd (no_compound binding x s vs (sym (ap (list_any is_compound) is) ∙ none) e))

-- the marks of the first places, one place more
pub marks_more : (binding : List (Option (Value ℕ))) (i : ℕ) (ms new : List Mark) (m : Mark) → i < length binding → mark_view m ≡ mark_of (bound_at binding i) → new ≡ ms ++ m ∷ [] → map mark_view ms ≡ map mark_of (take i binding) → map mark_view new ≡ map mark_of (take (i + 1) binding)
marks_more binding i ms new m lt is pushed so_far =
    ap (map mark_view) pushed ∙ map_push mark_view ms m ∙ ap₂ (λ l n. l ++ n ∷ []) so_far is
    ∙ sym (ap (map mark_of) (take_more binding i None lt) ∙ map_push mark_of (take i binding) (get_or binding i None))

pub marks_all : (binding : List (Option (Value ℕ))) (i : ℕ) → length binding ≤ i → map mark_of (take i binding) ≡ map mark_of binding
marks_all binding i le = ap (map mark_of) (take_all i binding le)
