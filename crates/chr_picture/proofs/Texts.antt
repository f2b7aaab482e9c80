-- Texts written one after another in a loop.
use Rattle.std.proofs.Common.{◌≡◌, ℕ, zero, suc, ◌+◌, ◌≤◌, ◌<◌, List, [], ◌∷◌, ◌++◌, length, drop, get_or, refl, sym, ap, ◌∙◌, append_assoc, arith, max, take, ◌-◌}
use Rattle.std.proofs.lemmas.List.{drop_all, drop_more, append-nil}
use Rattle.chr_picture.specs.declared.picture.Row.{Row}
use Rattle.chr_picture.specs.Layouts.{label_text, room, most_room}
use Rattle.chr_picture.specs.declared.layout.Layout.{Layout}
use Rattle.chr_picture.specs.Svg.{tick_or_none, ticks}

-- the text of one element more; T k is the text of elements of which the first is the k-th
pub text_more_at : {X Y : Type 0} (T : ℕ → List X → List Y) (f : ℕ → X → List Y) → ((k : ℕ) (y : X) (ys : List X) → T k (y ∷ ys) ≡ f k y ++ T (k + 1) ys)
    → (xs : List X) (all mid new : List Y) (i : ℕ) (d : X) → i < length xs → new ≡ mid ++ f i (get_or xs i d) → mid ++ T i (drop i xs) ≡ all → new ++ T (i + 1) (drop (i + 1) xs) ≡ all
text_more_at {Y = Y} T f step xs all mid new i d lt e h =
    let rest = T (i + 1) (drop (i + 1) xs) in
    ap (λ (w : List Y). w ++ rest) e ∙ append_assoc mid (f i (get_or xs i d)) rest
    ∙ ap (λ (w : List Y). mid ++ w) (sym (step i (get_or xs i d) (drop (i + 1) xs)) ∙ ap (T i) (sym (drop_more xs i d lt)))
    ∙ h

pub text_more : {X Y : Type 0} (T : ℕ → List X → List Y) (f : ℕ → X → List Y) → ((k : ℕ) (y : X) (ys : List X) → T k (y ∷ ys) ≡ f k y ++ T (k + 1) ys)
    → (xs : List X) (all mid new : List Y) (i : ℕ) (x : X) → i < length xs → x ≡ get_or xs i x → new ≡ mid ++ f i x → mid ++ T i (drop i xs) ≡ all → new ++ T (i + 1) (drop (i + 1) xs) ≡ all
text_more {Y = Y} T f step xs all mid new i x lt is e h = text_more_at T f step xs all mid new i x lt (e ∙ ap (λ y. mid ++ f i y) is) h

-- all elements are written
pub text_ends : {X Y : Type 0} (T : ℕ → List X → List Y) → ((k : ℕ) → T k [] ≡ []) → (xs : List X) (all mid : List Y) (i : ℕ) → length xs ≤ i → mid ++ T i (drop i xs) ≡ all → mid ≡ all
text_ends {Y = Y} T none xs all mid i le h = sym (append-nil mid) ∙ ap (λ (w : List Y). mid ++ w) (sym (ap (T i) (drop_all i xs le) ∙ none i)) ∙ h

-- one element more of what is found by going over a list
pub fold_more : {X S : Type 0} (T : S → List X → S) (f : S → X → S) → ((s : S) (y : X) (ys : List X) → T s (y ∷ ys) ≡ T (f s y) ys)
    → (xs : List X) (all s n : S) (i : ℕ) (x : X) → i < length xs → x ≡ get_or xs i x → n ≡ f s x → T s (drop i xs) ≡ all → T n (drop (i + 1) xs) ≡ all
fold_more T f step xs all s n i x lt is e h =
    ap (λ m. T m (drop (i + 1) xs)) e ∙ sym (step s x (drop (i + 1) xs)) ∙ ap (T s) (sym (drop_more xs i x lt ∙ ap (λ y. y ∷ drop (i + 1) xs) (sym is))) ∙ h

pub fold_ends : {X S : Type 0} (T : S → List X → S) → ((s : S) → T s [] ≡ s) → (xs : List X) (all s : S) (i : ℕ) → length xs ≤ i → T s (drop i xs) ≡ all → s ≡ all
fold_ends T none xs all s i le h = sym (ap (T s) (drop_all i xs le) ∙ none s) ∙ h

-- ---- the room that the names of rows need, found in a loop

-- one row more
pub room_more : {Z : Type 0} (table : List (List ℕ)) (step : ℕ) (rows : List (Row Z)) (all most needed new i : ℕ) (row : Row Z) → i < length rows → row ≡ get_or rows i row → needed ≡ room (length (label_text table row)) step row.since → new ≡ max needed most → most_room table step most (drop i rows) ≡ all → most_room table step new (drop (i + 1) rows) ≡ all
room_more table step rows all most needed new i row lt is needs e h =
    fold_more (λ s rs. most_room table step s rs) (λ s r. max (room (length (label_text table r)) step r.since) s) (λ s y ys. refl) rows all most new i row lt is (e ∙ ap (λ (n : ℕ). max n most) needs) h

pub room_within : (most needed new limit : ℕ) → needed ≤ limit → most ≤ limit → new ≡ max needed most → new ≤ limit
room_within most needed new limit a b e = omega arith

-- ---- texts written one after another

pub ruleset grouping = (append_assoc)

-- ---- the columns' lines, written in a loop

pub tick_more : (a : Layout) (every bottom i count : ℕ) (all mid new : List ℕ) → i < count → new ≡ mid ++ tick_or_none a every bottom i → mid ++ ticks a every bottom i (count - i) ≡ all → new ++ ticks a every bottom (i + 1) (count - (i + 1)) ≡ all
tick_more a every bottom i count all mid new lt e h =
    let rest = ticks a every bottom (i + 1) (count - (i + 1)) in
    let left : count - i ≡ suc (count - (i + 1)) = omega arith in
    ap (λ (w : List ℕ). w ++ rest) e ∙ append_assoc mid (tick_or_none a every bottom i) rest ∙ ap (λ (n : ℕ). mid ++ ticks a every bottom i n) (sym left) ∙ h

pub ticks_end : (a : Layout) (every bottom i count : ℕ) (all mid : List ℕ) → count ≤ i → mid ++ ticks a every bottom i (count - i) ≡ all → mid ≡ all
ticks_end a every bottom i count all mid le h = grind (arith, append-nil)
