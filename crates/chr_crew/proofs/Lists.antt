-- Lists, place by place.
use Rattle.std.proofs.Common.{◌≡◌, ℕ, ◌<◌, ◌≤◌, ◌+◌, List, [], ◌∷◌, ◌++◌, suc, length, get_or, map, arith, ap, ◌∙◌, sym, refl, subst}
use Rattle.std.proofs.Math.ListN.{get_or-append, get_or-map}
use Rattle.std.proofs.Math.Seq.{take-append_seam}
use Rattle.std.specs.Prelude.{take, slice_get}
use Rattle.std.proofs.lemmas.List.{length-map, ext_get_or}
use Rattle.std.proofs.lemmas.Option.{slice_get-get_or, same_Some}
use Rattle.chr_log.specs.Events.{Entry}
use Rattle.chr_seats.specs.Accounts.{SeatState, AreSeats}

-- what is the same of the elements at each place of two lists is the same list
pub same_map : {X Y Z : Type 0} (f : Y → Z) (g : X → Y) (xs ys : List X) → length ys ≡ length xs → ((k : ℕ) (d : X) → k < length xs → f (g (get_or ys k d)) ≡ f (g (get_or xs k d))) → map f (map g ys) ≡ map f (map g xs)
same_map f g [] [] len each = refl
same_map f g [] (y ∷ ys) len each = absurd (omega (arith, len))
same_map f g (x ∷ xs) [] len each = absurd (omega (arith, len))
same_map f g (x ∷ xs) (y ∷ ys) len each =
    let first : f (g y) ≡ f (g x) = each 0 x (omega arith) in
    let rest : map f (map g ys) ≡ map f (map g xs) = same_map f g xs ys (omega (arith, len)) (λ k d below. each (suc k) d (omega (arith, below))) in
    λ i. first i ∷ rest i

-- lists that are read alike at each place are the same
pub same_reads : {X : Type 0} (d : X) (xs ys : List X) → length xs ≡ length ys → ((k : ℕ) → k < length xs → slice_get xs k ≡ slice_get ys k) → xs ≡ ys
same_reads d xs ys len each =
    ext_get_or d xs ys len (λ k within. same_Some (get_or xs k d) (get_or ys k d) (sym (slice_get-get_or xs k d within) ∙ each k within ∙ slice_get-get_or ys k d (omega (arith, len))))

-- those that have the first of sixteen seats have the numbers from 1 on
pub numbers_of : {X : Type 0} (f : X → SeatState) (log : List (Entry ℕ)) (xs : List X) (left seats : List SeatState) → map f xs ++ left ≡ seats → AreSeats log 0 seats → length xs ≤ 16 → (k : ℕ) (d : X) → k < length xs → (f (get_or xs k d)).number ≡ k + 1
numbers_of f log xs left seats is are few k d below =
    let here : get_or (map f xs) k (f d) ≡ f (get_or xs k d) = get_or-map f xs k d in
    let whole : get_or (map f xs ++ left) k (f d) ≡ get_or (map f xs) k (f d) = get_or-append (map f xs) left (f d) k (omega (arith, length-map xs f, below)) in
    let seat : get_or seats k (f d) ≡ f (get_or xs k d) = sym (ap (λ s. get_or s k (f d)) is) ∙ whole ∙ here in
    sym (ap (λ (s : SeatState). s.number) seat) ∙ are.numbers k (f d) (omega (arith, few, below)) ∙ omega arith

-- so many of a list and then others are that list
pub take_first : {X : Type 0} (xs ys : List X) (n : ℕ) → length xs ≡ n → take n (xs ++ ys) ≡ xs
take_first xs ys n is = subst (λ m. take m (xs ++ ys) ≡ xs) is (take-append_seam xs ys)
