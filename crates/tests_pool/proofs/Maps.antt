-- Lists whose elements agree place by place.
use Rattle.std.proofs.Common.{◌≡◌, ℕ, suc, ◌<◌, List, [], ◌∷◌, map, length, get_or, refl, arith}

pub map_by_each : {X Y : Type 0} (f : X → Y) (xs ys : List X) → length ys ≡ length xs → ((i : ℕ) (d : X) → i < length xs → f (get_or ys i d) ≡ f (get_or xs i d)) → map f ys ≡ map f xs
map_by_each f [] [] e h = refl
map_by_each f [] (y ∷ ys) e h = absurd (omega arith)
map_by_each f (x ∷ xs) [] e h = absurd (omega arith)
map_by_each f (x ∷ xs) (y ∷ ys) e h = λ k. h 0 x (omega arith) k ∷ map_by_each f xs ys (omega arith) (λ i d within. h (suc i) d (omega arith)) k
