-- Two lists told apart by an element.
use Rattle.std.proofs.Common.{◌≡◌, ◌↔◌, ℕ, ◌<◌, Bool, false, IsTrue, List, length, get_or, map, sym, ◌∙◌}
use Rattle.chr_value.proofs.Places.{same-at}

pub differ_at : {X Y : Type 0} (f : X → Y) (xs ys : List X) (i : ℕ) (x y : X) (told : Bool) → i < length xs → i < length ys → x ≡ get_or xs i x → y ≡ get_or ys i y → IsTrue told ↔ (f x ≡ f y) → told ≡ false → IsTrue false ↔ (map f xs ≡ map f ys)
differ_at f xs ys i x y told h k ex ey means denied = (λ e. absurd (cc), λ s. sym denied ∙ means.1 (same-at f xs ys i x y h ex ey s))
