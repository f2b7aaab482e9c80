-- Comparing and copying trials.
use Rattle.std.proofs.Common.{◌≡◌, ◌≢◌, ◌↔◌, ℕ, ◌<◌, false, IsTrue, List, map, length, get_or, refl, sym, ◌∙◌, ap}
use Rattle.std.proofs.lemmas.List.{length-map}
use Rattle.chr_rule.proofs.Lists.{differ_at}
use Rattle.chr_search.specs.Verdicts.{Placed}
use Rattle.chr_search.proofs.Making.{map_twice}

pub labels_differ : {X : Type 0} (f : X → ℕ) (xs ys : List X) (i : ℕ) (x y : X) → i < length xs → i < length ys → x ≡ get_or xs i x → y ≡ get_or ys i y → f (get_or xs i x) ≢ f (get_or ys i y) → IsTrue false ↔ (map f xs ≡ map f ys)
labels_differ f xs ys i x y h k ex ey ne = differ_at f xs ys i x y false h k ex ey (λ e. absurd (cc), λ s. absurd (ne (ap f (sym ex) ∙ s ∙ ap f ey))) refl

pub same_count : {X Y : Type 0} (f : X → Y) (xs ys : List X) → map f xs ≡ map f ys → length xs ≡ length ys
same_count f xs ys e = sym (length-map xs f) ∙ ap length e ∙ length-map ys f

-- other labels, other trials
pub other_labels : {X : Type 0} (as_placed : X → Placed) (xs ys : List X) → IsTrue false ↔ (map (λ x. (as_placed x).label) xs ≡ map (λ x. (as_placed x).label) ys) → IsTrue false ↔ (map as_placed xs ≡ map as_placed ys)
other_labels as_placed xs ys d = (
  λ t. absurd (cc),
  λ s. d.1 (sym (map_twice as_placed (λ (p : Placed). p.label) xs) ∙ ap (map (λ (p : Placed). p.label)) s ∙ map_twice as_placed (λ (p : Placed). p.label) ys),
)
