-- The labels of a trial.
use Rattle.std.proofs.Common.{◌≡◌, ◌↔◌, ℕ, ◌≤◌, Bool, true, false, not, IsTrue, ◌||◌, ◌==◌, List, [], ◌∷◌, ◌++◌, map, take, length, refl, sym, ◌∙◌, ap, subst, arith, length-append, true≢false}
use Rattle.std.specs.List.{AllByRecursion, list_any}
use Rattle.std.proofs.lemmas.List.{take_all, length-map}
use Rattle.chr_rule.specs.Rules.{RuleAtom, Simpagation}
use Rattle.chr_rule.specs.Scope.{IsRule}
use Rattle.chr_model.specs.Stores.{among, Distinct}
use Rattle.chr_plan.specs.Orders.{heads_of}
use Rattle.chr_search.proofs.Making.{map_twice}
use Rattle.std.proofs.Common.{◌⊎◌, inl, inr}
use Rattle.chr_search.specs.Verdicts.{Placed, Trial, labels, position, IsFormed}

-- labels read one by one
pub any_label : {X : Type 0} (f : X → ℕ) (xs : List X) (l : ℕ) → list_any (λ x. f x == l) xs ≡ among (map f xs) l
any_label f [] l = refl
any_label f (x ∷ xs) l = ap (λ b. (f x == l) || b) (any_label f xs l)

pub distinct_first : {X : Type 0} (f : X → ℕ) (all xs : List X) (x : X) (there told : Bool) → all ≡ x ∷ xs → there ≡ list_any (λ y. f y == f x) xs → there ≡ false → IsTrue told ↔ Distinct (map f xs) → IsTrue told ↔ Distinct (map f all)
distinct_first f all xs x there told e h n d =
    let away : among (map f xs) (f x) ≡ false = sym (any_label f xs (f x)) ∙ sym h ∙ n in
    (λ t. subst (λ ys. Distinct (map f ys)) (sym e) (away, d.0 t), λ y. d.1 (subst (λ ys. Distinct (map f ys)) e y).1)

pub repeated_first : {X : Type 0} (f : X → ℕ) (all xs : List X) (x : X) (there : Bool) → all ≡ x ∷ xs → there ≡ list_any (λ y. f y == f x) xs → there ≡ true → IsTrue (not there) ↔ Distinct (map f all)
repeated_first f all xs x there e h n =
    let here : among (map f xs) (f x) ≡ true = sym (any_label f xs (f x)) ∙ sym h ∙ n in
    (λ t. absurd (true≢false (sym t ∙ ap not n)), λ y. absurd (true≢false (sym here ∙ (subst (λ ys. Distinct (map f ys)) e y).0)))

pub labels_read : {X : Type 0} (as_placed : X → Placed) (t : Trial) (all : List X) (i : ℕ) (ls : List ℕ) → map as_placed all ≡ t.placed → length all ≤ i → ls ≡ map (λ x. (as_placed x).label) (take i all) → ls ≡ labels t
labels_read as_placed t all i ls e past h =
    h ∙ ap (map (λ x. (as_placed x).label)) (take_all i all past) ∙ sym (map_twice as_placed (λ (p : Placed). p.label) all) ∙ ap (map (λ (p : Placed). p.label)) e

pub few_heads : (rule : Simpagation ℕ) → IsRule rule → length (heads_of rule) ≤ 6
few_heads rule r = omega (arith, r.limits.heads, length-append rule.kept rule.removed)

pub few_labels : (t : Trial) → IsFormed t → length t.placed ≤ 6
few_labels t f = omega (arith, f.few, few_heads t.rule f.scoped)

-- the labels of a position are those of its trial
pub labels_of_view : (r h : ℕ) (ls : List ℕ) (t : Trial) (p : List ℕ) → r ∷ h ∷ ls ≡ p → p ≡ position t → ls ≡ labels t
labels_of_view r h ls t p e f = let g : r ∷ h ∷ ls ≡ t.number ∷ t.head ∷ labels t = e ∙ f in cc

pub labels_length : (t : Trial) → length (labels t) ≡ length t.placed
labels_length t = length-map t.placed (λ p. p.label)

pub count_of_view : (r h : ℕ) (ls : List ℕ) (t : Trial) (p : List ℕ) → r ∷ h ∷ ls ≡ p → p ≡ position t → length ls ≡ length t.placed
count_of_view r h ls t p e f = ap length (labels_of_view r h ls t p e f) ∙ labels_length t

-- each label is small
label_small : (ps : List Placed) (n : ℕ) → AllByRecursion (λ p. (1 ≤ p.head) × (p.head ≤ n) × (p.label ≤ 4294967295)) ps → (xs : List ℕ) (x : ℕ) → xs ++ x ∷ [] ≡ map (λ p. p.label) ps → x ≤ 4294967295
label_small (p ∷ ps) n a [] x e = let same : x ≡ p.label = cc in omega (arith, a.0.2)
label_small (p ∷ ps) n a (y ∷ xs) x e = label_small ps n a.1 xs x (cc)
label_small [] n a [] x e = absurd (cc)
label_small [] n a (y ∷ xs) x e = absurd (cc)

pub last_small : (t : Trial) → IsFormed t → (xs : List ℕ) (x : ℕ) → xs ++ x ∷ [] ≡ labels t → x ≤ 4294967295
last_small t f xs x e = label_small t.placed (length (heads_of t.rule)) f.within xs x e

-- the heads of a rule as they are read
pub read_few : {X : Type 0} (rule : Simpagation ℕ) → IsRule rule → (f : X → RuleAtom ℕ) (xs : List X) → (map f xs ≡ rule.kept) ⊎ (map f xs ≡ rule.removed) → length xs ≤ 6
read_few rule r f xs (inl e) = omega (arith, r.limits.heads, length-map xs f, ap length e)
read_few rule r f xs (inr e) = omega (arith, r.limits.heads, length-map xs f, ap length e)
