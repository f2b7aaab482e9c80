-- A whole trial is a labelled instance over each store that has its labels with their atoms.
use Rattle.std.proofs.Common.{◌≡◌, ℕ, zero, suc, ◌+◌, ◌<◌, ◌≤◌, true, false, List, [], ◌∷◌, ◌++◌, map, take, drop, length, Some, refl, ◌∙◌, ap, subst, arith, length-append}
use Rattle.std.specs.List.{AllByRecursion}
use Rattle.std.proofs.lemmas.Bool.Decides.{nat_tests}
use Rattle.std.proofs.lemmas.List.{take_at, drop_at}
use Rattle.chr_rule.specs.Rules.{Simpagation, rule_at}
use Rattle.chr_guard.specs.Instances.{Instance}
use Rattle.chr_model.specs.Stores.{Store, atom_at, among, Distinct, Carry, Labelled}
use Rattle.chr_model.specs.Programs.{Instances}
use Rattle.chr_plan.specs.Orders.{heads_of}
use Rattle.chr_search.specs.Verdicts.{Placed, Trial, label_at, labels_from, kept_labels, removed_labels, IsFormed, IsWhole}
use Rattle.chr_search.proofs.Making.{each_count, each_append}
use Rattle.chr_search.proofs.Wholes.{atom_of, atoms_from, in_head_order, whole_instance}

abbrev heads_in : List Placed → List ℕ
heads_in ps = map (λ p. p.head) ps

abbrev labels_in : List Placed → List ℕ
labels_in ps = map (λ p. p.label) ps

live_at : (store : Store) (ps : List Placed) → AllByRecursion (λ p. atom_at store p.label ≡ Some p.atom) ps → (h : ℕ) → among (heads_in ps) h ≡ true → atom_at store (label_at ps h) ≡ Some (atom_of ps h)
live_at store [] a h i = absurd (cc)
live_at store (p ∷ ps) a h i = let rest = live_at store ps a.1 h in grind (arith, nat_tests, a.0)

carry_from : (store : Store) (ps : List Placed) → AllByRecursion (λ p. atom_at store p.label ≡ Some p.atom) ps → (h n : ℕ) → ((i : ℕ) → h ≤ i → i < h + n → among (heads_in ps) i ≡ true) → Carry store (labels_from ps h n) (atoms_from ps h n)
carry_from store ps a h zero f = tt
carry_from store ps a h (suc n) f = (live_at store ps a h (f h (omega arith) (omega arith)), carry_from store ps a (suc h) n (λ i low high. f i (omega arith) (omega arith)))

-- labels at different heads are different
label_in : (ps : List Placed) (h : ℕ) → among (heads_in ps) h ≡ true → among (labels_in ps) (label_at ps h) ≡ true
label_in [] h i = absurd (cc)
label_in (p ∷ ps) h i = let rest = label_in ps h in grind (arith, nat_tests)

same_label : (ps : List Placed) → Distinct (labels_in ps) → (h k : ℕ) → among (heads_in ps) h ≡ true → among (heads_in ps) k ≡ true → label_at ps h ≡ label_at ps k → h ≡ k
same_label [] d h k i j e = absurd (cc)
same_label (p ∷ ps) d h k i j e =
    let rest = same_label ps d.1 h k in
    let one = label_in ps h in
    let two = label_in ps k in
    grind (arith, nat_tests, d.0)

none_from : (ps : List Placed) → Distinct (labels_in ps) → (h k n : ℕ) → h < k → among (heads_in ps) h ≡ true → ((i : ℕ) → k ≤ i → i < k + n → among (heads_in ps) i ≡ true) → among (labels_from ps k n) (label_at ps h) ≡ false
none_from ps d h k zero less i f = refl
none_from ps d h k (suc n) less i f =
    let same = same_label ps d k h (f k (omega arith) (omega arith)) i in
    let rest = none_from ps d h (suc k) n (omega arith) i (λ j low high. f j (omega arith) (omega arith)) in
    grind (arith, nat_tests)

distinct_from : (ps : List Placed) → Distinct (labels_in ps) → (h n : ℕ) → ((i : ℕ) → h ≤ i → i < h + n → among (heads_in ps) i ≡ true) → Distinct (labels_from ps h n)
distinct_from ps d h zero f = tt
distinct_from ps d h (suc n) f =
    (none_from ps d h (suc h) n (omega arith) (f h (omega arith) (omega arith)) (λ i low high. f i (omega arith) (omega arith)), distinct_from ps d (suc h) n (λ i low high. f i (omega arith) (omega arith)))

pub whole_labelled : (rules : List (Simpagation ℕ)) (store : Store) (t : Trial) → IsFormed t → rule_at rules t.number ≡ Some t.rule → AllByRecursion (λ p. atom_at store p.label ≡ Some p.atom) t.placed → (w : IsWhole t) → Labelled (Instances rules) store t.number (kept_labels t) (removed_labels t) w.body
whole_labelled rules store t f ri live w =
    let a : ℕ = length t.rule.kept in
    let b : ℕ = length t.rule.removed in
    let all : length (heads_of t.rule) ≡ a + b = length-append t.rule.kept t.rule.removed in
    let next : 1 + a ≡ suc a = omega arith in
    let facts : in_head_order t ≡ atoms_from t.placed 1 a ++ atoms_from t.placed (suc a) b = ap (atoms_from t.placed 1) all ∙ each_append (atom_of t.placed) (atoms_from t.placed) (λ h. refl) (λ h n. refl) 1 a b ∙ ap (λ n. atoms_from t.placed 1 a ++ atoms_from t.placed n b) next in
    let kept : take a (in_head_order t) ≡ atoms_from t.placed 1 a = ap (take a) facts ∙ take_at (atoms_from t.placed 1 a) (atoms_from t.placed (suc a) b) a (each_count (atom_of t.placed) (atoms_from t.placed) (λ h. refl) (λ h n. refl) 1 a) in
    let removed : drop a (in_head_order t) ≡ atoms_from t.placed (suc a) b = ap (drop a) facts ∙ drop_at (atoms_from t.placed 1 a) (atoms_from t.placed (suc a) b) a (each_count (atom_of t.placed) (atoms_from t.placed) (λ h. refl) (λ h n. refl) 1 a) in
    let named : (h : ℕ) → 1 ≤ h → h ≤ a + b → among (heads_in t.placed) h ≡ true = λ h low high. f.full w.full h low (omega arith) in
    let i = whole_instance t f w in
    record {
      kept_atoms = atoms_from t.placed 1 a;
      removed_atoms = atoms_from t.placed (suc a) b;
      instance = (t.rule, ri, subst (λ xs. Instance t.rule xs (atoms_from t.placed (suc a) b) w.body) kept (subst (λ xs. Instance t.rule (take a (in_head_order t)) xs w.body) removed i));
      distinct = subst Distinct (each_append (label_at t.placed) (labels_from t.placed) (λ h. refl) (λ h n. refl) 1 a b ∙ ap (λ n. labels_from t.placed 1 a ++ labels_from t.placed n b) next) (distinct_from t.placed w.distinct 1 (a + b) (λ h low high. named h low (omega arith)));
      kept_there = carry_from store t.placed live 1 a (λ h low high. named h low (omega arith));
      removed_there = carry_from store t.placed live (suc a) b (λ h low high. named h (omega arith) (omega arith));
    }
