-- Entries of a store.
use Rattle.std.proofs.Common.{◌≡◌, ℕ, zero, suc, true, false, ◌||◌, ◌==◌, List, [], ◌∷◌, ◌++◌, take, drop, Some, None, refl, sym, ap, subst, subst₂, arith, true-eqb}
use Rattle.std.specs.Prelude.{slice_get}
use Rattle.std.specs.List.{AllByRecursion}
use Rattle.std.proofs.lemmas.Bool.Decides.{nat_tests}
use Rattle.chr_value.specs.Atoms.{Atom}
use Rattle.chr_value.proofs.Chosen.{some_is}
use Rattle.chr_model.specs.Stores.{Store, atom_at, labels, atoms, among, Distinct, Carry}

-- what holds of each entry holds of the one under a label
pub all_there : (P : ℕ × Atom ℕ → Type 0) (store : Store) (l : ℕ) (a : Atom ℕ) → AllByRecursion P store → atom_at store l ≡ Some a → P (l, a)
all_there P [] l a all at = let z : None ≡ Some a = at in absurd (cc)
all_there P (x ∷ xs) l a all at =
    elim (x.0 == l) as (λ b. (x.0 == l ≡ b) → P (l, a)) [
      | true ↦ λ t.
          let here : Some x.1 ≡ Some a = grind (arith, nat_tests) in
          subst₂ (λ m b. P (m, b)) (true-eqb x.0 l (sym t)) (some_is x.1 a here) all.0
      | false ↦ λ t. all_there P xs l a all.1 (grind (arith, nat_tests))
    ] refl

pub among_at : (entries : Store) (i : ℕ) (e : ℕ × Atom ℕ) → slice_get entries i ≡ Some e → among (labels entries) e.0 ≡ true
among_at [] i e at = let z : None ≡ Some e = at in absurd (cc)
among_at (x ∷ xs) zero e at = let same : x ≡ e = some_is x e at in subst (λ y. among (labels (x ∷ xs)) y.0 ≡ true) same (grind (arith, nat_tests))
among_at (x ∷ xs) (suc i) e at = grind (arith, nat_tests, among_at xs i e at)

-- the place of a label
pub entry_at : (entries : Store) (l : ℕ) → among (labels entries) l ≡ true → (i : ℕ) × (e : ℕ × Atom ℕ) × (slice_get entries i ≡ Some e) × (e.0 ≡ l)
entry_at [] l h = let z : false ≡ true = h in absurd (cc)
entry_at (x ∷ xs) l h =
    elim (x.0 == l) as (λ b. (x.0 == l ≡ b) → (b || among (labels xs) l) ≡ true → (i : ℕ) × (e : ℕ × Atom ℕ) × (slice_get (x ∷ xs) i ≡ Some e) × (e.0 ≡ l)) [
      | true ↦ λ t _. (0, x, refl, true-eqb x.0 l (sym t))
      | false ↦ λ _ k. let rest = entry_at xs l k in (suc rest.0, rest.1, rest.2, rest.3)
    ] refl h

-- an entry of a store whose labels are distinct is the one under its label
pub stored_at : (store : Store) (i : ℕ) (e : ℕ × Atom ℕ) → Distinct (labels store) → slice_get store i ≡ Some e → atom_at store e.0 ≡ Some e.1
stored_at [] i e d at = let z : None ≡ Some e = at in absurd (cc)
stored_at (x ∷ xs) zero e d at = let same : x ≡ e = some_is x e at in subst (λ y. atom_at (x ∷ xs) y.0 ≡ Some y.1) same (grind (arith, nat_tests))
stored_at (x ∷ xs) (suc i) e d at = grind (arith, nat_tests, among_at xs i e at, stored_at xs i e d.1 at, d.0)

pub carry_at : (store entries : Store) (i : ℕ) (e : ℕ × Atom ℕ) → Carry store (labels entries) (atoms entries) → slice_get entries i ≡ Some e → atom_at store e.0 ≡ Some e.1
carry_at store [] i e c at = let z : None ≡ Some e = at in absurd (cc)
carry_at store (x ∷ xs) zero e c at = let same : x ≡ e = some_is x e at in subst (λ y. atom_at store y.0 ≡ Some y.1) same c.0
carry_at store (x ∷ xs) (suc i) e c at = carry_at store xs i e c.1 at

-- labels with the atoms that they carry, as entries
pub carried : (store : Store) (ls : List ℕ) (as' : List (Atom ℕ)) → Carry store ls as' → (entries : Store) × (labels entries ≡ ls) × (atoms entries ≡ as')
carried store [] [] c = ([], refl, refl)
carried store (l ∷ ls) (a ∷ as') c = let rest = carried store ls as' c.1 in ((l, a) ∷ rest.0, ap (λ xs. l ∷ xs) rest.1, ap (λ xs. a ∷ xs) rest.2)
carried store ls as' c = absurd c

pub carry_both : (store : Store) (ls ms : List ℕ) (as' bs : List (Atom ℕ)) → Carry store ls as' → Carry store ms bs → Carry store (ls ++ ms) (as' ++ bs)
carry_both store [] ms [] bs c d = d
carry_both store (l ∷ ls) ms (a ∷ as') bs c d = (c.0, carry_both store ls ms as' bs c.1 d)
carry_both store ls ms as' bs c d = absurd c

pub carry_take : (store : Store) (k : ℕ) (ls : List ℕ) (as' : List (Atom ℕ)) → Carry store ls as' → Carry store (take k ls) (take k as')
carry_take store zero ls as' c = tt
carry_take store (suc k) [] [] c = tt
carry_take store (suc k) (l ∷ ls) (a ∷ as') c = (c.0, carry_take store k ls as' c.1)
carry_take store (suc k) ls as' c = absurd c

pub carry_drop : (store : Store) (k : ℕ) (ls : List ℕ) (as' : List (Atom ℕ)) → Carry store ls as' → Carry store (drop k ls) (drop k as')
carry_drop store zero ls as' c = c
carry_drop store (suc k) [] [] c = tt
carry_drop store (suc k) (l ∷ ls) (a ∷ as') c = carry_drop store k ls as' c.1
carry_drop store (suc k) ls as' c = absurd c
