-- A store with an atom shown under its next label.
use Rattle.std.proofs.Common.{◌≡◌, ℕ, ◌<◌, Bool, ◌==◌, if◌then◌else◌, [], ◌∷◌, ◌++◌, Option, Some, None, refl, sym, ap, arith, ◌∙◌, eq-eqb}
use Rattle.std.proofs.lemmas.Bool.Decides.{nat_tests}
use Rattle.chr_value.specs.Atoms.{Atom}
use Rattle.chr_value.specs.Stores.{Store, atom_at}
use Rattle.chr_store.specs.Labels.{LabelledStore, GivenBefore, IsLabelled}
use Rattle.chr_store.specs.Keys.{Query, Matches, IsLeastMatch}
use Rattle.chr_store.specs.Views.{seen_with, IsSeen}
use Rattle.chr_store.proofs.Table.{labelled_push}

-- an atom under a new label leaves the others as they were
others_stay : (n l : ℕ) (a : Atom ℕ) (es : Store) → (n ≡ l → ⊥) → atom_at (es ++ (n, a) ∷ []) l ≡ atom_at es l
others_stay n l a [] h = grind (arith, nat_tests, h)
others_stay n l a (e ∷ es) h = ap (λ (z : Option (Atom ℕ)). if e.0 == l then Some e.1 else z) (others_stay n l a es h)

last_is : (n : ℕ) (a : Atom ℕ) (es : Store) → GivenBefore n es → atom_at (es ++ (n, a) ∷ []) n ≡ Some a
last_is n a [] h = ap (λ (b : Bool). if b then Some a else None) (eq-eqb n n refl)
last_is n a (e ∷ es) h = let under : e.0 < n = h.0.1 in grind (arith, nat_tests, last_is n a es h.1)

pub seen_labelled : (s : LabelledStore) (fresh : Option (Atom ℕ)) (active : ℕ) → IsSeen s fresh active → IsLabelled (seen_with s fresh)
seen_labelled s None active h = h.labelled
seen_labelled s (Some a) active h = labelled_push s.next s.limit a s.entries h.next.1 h.labelled

-- the atom that is shown, and each other one
pub seen_active : (s : LabelledStore) (fresh : Option (Atom ℕ)) (a : Atom ℕ) (active l : ℕ) → IsSeen s fresh active → fresh ≡ Some a → l ≡ active → Some a ≡ atom_at (seen_with s fresh).entries l
seen_active s None a active l h is e = absurd (cc)
seen_active s (Some b) a active l h is e = sym is ∙ sym (ap (λ (m : ℕ). atom_at (s.entries ++ (s.next, b) ∷ []) m) (e ∙ h.next.0) ∙ last_is s.next b s.entries h.labelled.given)

pub seen_other : (s : LabelledStore) (fresh : Option (Atom ℕ)) (active l : ℕ) → IsSeen s fresh active → (l ≡ active → ⊥) → atom_at s.entries l ≡ atom_at (seen_with s fresh).entries l
seen_other s None active l h d = refl
seen_other s (Some a) active l h d = sym (others_stay s.next l a s.entries (λ e. d (sym e ∙ sym h.next.0)))

-- a look-up finds the same in a store that has the same atoms under the labels that are looked at
matches_in : (es fs : Store) (q : Query) (l : ℕ) → ((l : ℕ) → l < q.below → atom_at es l ≡ atom_at fs l) → Matches es q l → Matches fs q l
matches_in es fs q l same m = record { atom = m.atom; there = sym (same l m.under) ∙ m.there; pred = m.pred; key = m.key; over = m.over; under = m.under }

least_in : (es fs : Store) (q : Query) (found : Option ℕ) → ((l : ℕ) → l < q.below → atom_at es l ≡ atom_at fs l) → IsLeastMatch es q found → IsLeastMatch fs q found
least_in es fs q None same least = λ l m. least l (matches_in fs es q l (λ l u. sym (same l u)) m)
least_in es fs q (Some l) same least = (matches_in es fs q l same least.0, λ m w. least.1 m (matches_in fs es q m (λ l u. sym (same l u)) w))

-- a look-up of older labels finds the same with the atom and without
pub seen_least : (s : LabelledStore) (fresh : Option (Atom ℕ)) (q : Query) (found : Option ℕ) → IsSeen s fresh q.below → IsLeastMatch s.entries q found → IsLeastMatch (seen_with s fresh).entries q found
seen_least s fresh q found h = least_in s.entries (seen_with s fresh).entries q found (λ l u. seen_other s fresh q.below l h (λ e. absurd (omega arith)))
