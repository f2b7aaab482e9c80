-- Laws of stores.
use Rattle.std.proofs.Common.{◌≡◌, ◌≢◌, ℕ, ◌+◌, ◌≤◌, true, false, ◌||◌, ◌==◌, if◌then◌else◌, List, [], ◌∷◌, ◌++◌, Some, None, refl, sym, subst, arith, true-eqb}
use Rattle.std.proofs.lemmas.Bool.Decides.{nat_tests}
use Rattle.chr_value.specs.Atoms.{Atom}
use Rattle.chr_model.specs.Abstract.{Rules}
use Rattle.chr_model.specs.Stores.{Store, atom_at, drop_label, without, labels, among, Distinct, Carry, Labelled}
use Rattle.chr_model.specs.Logs.{times}

-- a label that isn't the new one was there before
pub atom_at-old : (st : Store) (n : ℕ) (a : Atom ℕ) (l : ℕ) (x : Atom ℕ) → n ≢ l → atom_at (st ++ (n, a) ∷ []) l ≡ Some x → atom_at st l ≡ Some x
atom_at-old [] n a l x ne h = grind (arith, nat_tests)
atom_at-old (e ∷ es) n a l x ne h = grind (arith, nat_tests, atom_at-old es n a l x ne)

pub atom_at-drop : (st : Store) (l q : ℕ) → atom_at (drop_label l st) q ≡ (if l == q then None else atom_at st q)
atom_at-drop [] l q = grind (arith, nat_tests)
atom_at-drop (e ∷ es) l q = grind (arith, nat_tests, atom_at-drop es l q)

pub among-append : (xs ys : List ℕ) (l : ℕ) → among (xs ++ ys) l ≡ (among xs l || among ys l)
among-append [] ys l = refl
among-append (x ∷ xs) ys l = grind (arith, nat_tests, among-append xs ys l)

pub among-left : (xs ys : List ℕ) (l : ℕ) → among xs l ≡ true → among (xs ++ ys) l ≡ true
among-left xs ys l h = grind (arith, nat_tests, among-append xs ys l)

pub among-right : (xs ys : List ℕ) (l : ℕ) → among ys l ≡ true → among (xs ++ ys) l ≡ true
among-right xs ys l h = grind (arith, nat_tests, among-append xs ys l)

pub among-itself : (x : ℕ) (xs : List ℕ) → among (x ∷ xs) x ≡ true
among-itself x xs = grind (arith, nat_tests)

pub among-more : (x : ℕ) (xs : List ℕ) (l : ℕ) → among xs l ≡ true → among (x ∷ xs) l ≡ true
among-more x xs l h = grind (arith, nat_tests)

pub atom_at-without : (ls : List ℕ) (st : Store) (q : ℕ) → atom_at (without ls st) q ≡ (if among ls q then None else atom_at st q)
atom_at-without [] st q = refl
atom_at-without (l ∷ ls) st q = grind (arith, nat_tests, atom_at-without ls (drop_label l st) q, atom_at-drop st l q)

pub atom_at-kept : (ls : List ℕ) (st : Store) (q : ℕ) (a : Atom ℕ) → atom_at (without ls st) q ≡ Some a → (atom_at st q ≡ Some a) × (among ls q ≡ false)
atom_at-kept ls st q a h = (grind (arith, nat_tests, atom_at-without ls st q), grind (arith, nat_tests, atom_at-without ls st q))

-- what carries its atoms in one store carries them in another, if each of its labels does
pub Carry-move : (s n : Store) (ls : List ℕ) (as' : List (Atom ℕ)) → ((l : ℕ) (a : Atom ℕ) → among ls l ≡ true → atom_at s l ≡ Some a → atom_at n l ≡ Some a) → Carry s ls as' → Carry n ls as'
Carry-move s n [] [] f h = tt
Carry-move s n (l ∷ ls) (a ∷ as') f h = (f l a (among-itself l ls) h.0, Carry-move s n ls as' (λ q b i e. f q b (among-more l ls q i) e) h.1)
Carry-move s n [] (a ∷ as') f h = h
Carry-move s n (l ∷ ls) [] f h = h

pub Carry-there : (s : Store) (ls : List ℕ) (as' : List (Atom ℕ)) (l : ℕ) → among ls l ≡ true → Carry s ls as' → (a : Atom ℕ) × (atom_at s l ≡ Some a)
Carry-there s (x ∷ xs) (a ∷ as') l i h =
    elim (x == l) as (λ b. (x == l ≡ b) → (b || among xs l) ≡ true → (c : Atom ℕ) × (atom_at s l ≡ Some c)) [
      | true ↦ λ e _. (a, subst (λ q. atom_at s q ≡ Some a) (true-eqb x l (sym e)) h.0)
      | false ↦ λ _ j. Carry-there s xs as' l j h.1
    ] refl i
Carry-there s xs as' l i h = grind arith

-- the atoms that labels carry are fixed
pub Carry-same : (st : Store) (ls : List ℕ) (xs ys : List (Atom ℕ)) → Carry st ls xs → Carry st ls ys → xs ≡ ys
Carry-same st [] [] [] c d = refl
Carry-same st (l ∷ ls) (x ∷ xs) (y ∷ ys) c d = grind (arith, nat_tests, Carry-same st ls xs ys c.1 d.1)
Carry-same st ls xs ys c d = grind arith

-- an instance over a store, whose labels are in another with the same atoms
pub Labelled-move : (I : Rules) (s n : Store) (r : ℕ) (kept removed : List ℕ) (body : List (Atom ℕ)) → ((l : ℕ) (a : Atom ℕ) → among (kept ++ removed) l ≡ true → atom_at s l ≡ Some a → atom_at n l ≡ Some a) → Labelled I s r kept removed body → Labelled I n r kept removed body
Labelled-move I s n r kept removed body f i = record {
  kept_atoms = i.kept_atoms;
  removed_atoms = i.removed_atoms;
  instance = i.instance;
  distinct = i.distinct;
  kept_there = Carry-move s n kept i.kept_atoms (λ l a h. f l a (among-left kept removed l h)) i.kept_there;
  removed_there = Carry-move s n removed i.removed_atoms (λ l a h. f l a (among-right kept removed l h)) i.removed_there;
}

pub Labelled-there : (I : Rules) (s : Store) (r : ℕ) (kept removed : List ℕ) (body : List (Atom ℕ)) (l : ℕ) → among (kept ++ removed) l ≡ true → Labelled I s r kept removed body → (a : Atom ℕ) × (atom_at s l ≡ Some a)
Labelled-there I s r kept removed body l h i =
    elim (among kept l) as (λ b. (among kept l ≡ b) → (a : Atom ℕ) × (atom_at s l ≡ Some a)) [
      | true ↦ λ e. Carry-there s kept i.kept_atoms l e i.kept_there
      | false ↦ λ e. Carry-there s removed i.removed_atoms l (grind (arith, nat_tests, among-append kept removed l)) i.removed_there
    ] refl

-- distinct labels
pub apart : (xs ys : List ℕ) (l : ℕ) → Distinct (xs ++ ys) → among xs l ≡ true → among ys l ≡ false
apart [] ys l d h = absurd (cc)
apart (x ∷ xs) ys l d h = grind (arith, nat_tests, apart xs ys l d.1, among-append xs ys x, d.0)

pub Distinct-left : (xs ys : List ℕ) → Distinct (xs ++ ys) → Distinct xs
Distinct-left [] ys d = tt
Distinct-left (x ∷ xs) ys d = (grind (arith, nat_tests, among-append xs ys x, d.0), Distinct-left xs ys d.1)

pub Distinct-right : (xs ys : List ℕ) → Distinct (xs ++ ys) → Distinct ys
Distinct-right [] ys h = h
Distinct-right (x ∷ xs) ys h = Distinct-right xs ys h.1

-- how often a label stands in a list
pub times-append : (l : ℕ) (xs ys : List ℕ) → times l (xs ++ ys) ≡ times l xs + times l ys
times-append l [] ys = omega arith
times-append l (x ∷ xs) ys = grind (arith, nat_tests, times-append l xs ys)

pub times-drop : (l q : ℕ) (st : Store) → times l (labels (drop_label q st)) ≡ (if q == l then 0 else times l (labels st))
times-drop l q [] = grind (arith, nat_tests)
times-drop l q (e ∷ es) = grind (arith, nat_tests, times-drop l q es)

pub times-without : (l : ℕ) (ls : List ℕ) (st : Store) → times l (labels (without ls st)) ≡ (if among ls l then 0 else times l (labels st))
times-without l [] st = refl
times-without l (q ∷ ls) st = grind (arith, nat_tests, times-without l ls (drop_label q st), times-drop l q st)

pub times-none : (l : ℕ) (ls : List ℕ) → among ls l ≡ false → times l ls ≡ 0
times-none l [] h = refl
times-none l (x ∷ xs) h = grind (arith, nat_tests, times-none l xs)

pub times-distinct : (l : ℕ) (ls : List ℕ) → Distinct ls → times l ls ≤ 1
times-distinct l [] h = omega arith
times-distinct l (x ∷ xs) h = grind (arith, nat_tests, times-distinct l xs h.1, times-none l xs, h.0)

pub times-there : (l : ℕ) (st : Store) (a : Atom ℕ) → atom_at st l ≡ Some a → 1 ≤ times l (labels st)
times-there l [] a h = cc
times-there l (e ∷ es) a h = grind (arith, nat_tests, times-there l es a)
