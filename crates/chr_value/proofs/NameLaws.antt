-- Numbering names, one after another.
use Rattle.std.proofs.Common.{◌≡◌, ℕ, Bool, true, false, cond, List, [], ◌∷◌, ◌++◌, length, take, Option, Some, None, refl, sym, ap, ◌∙◌, append_assoc, arith, length-take, take_at, take-take, append-nil}
use Rattle.chr_value.specs.Atoms.{Value, Atom}
use Rattle.chr_value.specs.Naming.{◌>>=◌, Table, number_name, numbered_value, number_terms, number_more, numbered_atom}

pub grown : (table : Table) (t : List ℕ) (b : Bool) → take (length table) (cond b table (table ++ t ∷ [])) ≡ table
grown table t true = ap (take (length table)) (sym (append-nil table)) ∙ take_at table [] (length table) refl
grown table t false = take_at table (t ∷ []) (length table) refl

-- ---- an atom's arguments

pub first_done : (table new : Table) (a : Atom (List ℕ)) (n : ℕ) → number_name table a.name ≡ Some (n, new) → number_more n [] (number_terms new a.args) ≡ numbered_atom table a
unfolding numbered_atom
first_done table new a n h = rw h refl

regroup : (name : ℕ) (front : List (Value ℕ)) (v : Value ℕ) (rest : Option (List (Value ℕ) × Table)) → number_more name front (rest >>= λ xs. Some (v ∷ xs.0, xs.1)) ≡ number_more name (front ++ v ∷ []) rest
regroup name front v (Some x) = ap (λ (w : List (Value ℕ)). Some (record { name = name; args = w }, x.1)) (sym (append_assoc front (v ∷ []) x.0))
regroup name front v None = refl

pub one_more : (name : ℕ) (front : List (Value ℕ)) (table new : Table) (t : Value (List ℕ)) (ts all : List (Value (List ℕ))) (v : Value ℕ) (total : Option (Atom ℕ × Table)) → all ≡ t ∷ ts → numbered_value table t ≡ Some (v, new)
    → number_more name front (number_terms table all) ≡ total → number_more name (front ++ v ∷ []) (number_terms new ts) ≡ total
unfolding number_terms
one_more name front table new t ts all v total is h so_far = sym (regroup name front v (number_terms new ts)) ∙ sym (rw (is, h) refl) ∙ so_far

pub all_done : (name : ℕ) (front : List (Value ℕ)) (table : Table) (all : List (Value (List ℕ))) (total : Option (Atom ℕ × Table)) → all ≡ [] → number_more name front (number_terms table all) ≡ total → total ≡ Some (record { name = name; args = front }, table)
unfolding number_terms
all_done name front table all total is so_far = sym so_far ∙ (rw is refl) ∙ ap (λ (w : List (Value ℕ)). Some (record { name = name; args = w }, table)) (append-nil front)

pub keeps-then : {X : Type 0} (a b c : List X) → take (length a) b ≡ a → take (length b) c ≡ b → take (length a) c ≡ a
keeps-then a b c h k = sym (take-take (length a) (length b) c (omega (arith, ap length h, length-take (length a) b))) ∙ ap (take (length a)) k ∙ h
