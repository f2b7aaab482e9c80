-- A label in a rising store, an atom's argument at a place, and what a look-up gives.
use Rattle.std.proofs.Common.{◌≡◌, ℕ, ◌<◌, true, false, ◌==◌, if◌then◌else◌, [], ◌∷◌, Some, None, refl, sym, subst, true-eqb}
use Rattle.std.specs.List.{AllByRecursion}
use Rattle.chr_value.specs.Atoms.{Atom}
use Rattle.chr_value.specs.Stores.{Store, atom_at}

-- a label in front, or after it a greater one
pub above : (l : ℕ) (es : Store) (m : ℕ) (a : Atom ℕ) → AllByRecursion (λ f. l < f.0) es → atom_at es m ≡ Some a → l < m
above l [] m a h at = let z : None ≡ Some a = at in absurd (cc)
above l (e ∷ es) m a h at =
    elim (e.0 == m) as (λ b. (e.0 == m ≡ b) → (if b then Some e.1 else atom_at es m) ≡ Some a → l < m) [
      | true ↦ λ t _. subst (λ z. l < z) (true-eqb e.0 m (sym t)) h.0
      | false ↦ λ t k. above l es m a h.1 k
    ] refl at
