-- The numbers of what was numbered, by the table after it.
use Rattle.std.proofs.Common.{◌≡◌, ℕ, suc, ◌+◌, max, List, Some, refl, ap, ap₂, subst, arith}
use Rattle.chr_value.specs.Names.{number_of, HasDistinctTexts}
use Rattle.chr_value.specs.Atoms.{Value, Int, Sym, Comp, Args, Nil, Cons, Atom, renamed, args_renamed, atom_renamed}
use Rattle.chr_value.specs.Limits.{depth, args_depth, size, args_size, IsWithin}
use Rattle.chr_value.specs.Naming.{Table, AtomIsKnown, numbered_atom}
use Rattle.chr_value.proofs.Said.{atom_says}
use Rattle.chr_value.proofs.Again.{atom_own}

-- an atom that was numbered has its names' places, and they are in the table
pub atom_back : (table : Table) (a : Atom (List ℕ)) (f : Atom ℕ) (new : Table) → numbered_atom table a ≡ Some (f, new) → HasDistinctTexts new → (atom_renamed (number_of new) a ≡ f) × AtomIsKnown new a
atom_back table a f new e apart =
    let s = atom_says table a f new e in
    let own = atom_own new f apart s.1 in
    subst (λ (t : Atom (List ℕ)). (atom_renamed (number_of new) t ≡ f) × AtomIsKnown new t) s.0 (own.1, own.2)

-- ---- other names, the same limits

mutual
  measures_same : {M N : Type 0} (f : M → N) (v : Value M) → (depth (renamed f v) ≡ depth v) × (size (renamed f v) ≡ size v)
  measures_same f (Int z) = (refl, refl)
  measures_same f (Sym s) = (refl, refl)
  measures_same f (Comp s vs) =
      let args = args_measures_same f vs in
      (ap (λ (n : ℕ). suc n) args.0, ap (λ (n : ℕ). suc n) args.1)

  args_measures_same : {M N : Type 0} (f : M → N) (vs : Args M) → (args_depth (args_renamed f vs) ≡ args_depth vs) × (args_size (args_renamed f vs) ≡ args_size vs)
  args_measures_same f Nil = (refl, refl)
  args_measures_same f (Cons v vs) =
      let one = measures_same f v in
      let args = args_measures_same f vs in
      (ap₂ (λ (m n : ℕ). max m n) one.0 args.0, ap₂ (λ (m n : ℕ). m + n) one.1 args.1)

pub within_same : {M N : Type 0} (f : M → N) (v : Value M) → IsWithin v → IsWithin (renamed f v)
within_same f v h =
    let same = measures_same f v in
    record { depth = omega (arith, h.depth, same.0); size = omega (arith, h.size, same.1) }
