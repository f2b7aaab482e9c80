-- An atom of a table that has a spelling has its names in the table, and keeps its texts in each table that begins so.
use Rattle.std.proofs.Common.{◌≡◌, ◌<◌, ℕ, zero, suc, true, List, [], ◌∷◌, length, take, map, refl, ap₂, arith}
use Rattle.std.specs.List.{AllByRecursion}
use Rattle.chr_value.specs.Atoms.{Value, Int, Sym, Comp, Args, Nil, Cons, Atom, TermIsNamed, ArgsAreNamed, AtomIsNamed, renamed, args_renamed, text_of, by_texts}
use Rattle.chr_value.specs.Naming.{Table}
use Rattle.chr_value.specs.Spelling.{begins_lower, FitsTerm, ArgsFit, FitsAtom}
use Rattle.chr_value.proofs.Lists.{atom}
use Rattle.chr_value.proofs.Said.{text_kept, term_kept}

-- a name's text is not empty
text_inside : (table : Table) (n : ℕ) → begins_lower (text_of table n) ≡ true → n < length table
text_inside [] n e = absurd cc
text_inside (t ∷ ts) zero e = omega arith
text_inside (t ∷ ts) (suc n) e = omega (arith, text_inside ts n e)

mutual
  term_inside : (table : Table) (v : Value ℕ) → FitsTerm (renamed (text_of table) v) → TermIsNamed (length table) v
  term_inside table (Int z) fits = tt
  term_inside table (Sym n) fits = text_inside table n fits.first
  term_inside table (Comp n vs) fits = (text_inside table n fits.0.first, args_inside table vs fits.3)

  args_inside : (table : Table) (vs : Args ℕ) → ArgsFit (args_renamed (text_of table) vs) → ArgsAreNamed (length table) vs
  args_inside table Nil fits = tt
  args_inside table (Cons v vs) fits = (term_inside table v fits.0, args_inside table vs fits.1)

terms_inside : (table : Table) (vs : List (Value ℕ)) → AllByRecursion FitsTerm (map (renamed (text_of table)) vs) → AllByRecursion (TermIsNamed (length table)) vs
terms_inside table [] fits = tt
terms_inside table (v ∷ vs) fits = (term_inside table v fits.0, terms_inside table vs fits.1)

pub atom_inside : (table : Table) (a : Atom ℕ) → FitsAtom (by_texts table a) → AtomIsNamed (length table) a
atom_inside table a fits = record { name = text_inside table a.name fits.name.first; args = terms_inside table a.args fits.args }

terms_kept : (a b : Table) (vs : List (Value ℕ)) → take (length a) b ≡ a → AllByRecursion (TermIsNamed (length a)) vs → map (renamed (text_of b)) vs ≡ map (renamed (text_of a)) vs
terms_kept a b [] h named = refl
terms_kept a b (v ∷ vs) h named = ap₂ (λ (w : Value (List ℕ)) (ws : List (Value (List ℕ))). w ∷ ws) (term_kept a b v h named.0) (terms_kept a b vs h named.1)

pub atom_kept : (a b : Table) (f : Atom ℕ) → take (length a) b ≡ a → AtomIsNamed (length a) f → by_texts b f ≡ by_texts a f
atom_kept a b f h named = ap₂ (λ (n : List ℕ) vs. atom n vs) (text_kept a b f.name h named.name) (terms_kept a b f.args h named.args)
