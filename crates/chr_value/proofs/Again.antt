-- What a table's names say is numbered as it was.
use Rattle.std.proofs.Common.{◌≡◌, ◌<◌, ℕ, zero, suc, Bool, true, false, ◌||◌, List, [], ◌∷◌, length, map, Option, Some, Result, refl, ap, ap₂, ◌∙◌, arith, subst}
use Rattle.std.specs.List.{AllByRecursion}
use Rattle.std.proofs.lemmas.Cmp.{nat_list_eq_equiv}
use Rattle.chr_value.specs.Names.{is_text, has_text, number_of, HasDistinctTexts}
use Rattle.chr_value.specs.Atoms.{Value, Int, Sym, Comp, Args, Nil, Cons, Atom, TermIsNamed, ArgsAreNamed, AtomIsNamed, renamed, args_renamed, atom_renamed, text_of, by_texts}
use Rattle.chr_value.specs.declared.names.NamesFault.{NamesFault}
use Rattle.chr_value.proofs.Lists.{atom}
use Rattle.chr_value.proofs.Texts.{neither}
use Rattle.chr_value.specs.Naming.{Table, TermIsKnown, ArgsAreKnown, AtomIsKnown, Named, number_name, numbered_value, numbered_args, number_terms, numbered_atom}

or-true : (a : Bool) → (a || true) ≡ true
or-true true = refl
or-true false = refl

-- a text that a table lacks is none of its texts
lacks : (t : List ℕ) (table : Table) (n : ℕ) → has_text table t ≡ false → n < length table → is_text t (text_of table n) ≡ false
lacks t [] n h lt = absurd (omega arith)
lacks t (k ∷ ks) zero h lt = (neither (is_text t k) (has_text ks t) h).0
lacks t (k ∷ ks) (suc n) h lt = lacks t ks n (neither (is_text t k) (has_text ks t) h).1 (omega arith)

has-own : (table : Table) (n : ℕ) → n < length table → has_text table (text_of table n) ≡ true
has-own [] n lt = absurd (omega arith)
has-own (t ∷ ts) zero lt = rw (nat_list_eq_equiv.refl t) refl
has-own (t ∷ ts) (suc n) lt = rw (has-own ts n (omega arith)) (or-true (is_text (text_of ts n) t))

number-own : (table : Table) (n : ℕ) → HasDistinctTexts table → n < length table → number_of table (text_of table n) ≡ n
number-own [] n apart lt = absurd (omega arith)
number-own (t ∷ ts) zero apart lt = rw (nat_list_eq_equiv.refl t) refl
number-own (t ∷ ts) (suc n) apart lt = rw (nat_list_eq_equiv.symm (text_of ts n) t, lacks t ts n apart.0 (omega arith), number-own ts n apart.1 (omega arith)) (omega arith)

name_again : (table : Table) (n : ℕ) → HasDistinctTexts table → n < length table → number_name table (text_of table n) ≡ Some (n, table)
name_again table n apart lt = rw (has-own table n lt, number-own table n apart lt) refl

-- what the names of a table say is numbered as it was, and gets its numbers back; the table has its names
mutual
  term_own : (table : Table) (v : Value ℕ) → HasDistinctTexts table → TermIsNamed (length table) v
      → (numbered_value table (renamed (text_of table) v) ≡ Some (v, table)) × (renamed (number_of table) (renamed (text_of table) v) ≡ v) × TermIsKnown table (renamed (text_of table) v)
  term_own table (Int z) apart named = (refl, refl, tt)
  term_own table (Sym n) apart named = (rw (name_again table n apart named) refl, ap (λ (m : ℕ). Sym m) (number-own table n apart named), has-own table n named)
  term_own table (Comp n vs) apart named =
      let rest = args_own table vs apart named.1 in
      (rw (name_again table n apart named.0, rest.0) refl, ap₂ (λ (m : ℕ) (us : Args ℕ). Comp m us) (number-own table n apart named.0) rest.1, (has-own table n named.0, rest.2))

  args_own : (table : Table) (vs : Args ℕ) → HasDistinctTexts table → ArgsAreNamed (length table) vs
      → (numbered_args table (args_renamed (text_of table) vs) ≡ Some (vs, table)) × (args_renamed (number_of table) (args_renamed (text_of table) vs) ≡ vs) × ArgsAreKnown table (args_renamed (text_of table) vs)
  args_own table Nil apart named = (refl, refl, tt)
  args_own table (Cons v vs) apart named =
      let one = term_own table v apart named.0 in
      let rest = args_own table vs apart named.1 in
      (rw (one.0, rest.0) refl, ap₂ (λ (w : Value ℕ) (us : Args ℕ). Cons w us) one.1 rest.1, (one.2, rest.2))

terms_own : (table : Table) (vs : List (Value ℕ)) → HasDistinctTexts table → AllByRecursion (TermIsNamed (length table)) vs → (number_terms table (map (renamed (text_of table)) vs) ≡ Some (vs, table))
    × (map (renamed (number_of table)) (map (renamed (text_of table)) vs) ≡ vs) × AllByRecursion (TermIsKnown table) (map (renamed (text_of table)) vs)
unfolding number_terms
terms_own table [] apart named = (refl, refl, tt)
terms_own table (v ∷ vs) apart named =
    let one = term_own table v apart named.0 in
    let rest = terms_own table vs apart named.1 in
    (rw (one.0, rest.0) refl, ap₂ (λ (w : Value ℕ) (us : List (Value ℕ)). w ∷ us) one.1 rest.1, (one.2, rest.2))

pub atom_own : (table : Table) (a : Atom ℕ) → HasDistinctTexts table → AtomIsNamed (length table) a → (numbered_atom table (by_texts table a) ≡ Some (a, table))
    × (atom_renamed (number_of table) (by_texts table a) ≡ a) × AtomIsKnown table (by_texts table a)
unfolding numbered_atom
atom_own table a apart named =
    let args = terms_own table a.args apart named.args in
    (rw (name_again table a.name apart named.name, args.0) refl, ap₂ (λ (n : ℕ) vs. atom n vs) (number-own table a.name apart named.name) args.1, record { name = has-own table a.name named.name; args = args.2 })

pub fact_again : (table : Table) (a : Atom ℕ) → HasDistinctTexts table → AtomIsNamed (length table) a → numbered_atom table (by_texts table a) ≡ Some (a, table)
fact_again table a apart named = (atom_own table a apart named).0

-- what numbering a text gives, where an atom of the table was written so
pub read_again : {X : Type 0} (view : X → Atom ℕ) (table new : Table) (text : Atom (List ℕ)) (r : Result X NamesFault) (a : Atom ℕ) → Named view r (numbered_atom table text) new → HasDistinctTexts table → AtomIsNamed (length table) a → text ≡ by_texts table a → Named view r (Some (a, table)) new
read_again view table new text r a gives apart named is = subst (λ (w : Option (Atom ℕ × Table)). Named view r w new) (ap (numbered_atom table) is ∙ fact_again table a apart named) gives
