-- Numbering the names of an atom, in the order of its text.
use Rattle.std.specs.Prelude.{◌≡◌, ◌<◌, ℕ, ◌||◌, true, List, [], ◌∷◌, ◌++◌, length, nat_lt, Option, Some, None, Result, Ok, Err, if◌then◌else◌}
use Rattle.std.specs.List.{AllByRecursion}
use Rattle.chr_value.specs.Bounds.{most_names}
use Rattle.chr_value.specs.Names.{has_text, number_of, with_text}
use Rattle.chr_value.specs.Atoms.{Value, Int, Sym, Comp, Args, Nil, Cons, Atom}
use Rattle.chr_value.specs.declared.names.NamesFault.{NamesFault}
use Rattle.chr_value.specs.declared.names.NamesFault.TheVariants as faults

-- the second, of what the first gives
infixl 10 ◌>>=◌
abbrev pub ◌>>=◌ : {A B : Type 0} → Option A → (A → Option B) → Option B
(Some x) >>= f = f x
None >>= f = None

-- the texts of the names, by their numbers
abbrev pub Table : Type 0
Table = List (List ℕ)

-- a name's number, and the table that has it; nothing for a 65,537th name
abbrev pub number_name : Table → List ℕ → Option (ℕ × Table)
number_name table t =
    if has_text table t || nat_lt (length table) most_names
    then Some (number_of table t, with_text table t) else None

-- the table has the term's names
abbrev mutual
  pub TermIsKnown : Table → Value (List ℕ) → Type 0
  TermIsKnown table (Int z) = Unit {0}
  TermIsKnown table (Sym t) = has_text table t ≡ true
  TermIsKnown table (Comp t vs) = (has_text table t ≡ true) × ArgsAreKnown table vs

  pub ArgsAreKnown : Table → Args (List ℕ) → Type 0
  ArgsAreKnown table Nil = Unit {0}
  ArgsAreKnown table (Cons v vs) = TermIsKnown table v × ArgsAreKnown table vs

-- the table has the atom's name and the names of its arguments
pub record AtomIsKnown (table : Table) (a : Atom (List ℕ)) : Type 0 where
  pub name : has_text table a.name ≡ true
  pub args : AllByRecursion (TermIsKnown table) a.args

-- a term by numbers, and the table that has its names: a functor's name comes before those of its
-- arguments
abbrev mutual
  pub numbered_value : Table → Value (List ℕ) → Option (Value ℕ × Table)
  numbered_value table (Int z) = Some (Int z, table)
  numbered_value table (Sym t) = number_name table t >>= λ n. Some (Sym n.0, n.1)
  numbered_value table (Comp t vs) =
      number_name table t >>= λ n. numbered_args n.1 vs >>= λ xs. Some (Comp n.0 xs.0, xs.1)

  pub numbered_args : Table → Args (List ℕ) → Option (Args ℕ × Table)
  numbered_args table Nil = Some (Nil, table)
  numbered_args table (Cons v vs) =
      numbered_value table v >>= λ x. numbered_args x.1 vs >>= λ xs. Some (Cons x.0 xs.0, xs.1)

-- terms from left to right, each over the table that the one before it left
unfoldable pub number_terms : Table → List (Value (List ℕ)) → Option (List (Value ℕ) × Table)
number_terms table [] = Some ([], table)
number_terms table (t ∷ ts) =
    numbered_value table t >>= λ x. number_terms x.1 ts >>= λ xs. Some (x.0 ∷ xs.0, xs.1)

-- an atom of the arguments in front and those to come
abbrev pub number_more : ℕ → List (Value ℕ) → Option (List (Value ℕ) × Table) →
    Option (Atom ℕ × Table)
number_more name front rest = rest >>= λ x. Some (record { name = name; args = front ++ x.0 }, x.1)

-- an atom: its name, then its arguments
unfoldable pub numbered_atom : Table → Atom (List ℕ) → Option (Atom ℕ × Table)
numbered_atom table a =
    number_name table a.name >>= λ n. number_more n.0 [] (number_terms n.1 a.args)

-- What a function answered, with the table after it, is what numbering gives, unless memory ran
-- out.
abbrev pub Named : {X Y : Type 0} → (X → Y) → Result X NamesFault → Option (Y × Table) → Table →
    Type 0
Named view (Ok x) read new = read ≡ Some (view x, new)
Named view (Err faults.NoMemory) read new = Unit {0}
Named view (Err faults.Full) read new = read ≡ None

-- the table that numbering leaves
abbrev pub table_after : {Y : Type 0} → Option (Y × Table) → Option Table
table_after (Some x) = Some x.1
table_after None = None

-- What entering names answered, with the table after it: it is the table that numbering leaves; or
-- memory ran out and the table isn't full; or the table is full and lacks one of the names.
abbrev pub IsEntered : {X Y : Type 0} → (Table → Type 0) → Result X NamesFault → Option (Y × Table)
    → Table → Type 0
IsEntered HasThem (Ok x) read new = table_after read ≡ Some new
IsEntered HasThem (Err faults.NoMemory) read new = length new < most_names
IsEntered HasThem (Err faults.Full) read new =
    (read ≡ None) × (length new ≡ most_names) × (HasThem new → ⊥)
