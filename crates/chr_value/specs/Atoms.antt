-- Values and atoms as clauses see them: over the numbers of names, or over their texts.
use Rattle.std.specs.Prelude.{ℕ, suc, ℤ, ◌<◌, List, [], ◌∷◌, map}
use Rattle.std.specs.List.{slice_index_or, AllByRecursion}
use Rattle.chr_value.specs.declared.value.Value.{Value as CodeValue, fold-Value}
use Rattle.chr_value.specs.declared.value.Value.TheOpen.{Value-F, Comp-F}
use Rattle.chr_value.specs.declared.value.Comp.{Comp as CodeComp}
use Rattle.chr_value.specs.declared.value.ValueRef.{ValueRef}
use Rattle.chr_value.specs.declared.value.ValueRef.TheVariants as refs

-- a number, a symbol, or a functor with its arguments
mutual
  pub data Value (N : Type 0) : Type 0 where
    Int : ℤ → Value N
    Sym : N → Value N
    Comp : N → Args N → Value N

  -- arguments of a functor, one after another
  pub data Args (N : Type 0) : Type 0 where
    Nil : Args N
    Cons : Value N → Args N → Args N

-- an atom: a predicate's name and its arguments
pub record Atom (N : Type 0) : Type 0 where
  pub name : N
  pub args : List (Value N)

-- a list of values as arguments
abbrev pub args_of : {N : Type 0} → List (Value N) → Args N
args_of [] = Nil
args_of (v ∷ vs) = Cons v (args_of vs)

-- how many arguments there are
abbrev pub args_count : {N : Type 0} → Args N → ℕ
args_count Nil = 0
args_count (Cons v vs) = suc (args_count vs)

-- one level of a value, with the values in it already seen as what they say
abbrev pub ground_step : {A : Type 0} → Value-F A (Value ℕ) (Value ℕ) → Value ℕ
ground_step (Value-F.Int z) = Int z
ground_step (Value-F.Sym s) = Sym s.number
ground_step (Value-F.Comp c) = c.value

abbrev pub comp_step : {A : Type 0} → Comp-F A (Value ℕ) (Value ℕ) → Value ℕ
comp_step c = Comp c.functor.number (args_of c.args.list.items)

-- what a value says
abbrev pub ground : {A : Type 0} → CodeValue A → Value ℕ
ground {A} = fold-Value A (Value ℕ) (Value ℕ) ground_step comp_step

abbrev pub grounds : {A : Type 0} → List (CodeValue A) → List (Value ℕ)
grounds vs = map ground vs

-- what a compound value says
abbrev pub ground_comp : {A : Type 0} → CodeComp A → Value ℕ
ground_comp c = Comp c.functor.number (args_of (grounds c.args.list.items))

-- what a value that lies elsewhere says
abbrev pub said : {A : Type 0} → ValueRef A → Value ℕ
said (refs.Int z) = Int z
said (refs.Sym s) = Sym s.number
said (refs.Comp c) = ground_comp c.now

-- the same over other names
abbrev mutual
  pub renamed : {M N : Type 0} → (M → N) → Value M → Value N
  renamed f (Int z) = Int z
  renamed f (Sym s) = Sym (f s)
  renamed f (Comp s vs) = Comp (f s) (args_renamed f vs)

  pub args_renamed : {M N : Type 0} → (M → N) → Args M → Args N
  args_renamed f Nil = Nil
  args_renamed f (Cons v vs) = Cons (renamed f v) (args_renamed f vs)

abbrev pub atom_renamed : {M N : Type 0} → (M → N) → Atom M → Atom N
atom_renamed f a = record { name = f a.name; args = map (renamed f) a.args }

-- a name's text, which is empty for a number outside the table
abbrev pub text_of : List (List ℕ) → ℕ → List ℕ
text_of table n = slice_index_or table n []

-- an atom by the texts of its names
abbrev pub by_texts : List (List ℕ) → Atom ℕ → Atom (List ℕ)
by_texts table a = atom_renamed (text_of table) a

-- a table of n names has the term's names
abbrev mutual
  pub TermIsNamed : ℕ → Value ℕ → Type 0
  TermIsNamed n (Int z) = Unit {0}
  TermIsNamed n (Sym s) = s < n
  TermIsNamed n (Comp s vs) = (s < n) × ArgsAreNamed n vs

  pub ArgsAreNamed : ℕ → Args ℕ → Type 0
  ArgsAreNamed n Nil = Unit {0}
  ArgsAreNamed n (Cons v vs) = TermIsNamed n v × ArgsAreNamed n vs

-- a table of n names has the atom's name and the names of its arguments
pub record AtomIsNamed (n : ℕ) (a : Atom ℕ) : Type 0 where
  pub name : a.name < n
  pub args : AllByRecursion (TermIsNamed n) a.args
