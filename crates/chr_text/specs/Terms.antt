-- A term from its words in text order, each with how many parentheses it stands in, and the words
-- of a term.
use Rattle.std.specs.Prelude.{ℕ, suc, ◌≤◌, List, [], ◌∷◌, ◌++◌, length, nat_lt, if◌then◌else◌}
use Rattle.std.specs.List.{list_any}
use Rattle.chr_value.specs.Atoms.{Value, Int, Sym, Comp, Args, Nil, Cons, args_of}
use Rattle.chr_value.specs.Bounds.{most_arguments}
use Rattle.chr_rule.specs.Rules.{Term, Var, Given, Open, Terms, End, And, terms_of}
use Rattle.chr_rule.specs.Terms.{is_open}

-- a word or a term, and in how many parentheses it stands
abbrev pub Placed : Type 0 → Type 0
Placed N = ℕ × Term N

-- the terms at the front that stand in more than d parentheses
abbrev pub inside : {N : Type 0} → ℕ → List (Placed N) → List (Term N)
inside d [] = []
inside d (t ∷ ts) = if nat_lt d t.0 then t.1 ∷ inside d ts else []

-- what is behind these
abbrev pub behind : {N : Type 0} → ℕ → List (Placed N) → List (Placed N)
behind d [] = []
behind d (t ∷ ts) = if nat_lt d t.0 then behind d ts else t ∷ ts

-- the values among terms
abbrev pub values : {N : Type 0} → List (Term N) → List (Value N)
values [] = []
values (Given v ∷ ts) = v ∷ values ts
values (Var x ∷ ts) = values ts
values (Open s us ∷ ts) = values ts

-- a functor with its arguments: a value where all of these are values
abbrev pub functor_with : {N : Type 0} → N → List (Term N) → Term N
functor_with s ts =
    if list_any is_open ts then Open s (terms_of ts) else Given (Comp s (args_of (values ts)))

-- a word with its arguments. Only a name has some.
abbrev pub with_args : {N : Type 0} → Term N → List (Term N) → Term N
with_args (Given (Sym s)) (t ∷ ts) = functor_with s (t ∷ ts)
with_args w ts = w

-- the terms of words, from the last word to the first: each word takes the terms behind it that
-- stand in more parentheses
abbrev pub terms_of_words : {N : Type 0} → List (Placed N) → List (Placed N)
terms_of_words [] = []
terms_of_words (w ∷ ws) =
    (w.0, with_args w.1 (inside w.0 (terms_of_words ws))) ∷ behind w.0 (terms_of_words ws)

-- each word takes at most most_arguments terms
abbrev pub TakeFew : {N : Type 0} → List (Placed N) → Type 0
TakeFew [] = Unit {0}
TakeFew (w ∷ ws) = (length (inside w.0 (terms_of_words ws)) ≤ most_arguments) × TakeFew ws

abbrev pub first_of : {N : Type 0} → List (Placed N) → Term N
first_of [] = Var 0
first_of (t ∷ ts) = t.1

abbrev pub term_of_words : {N : Type 0} → List (Placed N) → Term N
term_of_words ws = first_of (terms_of_words ws)

-- the words of a value that stands in d parentheses, in text order
abbrev mutual
  pub value_words : {N : Type 0} → ℕ → Value N → List (Placed N)
  value_words d (Int z) = (d, Given (Int z)) ∷ []
  value_words d (Sym s) = (d, Given (Sym s)) ∷ []
  value_words d (Comp s vs) = (d, Given (Sym s)) ∷ args_words (suc d) vs

  pub args_words : {N : Type 0} → ℕ → Args N → List (Placed N)
  args_words d Nil = []
  args_words d (Cons v vs) = value_words d v ++ args_words d vs

-- the same of a term
abbrev mutual
  pub words_of : {N : Type 0} → ℕ → Term N → List (Placed N)
  words_of d (Var x) = (d, Var x) ∷ []
  words_of d (Given v) = value_words d v
  words_of d (Open s ts) = (d, Given (Sym s)) ∷ terms_words (suc d) ts

  pub terms_words : {N : Type 0} → ℕ → Terms N → List (Placed N)
  terms_words d End = []
  terms_words d (And t ts) = words_of d t ++ terms_words d ts
