-- Numbering the names of a rule, in the order of its text.
use Rattle.std.specs.Prelude.{ℕ, List, [], ◌∷◌, ◌++◌, Option, Some, None, Result, Ok, Err}
use Rattle.chr_lex.specs.declared.fault.Kind.{Kind}
use Rattle.chr_lex.specs.declared.fault.Kind.TheVariants.{NamesFull}
use Rattle.chr_value.specs.Naming.{◌>>=◌, Table, number_name, numbered_value}
use Rattle.chr_rule.specs.Rules.{Term, Var, Given, Open, Terms, End, And, RuleAtom, Comparison, Compared, Same, Differ, BodyItem, Is, Add, Simpagation, of_parts}
use Rattle.chr_text.specs.Terms.{Placed}

-- each from left to right, over the table that the one before it left
abbrev pub each : {A B : Type 0} → (Table → A → Option (B × Table)) → Table → List A →
    Option (List B × Table)
each f table [] = Some ([], table)
each f table (a ∷ as') = f table a >>= λ x. each f x.1 as' >>= λ xs. Some (x.0 ∷ xs.0, xs.1)

-- the same after some that are there
abbrev pub more : {B : Type 0} → List B → Option (List B × Table) → Option (List B × Table)
more front rest = rest >>= λ x. Some (front ++ x.0, x.1)

-- of one, if there is one
abbrev pub maybe : {A B : Type 0} → (Table → A → Option (B × Table)) → Table → Option A →
    Option (Option B × Table)
maybe f table None = Some (None, table)
maybe f table (Some a) = f table a >>= λ x. Some (Some x.0, x.1)

abbrev pub put : {B : Type 0} → Option B → List B
put None = []
put (Some x) = x ∷ []

-- a term: a functor's name comes before those of its arguments
abbrev mutual
  pub numbered_term : Table → Term (List ℕ) → Option (Term ℕ × Table)
  numbered_term table (Var x) = Some (Var x, table)
  numbered_term table (Given t) = numbered_value table t >>= λ x. Some (Given x.0, x.1)
  numbered_term table (Open t ts) =
      number_name table t >>= λ n. numbered_terms n.1 ts >>= λ xs. Some (Open n.0 xs.0, xs.1)

  pub numbered_terms : Table → Terms (List ℕ) → Option (Terms ℕ × Table)
  numbered_terms table End = Some (End, table)
  numbered_terms table (And t ts) =
      numbered_term table t >>= λ x. numbered_terms x.1 ts >>= λ xs. Some (And x.0 xs.0, xs.1)

-- a word of a term where it stands
abbrev pub numbered_word : Table → Placed (List ℕ) → Option (Placed ℕ × Table)
numbered_word table w = numbered_term table w.1 >>= λ x. Some ((w.0, x.0), x.1)

-- a constraint: its name, then its arguments
abbrev pub numbered_rule_atom : Table → RuleAtom (List ℕ) → Option (RuleAtom ℕ × Table)
numbered_rule_atom table s =
    number_name table s.name >>= λ n. each numbered_term n.1 s.args
    >>= λ xs. Some (record { name = n.0; args = xs.0 }, xs.1)

abbrev pub number_test : Table → Comparison (List ℕ) → Option (Comparison ℕ × Table)
number_test table (Compared r a b) = Some (Compared r a b, table)
number_test table (Same s t) =
    numbered_term table s >>= λ x. numbered_term x.1 t >>= λ y. Some (Same x.0 y.0, y.1)
number_test table (Differ s t) =
    numbered_term table s >>= λ x. numbered_term x.1 t >>= λ y. Some (Differ x.0 y.0, y.1)

abbrev pub number_member : Table → BodyItem (List ℕ) → Option (BodyItem ℕ × Table)
number_member table (Is x e) = Some (Is x e, table)
number_member table (Add s) = numbered_rule_atom table s >>= λ x. Some (Add x.0, x.1)

-- a rule: its kept heads, its removed heads, its guard and its body
abbrev pub number_rule : Table → Simpagation (List ℕ) → Option (Simpagation ℕ × Table)
number_rule table r =
    each numbered_rule_atom table r.kept >>= λ kept. each numbered_rule_atom kept.1 r.removed
    >>= λ removed. each number_test removed.1 r.guard
    >>= λ guard. each number_member guard.1 r.body >>= λ body.
    Some (of_parts r.variables kept.0 removed.0 guard.0 body.0, body.1)

-- nothing stands for a name that the table has no room for
abbrev pub or_full : {A : Type 0} → Option A → Result A Kind
or_full None = Err NamesFull
or_full (Some x) = Ok x
