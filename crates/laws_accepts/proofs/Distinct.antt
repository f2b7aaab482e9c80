-- No table that reading gives has a text twice.
use Rattle.std.proofs.Common.{◌≡◌, ℕ, Bool, true, false, cond, ltb, ◌||◌, List, [], ◌∷◌, ◌++◌, length, Option, Some, None, Ok, refl, sym, subst, ◌∙◌}
use Rattle.std.proofs.lemmas.Cmp.{nat_list_eq_equiv}
use Rattle.chr_lex.specs.Items.{Item}
use Rattle.chr_value.specs.Names.{is_text, has_text, number_of, with_text, HasDistinctTexts}
use Rattle.chr_value.specs.Atoms.{Int, Sym, Comp, Nil, Cons}
use Rattle.chr_value.specs.Naming.{◌>>=◌, Table, number_name, numbered_value, numbered_args, number_terms, numbered_atom}
use Rattle.chr_value.proofs.Texts.{neither}
use Rattle.chr_rule.specs.Rules.{Var, Given, Open, End, And, Compared, Same, Differ, Is, Add, of_parts}
use Rattle.chr_grammar.specs.Parsed as parsed
use Rattle.chr_grammar.specs.Parsed.{Statement}
use Rattle.chr_text.specs.Translation.{rule}
use Rattle.chr_text.specs.Numbering.{each, numbered_term, numbered_terms, numbered_rule_atom, number_test, number_member, number_rule}
use Rattle.chr_text.specs.Reading.{Program, Posts, program_of, posts_of}
use Rattle.chr_text.specs.Forms.{InOrder, no_more, item, Adds, AddsStatement, AddsAtoms}
use Rattle.chr_text.proofs.ProgramTexts.{is_program}
use Rattle.chr_text.proofs.PostTexts.{are_posts}

-- ---- one text more

lacks_more : (ks : Table) (k t : List ℕ) → has_text ks k ≡ false → is_text k t ≡ false → has_text (ks ++ t ∷ []) k ≡ false
lacks_more [] k t h e = rw e refl
lacks_more (x ∷ xs) k t h e = let two = neither (is_text k x) (has_text xs k) h in rw (two.0) (lacks_more xs k t two.1 e)

distinct_more : (table : Table) (t : List ℕ) → HasDistinctTexts table → has_text table t ≡ false → HasDistinctTexts (table ++ t ∷ [])
distinct_more [] t d h = (refl, tt)
distinct_more (k ∷ ks) t d h =
    let two = neither (is_text t k) (has_text ks t) h in
    (lacks_more ks k t d.0 (nat_list_eq_equiv.symm k t ∙ two.0), distinct_more ks t d.1 two.1)

distinct_with : (table : Table) (t : List ℕ) (b : Bool) → has_text table t ≡ b → HasDistinctTexts table → HasDistinctTexts (cond b table (table ++ t ∷ []))
distinct_with table t true e d = d
distinct_with table t false e d = distinct_more table t d e

-- ---- numbering

-- what numbering gives, if it gives something, comes with a table that has no text twice
data GivesDistinct {A : Type 0} : Option (A × Table) → Type 0 where
  nothing : GivesDistinct None
  gives : (x : A × Table) → HasDistinctTexts x.1 → GivesDistinct (Some x)

given : {A : Type 0} (x : A × Table) → GivesDistinct (Some x) → HasDistinctTexts x.1
given x (gives _ d) = d

-- one step after another; and the last step, of one part or of two
then_distinct : {A B : Type 0} {r : Option (A × Table)} (f : A × Table → Option (B × Table)) → GivesDistinct r → ((x : A × Table) → HasDistinctTexts x.1 → GivesDistinct (f x)) → GivesDistinct (r >>= f)
then_distinct f nothing more = nothing
then_distinct f (gives x d) more = more x d

one_distinct : {A B : Type 0} {r : Option (A × Table)} (make : A → B) → GivesDistinct r → GivesDistinct (r >>= λ x. Some (make x.0, x.1))
one_distinct make one = then_distinct (λ x. Some (make x.0, x.1)) one (λ x d. gives (make x.0, x.1) d)

two_distinct : {A B C : Type 0} {r : Option (A × Table)} {f : Table → Option (B × Table)} (make : A → B → C) → GivesDistinct r → ((table : Table) → HasDistinctTexts table → GivesDistinct (f table)) → GivesDistinct (r >>= λ x. f x.1 >>= λ y. Some (make x.0 y.0, y.1))
two_distinct {f = f} make one two = then_distinct (λ x. f x.1 >>= λ y. Some (make x.0 y.0, y.1)) one (λ x d. one_distinct (make x.0) (two x.1 d))

-- numbering so keeps the texts distinct
abbrev KeepsDistinct : {A B : Type 0} → (Table → A → Option (B × Table)) → Type 0
KeepsDistinct {A = A} f = (a : A) (table : Table) → HasDistinctTexts table → GivesDistinct (f table a)

if_room : (room : Bool) (n : ℕ) (new : Table) → HasDistinctTexts new → GivesDistinct (cond room (Some (n, new)) None)
if_room true n new d = gives (n, new) d
if_room false n new d = nothing

name_distinct : KeepsDistinct number_name
name_distinct t table d = if_room (has_text table t || ltb (length table) 65536) (number_of table t) (with_text table t) (distinct_with table t (has_text table t) refl d)

mutual
  value_distinct : KeepsDistinct numbered_value
  value_distinct (Int z) table d = gives (Int z, table) d
  value_distinct (Sym t) table d = one_distinct (λ n. Sym n) (name_distinct t table d)
  value_distinct (Comp t ts) table d = two_distinct (λ n xs. Comp n xs) (name_distinct t table d) (args_distinct ts)

  args_distinct : KeepsDistinct numbered_args
  args_distinct Nil table d = gives (Nil, table) d
  args_distinct (Cons t ts) table d = two_distinct (λ x xs. Cons x xs) (value_distinct t table d) (args_distinct ts)

terms_distinct : KeepsDistinct number_terms
unfolding number_terms
terms_distinct [] table d = gives ([], table) d
terms_distinct (t ∷ ts) table d = two_distinct (λ x xs. x ∷ xs) (value_distinct t table d) (terms_distinct ts)

atom_distinct : KeepsDistinct numbered_atom
unfolding numbered_atom
atom_distinct a table d = two_distinct (λ n xs. record { name = n; args = xs }) (name_distinct a.name table d) (terms_distinct a.args)

each_distinct : {A B : Type 0} (f : Table → A → Option (B × Table)) → KeepsDistinct f → KeepsDistinct (each f)
each_distinct f one [] table d = gives ([], table) d
each_distinct f one (a ∷ as') table d = two_distinct (λ x xs. x ∷ xs) (one a table d) (each_distinct f one as')

mutual
  term_distinct : KeepsDistinct numbered_term
  term_distinct (Var x) table d = gives (Var x, table) d
  term_distinct (Given t) table d = one_distinct (λ v. Given v) (value_distinct t table d)
  term_distinct (Open t ts) table d = two_distinct (λ n xs. Open n xs) (name_distinct t table d) (open_distinct ts)

  open_distinct : KeepsDistinct numbered_terms
  open_distinct End table d = gives (End, table) d
  open_distinct (And t ts) table d = two_distinct (λ x xs. And x xs) (term_distinct t table d) (open_distinct ts)

rule_atom_distinct : KeepsDistinct numbered_rule_atom
rule_atom_distinct s table d = two_distinct (λ n xs. record { name = n; args = xs }) (name_distinct s.name table d) (each_distinct numbered_term term_distinct s.args)

test_distinct : KeepsDistinct number_test
test_distinct (Compared r a b) table d = gives (Compared r a b, table) d
test_distinct (Same s t) table d = two_distinct (λ x y. Same x y) (term_distinct s table d) (term_distinct t)
test_distinct (Differ s t) table d = two_distinct (λ x y. Differ x y) (term_distinct s table d) (term_distinct t)

member_distinct : KeepsDistinct number_member
member_distinct (Is x e) table d = gives (Is x e, table) d
member_distinct (Add s) table d = one_distinct (λ r. Add r) (rule_atom_distinct s table d)

rule_distinct : KeepsDistinct number_rule
rule_distinct r table d =
    then_distinct _ (each_distinct numbered_rule_atom rule_atom_distinct r.kept table d) (λ kept e.
    then_distinct _ (each_distinct numbered_rule_atom rule_atom_distinct r.removed kept.1 e) (λ removed h.
    two_distinct (of_parts r.variables kept.0 removed.0) (each_distinct number_test test_distinct r.guard removed.1 h) (each_distinct number_member member_distinct r.body)))

-- ---- texts

statement_distinct : (before : Program) (e : Item) (after : Program) (s : Statement) → Adds before s after → HasDistinctTexts before.1 → HasDistinctTexts after.1
statement_distinct before e after parsed.Import adds d = subst (λ (p : Program). HasDistinctTexts p.1) (sym adds) d
statement_distinct before e after (parsed.Declaration ds) adds d = subst (λ (p : Program). HasDistinctTexts p.1) (sym adds.1) d
statement_distinct before e after (parsed.Rule r) adds d = subst (λ (p : Program). HasDistinctTexts p.1) (sym adds.added) (given (adds.new, adds.table) (subst GivesDistinct adds.numbered (rule_distinct (rule r) before.1 d)))

statements_distinct : (x : Program) (es : List Item) (y : Program) → InOrder AddsStatement x es y → HasDistinctTexts x.1 → HasDistinctTexts y.1
statements_distinct _ _ _ (no_more x) d = d
statements_distinct _ _ _ (item x next y e es a more) d = statements_distinct next es y more (statement_distinct x e next a.statement a.adds d)

pub program_distinct : (bytes : List ℕ) (p : Program) → program_of [] bytes ≡ Ok p → HasDistinctTexts p.1
program_distinct bytes p h = let is = is_program [] bytes p h in statements_distinct ([], []) is.entries p is.in_order tt

atoms_distinct : (x : Posts) (es : List Item) (y : Posts) → InOrder AddsAtoms x es y → HasDistinctTexts x.1 → HasDistinctTexts y.1
atoms_distinct _ _ _ (no_more x) d = d
atoms_distinct _ _ _ (item x next y e es a more) d =
    atoms_distinct next es y more (subst (λ (p : Posts). HasDistinctTexts p.1) (sym a.added) (given (a.new, a.table) (subst GivesDistinct a.numbered (each_distinct numbered_atom atom_distinct _ x.1 d))))

pub posts_distinct : (table : Table) (bytes : List ℕ) (p : Posts) → posts_of table bytes ≡ Ok p → HasDistinctTexts table → HasDistinctTexts p.1
posts_distinct table bytes p h d = let is = are_posts table bytes p h in atoms_distinct ([], table) is.entries p is.in_order d
