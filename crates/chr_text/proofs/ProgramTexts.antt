-- What is read as a program is one by the grammar and the limits, and the other way round; the first fault of a program, and of posts.
use Rattle.std.proofs.Common.{◌≡◌, ◌↔◌, ℕ, leb, List, [], ◌∷◌, ◌++◌, length, Ok, sym, ap, ◌<◌, ◌≤◌, ◌⊎◌, Bool, true, false, not, cond, ◌||◌, inl, inr, Option, Some, None, is_none, Result, Err, refl, ◌∙◌, arith, map}
use Rattle.std.proofs.lemmas.Bool.{leb-false, lt-leb, not-true}
use Rattle.chr_text.proofs.Lists.{numbered_is}
use Rattle.chr_lex.specs.Items.{Item}
use Rattle.chr_lex.specs.Reading.{◌>>=◌}
use Rattle.chr_value.specs.Naming.{Table, numbered_atom}
use Rattle.chr_grammar.specs.Parsed.{Statement, Import, Declaration, Rule, ParsedAtom, ParsedRule, Declared}
use Rattle.chr_grammar.specs.Parsing.{statement_of, phrases_of}
use Rattle.chr_grammar.proofs.Statements.{says, by_texts, refused}
use Rattle.chr_limits.specs.Judging.{rule_judged, declaration_judged, removes_nothing, is_propagation, has_number_out_of_range, post_judged}
use Rattle.chr_limits.proofs.Standing.{stands, passes, declared, declares}
use Rattle.chr_text.specs.Translation.{rule, atom_by_texts}
use Rattle.chr_text.specs.Numbering.{or_full, number_rule, each, more}
use Rattle.chr_text.specs.Reading.{Program, item_lexemes, with_statement, with_item, program_of, with_rule, Posts, with_phrases, posts_of}
use Rattle.chr_text.specs.Forms.{Adds, AddsStatement, IsProgramText, AddsAtoms}
use Rattle.chr_text.proofs.Texts.{bind_ok, ok_is, is_item, item_read, is_text, Tests, none, test, Tells, tested, tested_then, tests_fault, tests_faultless, faults_are}
use Rattle.std.specs.List.{list_any}
use Rattle.std.proofs.Math.Bool.{or-true}
use Rattle.chr_lex.specs.declared.fault.Kind.{Kind}
use Rattle.chr_lex.specs.declared.fault.Kind.TheVariants.{Propagation, NumberRange, TooMany, Binding, NamesFull}
use Rattle.chr_lex.specs.declared.fault.ReadFault.{ReadFault}
use Rattle.chr_lex.specs.Tokens.{Name, Number}
use Rattle.chr_rule.specs.Rules.{Simpagation}
use Rattle.chr_grammar.specs.Spelling.{AreStatement, AreParsedAtoms}
use Rattle.chr_limits.specs.Words.{is_out_of_range, is_long, is_variable, phrase_has}
use Rattle.chr_limits.specs.Limits.{is_too_large, has_many_args, has_large_args}
use Rattle.chr_limits.specs.Scope.{is_in_scope}
use Rattle.chr_text.specs.Faults.{rank, IsFirst, StatementHas, IsProgramFault, PostHas, IsPostsFault}
use Rattle.chr_value.specs.Atoms.{Atom}
use Rattle.chr_grammar.proofs.Terms.{are_phrases, phrases_read, no_phrases}
use Rattle.chr_text.proofs.PostTexts.{steps as post_steps}

adds : (p : Program) (s : Statement) (q : Program) → with_statement p s ≡ Ok q → Adds p s q
adds p Import q h = sym (ok_is p q h)
adds p (Declaration ds) q h =
    let judged = bind_ok (declaration_judged ds) (λ judged. Ok p) q h in
    (declared ds judged.1, sym (ok_is p q judged.2))
adds p (Rule r) q h =
    let judged = bind_ok (rule_judged (leb 256 (length p.0)) r) (λ judged. or_full (number_rule p.1 (rule r)) >>= λ x. Ok (p.0 ++ x.0 ∷ [], x.1)) q h in
    let may = stands (leb 256 (length p.0)) r judged.1 in
    let x = bind_ok (or_full (number_rule p.1 (rule r))) (λ x. Ok (p.0 ++ x.0 ∷ [], x.1)) q judged.2 in
    record { room = leb-false 256 (length p.0) may.0; stands = may.1; new = x.0.0; table = x.0.1; numbered = numbered_is (number_rule p.1 (rule r)) x.0 x.1; added = sym (ok_is _ q x.2) }

added : (p : Program) (s : Statement) (q : Program) → Adds p s q → with_statement p s ≡ Ok q
added p Import q a = ap Ok (sym a)
added p (Declaration ds) q a = rw (declares ds a.0) (ap Ok (sym a.1))
added p (Rule r) q a = rw (passes (leb 256 (length p.0)) r (lt-leb 256 (length p.0) a.room, a.stands), a.numbered) (ap Ok (sym a.added))

adds_statement : (p : Program) (e : Item) (q : Program) → with_item p e ≡ Ok q → AddsStatement p e q
adds_statement p e q h =
    let s = bind_ok (item_lexemes e >>= statement_of) (with_statement p) q h in
    let t = bind_ok (item_lexemes e) statement_of s.0 s.1 in
    record { tokens = t.0; statement = s.0; item = is_item e t.0 t.1; says = says t.0 s.0 t.2; adds = adds p s.0 q s.2 }

pub steps : (p : Program) (e : Item) (q : Program) → with_item p e ≡ Ok q ↔ AddsStatement p e q
steps p e q = (adds_statement p e q, λ a. rw (item_read e a.tokens a.item, by_texts a.tokens a.statement a.says) (added p a.statement q a.adds))

pub is_program : (table : Table) (bytes : List ℕ) (p : Program) → program_of table bytes ≡ Ok p → IsProgramText table bytes p
is_program table bytes p h = is_text with_item AddsStatement steps ([], table) bytes p h

none_is : {A : Type 0} (o : Option A) → is_none o ≡ true → o ≡ None
none_is None h = refl
none_is (Some x) h = absurd cc

-- ---- a rule

abbrev rule_tests : Program → ParsedRule → Tests
rule_tests p r = test Propagation (is_propagation r) (test NumberRange (has_number_out_of_range r) (test TooMany (leb 256 (length p.0) || is_too_large r) (test Binding (not (is_in_scope r)) none)))

abbrev grown : Program → Simpagation ℕ × Table → Program
grown p x = (p.0 ++ x.0 ∷ [], x.1)

rule_tested : (p : Program) (r : ParsedRule) → with_rule p r ≡ tested (grown p) (number_rule p.1 (rule r)) (rule_tests p r)
rule_tested p r = by (is_in_scope r)
  where
    before : Tests → Tests
    before ts = test Propagation (is_propagation r) (test NumberRange (has_number_out_of_range r) (test TooMany (leb 256 (length p.0) || is_too_large r) ts))

    by : (b : Bool) → (let judged : Result (Unit {0}) Kind = cond (is_propagation r) (Err Propagation) (cond (has_number_out_of_range r) (Err NumberRange) (cond (leb 256 (length p.0) || is_too_large r) (Err TooMany) (cond b (Ok tt) (Err Binding)))) in
        judged >>= λ u. or_full (number_rule p.1 (rule r)) >>= λ x. Ok (grown p x)) ≡ tested (grown p) (number_rule p.1 (rule r)) (before (test Binding (not b) none))
    by true = tested_then (grown p) (number_rule p.1 (rule r)) (before (test Binding false none))
    by false = tested_then (grown p) (number_rule p.1 (rule r)) (before (test Binding true none))

rule_tells : (p : Program) (r : ParsedRule) → Tells (is_none (number_rule p.1 (rule r))) (rule_tests p r) (StatementHas p (Rule r))
rule_tells p r Propagation = (λ h. rw h refl, by r.removed)
  where
    by : (ps : List ParsedAtom) → removes_nothing ps ≡ true → ps ≡ []
    by [] h = refl
    by (p ∷ ps) h = absurd cc
rule_tells p r NumberRange = (λ h. h, λ h. h)
rule_tells p r TooMany = (many, by (is_too_large r))
  where
    many : (256 ≤ length p.0) ⊎ (is_too_large r ≡ true) → leb 256 (length p.0) || is_too_large r ≡ true
    many (inl le) = let full : leb 256 (length p.0) ≡ true = grind arith in rw full refl
    many (inr e) = rw e (or-true (leb 256 (length p.0)))

    by : (b : Bool) → leb 256 (length p.0) || b ≡ true → (256 ≤ length p.0) ⊎ (b ≡ true)
    by true h = inr refl
    by false h = inl (grind arith)
rule_tells p r Binding = (λ h. rw h refl, λ h. not-true (is_in_scope r) h)
rule_tells p r NamesFull = (λ h. rw h refl, none_is (number_rule p.1 (rule r)))
rule_tells p r _ = (λ h. absurd h, λ h. absurd cc)

-- ---- a declaration

abbrev declaration_tests : List Declared → Tests
declaration_tests ds = test NumberRange (list_any (λ d. is_out_of_range (Number false d.digits)) ds) (test TooMany (list_any (λ d. is_long (Name d.name)) ds) none)

abbrev same : Program → Unit {0} → Program
same p u = p

declaration_tested : (p : Program) (ds : List Declared) → with_statement p (Declaration ds) ≡ tested (same p) (Some tt) (declaration_tests ds)
declaration_tested p ds = tested_then (same p) (Some tt) (declaration_tests ds)

declaration_tells : (p : Program) (ds : List Declared) → Tells false (declaration_tests ds) (StatementHas p (Declaration ds))
declaration_tells p ds NumberRange = (λ h. h, λ h. h)
declaration_tells p ds TooMany = (λ h. h, λ h. h)
declaration_tells p ds _ = (λ h. absurd h, λ h. absurd cc)

-- ---- a statement

statement_faulty : (p : Program) (s : Statement) (k : Kind) → with_statement p s ≡ Err k → IsFirst (StatementHas p s) k × (2 < rank k)
statement_faulty p Import k h = absurd cc
statement_faulty p (Declaration ds) k h = tests_fault (same p) (Some tt) (declaration_tests ds) (StatementHas p (Declaration ds)) (declaration_tells p ds) (omega arith) k (sym (declaration_tested p ds) ∙ h)
statement_faulty p (Rule r) k h = tests_fault (grown p) (number_rule p.1 (rule r)) (rule_tests p r) (StatementHas p (Rule r)) (rule_tells p r) (omega arith) k (sym (rule_tested p r) ∙ h)

statement_faultless : (p : Program) (s : Statement) (q : Program) (k : Kind) → with_statement p s ≡ Ok q → StatementHas p s k → ⊥
statement_faultless p Import q k h has = has
statement_faultless p (Declaration ds) q k h has = tests_faultless (same p) (Some tt) (declaration_tests ds) (StatementHas p (Declaration ds)) (declaration_tells p ds) q k (sym (declaration_tested p ds) ∙ h) has
statement_faultless p (Rule r) q k h has = tests_faultless (grown p) (number_rule p.1 (rule r)) (rule_tests p r) (StatementHas p (Rule r)) (rule_tells p r) q k (sym (rule_tested p r) ∙ h) has

-- ---- texts

pub program_faults : (table : Table) (bytes : List ℕ) (f : ReadFault) → program_of table bytes ≡ Err f ↔ IsProgramFault table bytes f
program_faults table bytes f =
    faults_are statement_of with_statement AreStatement StatementHas AddsStatement (record { only = by_texts; found = says; refused = refused; faulty = statement_faulty; faultless = statement_faultless }) steps ([], table) bytes f

-- ---- posts

abbrev numbered_posts : Posts → List ParsedAtom → Option (List (Atom ℕ) × Table)
numbered_posts p ps = each numbered_atom p.1 (map atom_by_texts ps)

abbrev post_tests : List ParsedAtom → Tests
post_tests ps =
    test NumberRange (list_any (phrase_has is_out_of_range) ps) (test TooMany (list_any (phrase_has is_long) ps || list_any has_many_args ps || list_any has_large_args ps) (test Binding (list_any (phrase_has is_variable) ps) none))

abbrev posted : Posts → List (Atom ℕ) × Table → Posts
posted p x = (p.0 ++ x.0, x.1)

post_tested : (p : Posts) (ps : List ParsedAtom) → with_phrases p ps ≡ tested (posted p) (numbered_posts p ps) (post_tests ps)
post_tested p ps = ap (λ r. post_judged ps >>= λ u. r) (by (numbered_posts p ps)) ∙ tested_then (posted p) (numbered_posts p ps) (post_tests ps)
  where
    by : (o : Option (List (Atom ℕ) × Table)) → or_full (more p.0 o) ≡ (or_full o >>= λ x. Ok (posted p x))
    by None = refl
    by (Some x) = refl

one_of : (a b c : Bool) → (a ≡ true) ⊎ (b ≡ true) ⊎ (c ≡ true) → a || b || c ≡ true
one_of a b c (inl e) = rw e refl
one_of a b c (inr (inl e)) = rw (e, or-true a) refl
one_of a b c (inr (inr e)) = rw e (or-true (a || b))

which_of : (a b c : Bool) → a || b || c ≡ true → (a ≡ true) ⊎ (b ≡ true) ⊎ (c ≡ true)
which_of true b c h = inl refl
which_of false true c h = inr (inl refl)
which_of false false c h = inr (inr h)

post_tells : (p : Posts) (ps : List ParsedAtom) → Tells (is_none (numbered_posts p ps)) (post_tests ps) (PostHas p ps)
post_tells p ps NumberRange = (λ h. h, λ h. h)
post_tells p ps TooMany = (one_of _ _ _, which_of _ _ _)
post_tells p ps Binding = (λ h. h, λ h. h)
post_tells p ps NamesFull = (λ h. rw h refl, none_is (numbered_posts p ps))
post_tells p ps _ = (λ h. absurd h, λ h. absurd cc)

pub posts_faults : (table : Table) (bytes : List ℕ) (f : ReadFault) → posts_of table bytes ≡ Err f ↔ IsPostsFault table bytes f
posts_faults table bytes f =
    faults_are phrases_of with_phrases AreParsedAtoms PostHas AddsAtoms (record {
      only = phrases_read;
      found = are_phrases;
      refused = no_phrases;
      faulty = λ p ps k h. tests_fault (posted p) (numbered_posts p ps) (post_tests ps) (PostHas p ps) (post_tells p ps) (omega arith) k (sym (post_tested p ps) ∙ h);
      faultless = λ p ps q k h has. tests_faultless (posted p) (numbered_posts p ps) (post_tests ps) (PostHas p ps) (post_tells p ps) q k (sym (post_tested p ps) ∙ h) has;
    }) post_steps ([], table) bytes f
