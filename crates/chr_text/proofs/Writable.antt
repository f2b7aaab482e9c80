-- The atoms of posts, and those that a rule adds, are atoms that a log can hold.
use Rattle.std.proofs.Common.{◌≡◌, ◌≤◌, ℕ, true, false, List, [], ◌∷◌, length, Some, Ok, true≢false, Box, refl, sym, ap, subst, ◌∙◌, arith, ◌^◌, zero, suc, ℤ, pos, Bool, cond, ltb, leb, take, map, Option, None, is_none, lit<}
use Rattle.std.specs.List.{AllByRecursion, list_any}
use Rattle.chr_lex.specs.declared.fault.ItemError.{ItemError}
use Rattle.chr_lex.specs.Reading.{Fails}
use Rattle.chr_lex.specs.Tokens.{Word, Name, Variable, Number}
use Rattle.chr_lex.specs.Tokens as words
use Rattle.chr_grammar.specs.Parsed.{TermNode, ParsedTerm, ParsedAtom, Statement}
use Rattle.chr_limits.specs.Words.{is_variable, term_has}
use Rattle.chr_value.proofs.Texts.{neither}
use Rattle.chr_value.specs.Atoms.{Value, Int, Sym, Comp, args_of, args_count, Atom, by_texts, renamed, args_renamed, text_of}
use Rattle.chr_value.specs.Limits.{IsWithin}
use Rattle.chr_value.specs.Naming.{Table, numbered_value, numbered_atom}
use Rattle.chr_rule.specs.Rules.{Term, Var, Given, Open, Terms, End, And, terms_of, RuleAtom, BodyItem, Is, Add, Simpagation}
use Rattle.chr_rule.specs.Parts.{argument as argument_of}
use Rattle.chr_rule.specs.Terms.{is_open, IsTerm, terms_count}
use Rattle.chr_rule.specs.declared.term.Term as terms
use Rattle.chr_rule.specs.declared.term.Term.{Term as CodeTerm}
use Rattle.chr_rule.specs.declared.term.Open.{Open as CodeOpen}
use Rattle.chr_rule.proofs.Levels.{argument-parts}
use Rattle.chr_text.specs.Fitting.{ValueFits, WordFits, NodeFits, TermFits, PostFits, ShapeFits, MemberFits}
use Rattle.chr_text.specs.Numbering.{or_full, numbered_term}
use Rattle.chr_text.specs.Terms.{with_args, values}
use Rattle.chr_text.specs.Translation.{word_term, placed_word, argument, value_in, value, spelled, atom_by_texts, rule_atom, member, after_guard, rule}
use Rattle.chr_text.specs.Variables.{Seen, in_turn}
use Rattle.chr_text.proofs.Limited.{small, term_all, nodes_narrow, is_term, count_terms, IsWord, can_open, nodes_words}
use Rattle.chr_text.proofs.Lists.{there, each_so, each_made, each_from, each_both, turns_so, numbered_is, fails_back, IfThere, some_turns_so, turns_count}
use Rattle.chr_text.proofs.Numbered.{stays_open, functor_with-values}
use Rattle.chr_text.proofs.Said.{term_stays, argument_says, facts_last, each_says, facts_say, argument_by, arguments_by, item_by, rule_by, rule_lasts, rule_says}
use Rattle.std.proofs.lemmas.Bool.{ltb-true}
use Rattle.std.proofs.Math.Seq.{take-length}
use Rattle.std.proofs.lemmas.List.{length-map}
use Rattle.chr_grammar.proofs.Members_again.{all_append}
use Rattle.chr_lex.specs.Items.{Item}
use Rattle.chr_value.specs.Spelling.{is_control, IsName, FitsTerm, ArgsFit, FitsAtom, is_reserved}
use Rattle.chr_value.proofs.NameLaws.{keeps-then}
use Rattle.chr_value.proofs.Inside.{atom_inside, atom_kept}
use Rattle.chr_grammar.specs.Spelling.{IsUnreserved, IsParsedAtom, IsBodyMember, IsStatement}
use Rattle.chr_grammar.proofs.Terms.{phrases_read}
use Rattle.chr_limits.specs.Numbers.{decimal_from, minus, whole_number}
use Rattle.chr_limits.proofs.Standing as standing
use Rattle.chr_text.specs.Reading.{Posts, posts_of, Program, program_of}
use Rattle.chr_text.specs.Forms.{AddsAtoms, Adds, AddsStatement}
use Rattle.chr_text.specs.Writable.{AreWritable, term_with, terms_with, CanHold, AddsWritable, HasWritable}
use Rattle.chr_text.proofs.Judged.{posts_fit, read_fits, lexemes_plain, phrases_are_plain}
use Rattle.chr_text.proofs.Texts.{item_read, all_in_order}
use Rattle.chr_text.proofs.PostTexts.{are_posts}
use Rattle.chr_value.proofs.Said.{as_long}
use Rattle.chr_value.proofs.Back.{within_same}
use Rattle.chr_grammar.specs.Parsed as parsed
use Rattle.chr_text.specs.Named.{RuleIsNamed}
use Rattle.chr_text.proofs.ProgramTexts.{is_program}

-- ---- terms without variables

abbrev IsGiven : {N : Type 0} → Term N → Type 0
IsGiven t = is_open t ≡ false

none_open : {N : Type 0} (ts : List (Term N)) → AllByRecursion IsGiven ts → list_any is_open ts ≡ false
none_open [] all = refl
none_open (t ∷ ts) all = let first = all.0 in rw first (none_open ts all.1)

word_given : {N : Type 0} (w : Term N) (ts : List (Term N)) → IsWord w → IsGiven w → AllByRecursion IsGiven ts → length ts ≤ 8 → (can_open w ≡ false → ts ≡ []) → IsGiven (with_args w ts)
word_given (Var x) ts word q all few shut = absurd cc
word_given (Given (Sym s)) (t ∷ ts) word q all few shut = ap is_open (functor_with-values s (t ∷ ts) (none_open (t ∷ ts) all))
word_given (Open s us) ts word q all few shut = absurd word
word_given _ _ word q all few shut = refl

no_variable : (seen : Seen) (w : Word) → is_variable w ≡ false → IsGiven (word_term seen w).0 × ((word_term seen w).1 ≡ seen)
no_variable seen (words.Variable x) h = absurd cc
no_variable seen _ h = (refl, refl)

nodes_given : (seen : Seen) (ns : List TermNode) → term_has is_variable ns ≡ false → AllByRecursion (λ w. IsGiven w.1) (in_turn placed_word seen ns).0 × ((in_turn placed_word seen ns).1 ≡ seen)
nodes_given seen [] h = (tt, refl)
nodes_given seen (n ∷ ns) h =
    let parts = neither (is_variable n.word) (term_has is_variable ns) h in
    let one = no_variable seen n.word parts.0 in
    let rest = nodes_given (placed_word seen n).1 ns parts.1 in
    ((one.0, rest.0), rest.1 ∙ one.1)

pub term_given : (t : ParsedTerm) → ValueFits t → IsGiven (argument [] t).0
term_given t fits =
    term_all IsGiven IsGiven word_given (in_turn placed_word [] t).0 (nodes_words [] t fits.term.nested) (nodes_narrow [] t (small t fits.term.small).narrow) (nodes_given [] t fits.given).0

pub value_room : (seen : Seen) (t : ParsedTerm) → seen ≡ [] → ValueFits t → length (argument seen t).1 ≤ 24
value_room seen t empty fits = let none = (nodes_given seen t fits.given).1 ∙ empty in rw none (omega arith)

-- ---- numbering them

pub value_of_given : {N : Type 0} (t : Term N) → IsGiven t → (v : Value N) × (t ≡ Given v)
value_of_given (Given v) h = (v, refl)
value_of_given _ h = absurd cc

fails_case : (error : ItemError) (table : Table) (t : Term (List ℕ)) → IsGiven t → Fails error (or_full (numbered_term table t)) → Fails error (or_full (numbered_value table (value_in t)))
fails_case error table (Given v) h e = fails_back error (numbered_value table v) (λ x. (Given x.0, x.1)) e
fails_case error table _ h e = absurd cc

pub value_fails : (error : ItemError) (table : Table) (seen : Seen) (p : ParsedTerm) → seen ≡ [] → ValueFits p → Fails error (or_full (numbered_term table (argument seen p).0)) → Fails error (or_full (numbered_value table (value p)))
value_fails error table seen p empty fits e =
    fails_case error table (argument [] p).0 (term_given p fits) (subst (λ s. Fails error (or_full (numbered_term table (argument s p).0))) empty e)

never_open : (table new : Table) (seen : Seen) (p : ParsedTerm) (t : Term ℕ) → seen ≡ [] → ValueFits p → or_full (numbered_term table (argument seen p).0) ≡ Ok (t, new) → is_open t ≡ false
never_open table new seen p t empty fits gives =
    stays_open table new (argument seen p).0 t (numbered_is (numbered_term table (argument seen p).0) (t, new) gives) ∙ ap (λ s. is_open (argument s p).0) empty ∙ term_given p fits

pub never_functor : {A : Type 0} (table new : Table) (seen : Seen) (p : ParsedTerm) (term : CodeTerm A) (o : Box (CodeOpen A) A) → seen ≡ [] → ValueFits p → term ≡ terms.Open o → or_full (numbered_term table (argument seen p).0) ≡ Ok (argument_of term, new) → ⊥
never_functor table new seen p term o empty fits is gives =
    let shut = never_open table new seen p (argument_of term) empty fits gives in
    let opens : is_open (argument_of term) ≡ true = ap is_open (argument-parts term o o.value.args.list.items is refl) in
    absurd (true≢false (sym opens ∙ shut))

-- ---- values within the limits

pub within_given : {N : Type 0} (v : Value N) → IsTerm (Given v) → IsWithin v
within_given v is = record { depth = is.depth; size = is.size }

pub value_within : (table new : Table) (p : ParsedTerm) (w : Value ℕ) → ValueFits p → numbered_value table (value p) ≡ Some (w, new) → IsWithin w
value_within table new p w fits e =
    let made = value_of_given (argument [] p).0 (term_given p fits) in
    let v = made.0 in
    let value_is : value p ≡ v = ap value_in made.1 in
    let numbered : numbered_value table v ≡ Some (w, new) = ap (numbered_value table) (sym value_is) ∙ e in
    let whole : numbered_term table (Given v) ≡ Some (Given w, new) = rw numbered refl in
    let term : IsTerm (Given v) = subst IsTerm made.1 (is_term [] p fits.term.small fits.term.nested) in
    within_given w (term_stays new (Given w) (subst IsTerm (sym (there _ _ (Given w, new) (argument_says table (Given v)) whole).0) term))

-- ---- numbers as they are written

pub spelled_fits : (negative : Bool) (ds : List ℕ) → is_none (whole_number negative ds) ≡ false → FitsTerm (Int (spelled negative ds))
spelled_fits false ds h = by (decimal_from 0 ds) (ltb (decimal_from 0 ds) (2 ^ 63)) refl h
  where
    by : (n : ℕ) (b : Bool) → ltb n (2 ^ 63) ≡ b → is_none (let o : Option ℤ = cond b (Some (pos n)) None in o) ≡ false → FitsTerm (Int (pos n))
    by n true is h = ltb-true _ _ is
    by n false is h = absurd cc
spelled_fits true ds h = by (decimal_from 0 ds) (leb (decimal_from 0 ds) (2 ^ 63)) refl h
  where
    by : (n : ℕ) (b : Bool) → leb n (2 ^ 63) ≡ b → is_none (let o : Option ℤ = cond b (Some (minus n)) None in o) ≡ false → FitsTerm (Int (minus n))
    by zero true is h = lit< tt
    by (suc n) true is h = let le : suc n ≤ 2 ^ 63 = grind arith in omega (arith, le)
    by n false is h = absurd cc

-- ---- a term of a rule

-- what is written of a term with variables: names, numbers of 64 bits, and one to eight arguments
abbrev mutual
  pub ArgumentFits : Term (List ℕ) → Type 0
  ArgumentFits (Var x) = Unit {0}
  ArgumentFits (Given t) = FitsTerm t
  ArgumentFits (Open s ts) = IsName s × (1 ≤ terms_count ts) × (terms_count ts ≤ 8) × ArgumentsFit ts

  pub ArgumentsFit : Terms (List ℕ) → Type 0
  ArgumentsFit End = Unit {0}
  ArgumentsFit (And t ts) = ArgumentFits t × ArgumentsFit ts

arguments_fit : (ts : List (Term (List ℕ))) → AllByRecursion ArgumentFits ts → ArgumentsFit (terms_of ts)
arguments_fit [] all = tt
arguments_fit (t ∷ ts) all = (all.0, arguments_fit ts all.1)

values_fit : (ts : List (Term (List ℕ))) → list_any is_open ts ≡ false → AllByRecursion ArgumentFits ts → ArgsFit (args_of (values ts)) × (args_count (args_of (values ts)) ≡ length ts)
values_fit [] none all = (tt, refl)
values_fit (Given v ∷ ts) none all = let rest = values_fit ts none all.1 in ((all.0, rest.0), ap suc rest.1)
values_fit (_ ∷ ts) none all = absurd cc

functor_fits : (s : List ℕ) (ts : List (Term (List ℕ))) (b : Bool) → list_any is_open ts ≡ b → IsName s → AllByRecursion ArgumentFits ts → 1 ≤ length ts → length ts ≤ 8
    → ArgumentFits (cond b (Open s (terms_of ts)) (Given (Comp s (args_of (values ts)))))
functor_fits s ts true is name all some few = let n = count_terms ts in (name, rw n some, rw n few, arguments_fit ts all)
functor_fits s ts false is name all some few = let v = values_fit ts is all in let n = v.1 in (name, rw n some, rw n few, v.0)

word_fits : (w : Term (List ℕ)) (ts : List (Term (List ℕ))) → IsWord w → ArgumentFits w → AllByRecursion ArgumentFits ts → length ts ≤ 8 → (can_open w ≡ false → ts ≡ []) → ArgumentFits (with_args w ts)
word_fits (Given (Sym s)) (t ∷ ts) word q all few shut = functor_fits s (t ∷ ts) (list_any is_open (t ∷ ts)) refl q all (omega arith) few
word_fits _ _ word q all few shut = q

node_fits : (seen : Seen) (w : Word) → WordFits w → ArgumentFits (word_term seen w).0
node_fits seen (Name t) fits = fits
node_fits seen (Variable x) fits = tt
node_fits seen (Number negative ds) fits = spelled_fits negative ds fits

pub argument_fits : (seen : Seen) (t : ParsedTerm) → TermFits t → ArgumentFits (argument seen t).0
argument_fits seen t fits =
    term_all ArgumentFits ArgumentFits word_fits (in_turn placed_word seen t).0 (nodes_words seen t fits.nested) (nodes_narrow seen t (small t fits.small).narrow)
    (turns_so NodeFits (λ w. ArgumentFits w.1) placed_word (λ seen n. node_fits seen n.word) seen t fits.words)

-- ---- an atom of a post

value_fits : (t : ParsedTerm) → ValueFits t → FitsTerm (value t) × IsWithin (value t)
value_fits t fits =
    let made = value_of_given (argument [] t).0 (term_given t fits) in
    let v = made.0 in
    let is : value t ≡ v = ap value_in made.1 in
    let fit : ArgumentFits (Given v) = subst ArgumentFits made.1 (argument_fits [] t fits.term) in
    (subst FitsTerm (sym is) fit, subst IsWithin (sym is) (within_given v (subst IsTerm made.1 (is_term [] t fits.term.small fits.term.nested))))

post_fits : (p : ParsedAtom) → PostFits p → IsParsedAtom p → FitsAtom (atom_by_texts p)
post_fits p fits is = record {
  name = fits.name;
  args = each_made ValueFits FitsTerm value (λ t h. (value_fits t h).0) p.args fits.args;
  within = each_made ValueFits IsWithin value (λ t h. (value_fits t h).1) p.args fits.args;
  few = (let le = fits.few in omega (arith, le, length-map p.args value));
  plain = no_control p.args is.unreserved;
}
  where
    no_control : (ts : List ParsedTerm) → IsUnreserved p.name ts → is_control p.name (map value ts) ≡ false
    no_control [] h = h
    no_control (t ∷ ts) h = refl

-- ---- atoms by numbers

-- what a table can write, each table that begins with it can
still_writable : (old new : Table) (as' : List (Atom ℕ)) → take (length old) new ≡ old → AreWritable old as' → AreWritable new as'
still_writable old new as' keeps all = each_so _ _ (λ a fits. subst FitsAtom (sym (atom_kept old new a keeps (atom_inside old a fits))) fits) as' all

-- ---- a text of posts

-- the atoms so far can be written, and the names of the table before are still there
abbrev Holds : Table → Posts → Type 0
Holds table p = AreWritable p.1 p.0 × (take (length table) p.1 ≡ table)

item_writable : (table : Table) (before : Posts) (e : Item) (after : Posts) → AddsAtoms before e after → Holds table before → Holds table after
item_writable table before e after adds all =
    let plain = lexemes_plain e adds.tokens (item_read e adds.tokens adds.item) in
    let names = phrases_are_plain adds.tokens adds.atoms plain (phrases_read adds.tokens adds.atoms adds.are) in
    let fit = posts_fit adds.atoms tt (standing.posts adds.atoms adds.may) names in
    let written = each_both PostFits IsParsedAtom (λ p. FitsAtom (atom_by_texts p)) post_fits adds.atoms fit adds.are.each in
    let says = there _ _ (adds.new, adds.table) (each_says numbered_atom facts_last facts_say before.1 (map atom_by_texts adds.atoms)) adds.numbered in
    let new = each_from FitsAtom (λ a. FitsAtom (by_texts adds.table a)) (by_texts adds.table) (λ a h. h) adds.new (subst (AllByRecursion FitsAtom) (sym says.0) (each_made (λ p. FitsAtom (atom_by_texts p)) FitsAtom atom_by_texts (λ p h. h) adds.atoms written)) in
    subst (Holds table) (sym adds.added) (all_append (λ a. FitsAtom (by_texts adds.table a)) before.0 adds.new (still_writable before.1 adds.table before.0 says.2 all.0) new, keeps-then table before.1 adds.table all.1 says.2)

posts_hold : (table : Table) (bytes : List ℕ) (p : Posts) → posts_of table bytes ≡ Ok p → Holds table p
posts_hold table bytes p h = let are = are_posts table bytes p h in all_in_order AddsAtoms (Holds table) (item_writable table) ([], table) are.entries p are.in_order (tt, take-length table)

pub posts_writable : (table : Table) (bytes : List ℕ) (p : Posts) → posts_of table bytes ≡ Ok p → AreWritable p.1 p.0
posts_writable table bytes p h = (posts_hold table bytes p h).0

pub posts_kept : (table : Table) (bytes : List ℕ) (p : Posts) → posts_of table bytes ≡ Ok p → take (length table) p.1 ≡ table
posts_kept table bytes p h = (posts_hold table bytes p h).1

-- ---- atoms of a rule by texts, and by numbers

abbrev pub Free : {A : Type 0} → List ℕ → List A → Type 0
Free t [] = is_reserved t ≡ false
Free t (x ∷ xs) = Unit {0}

pub record TextFits (s : RuleAtom (List ℕ)) : Type 0 where
  pub name : IsName s.name
  pub args : AllByRecursion ArgumentFits s.args
  pub few : length s.args ≤ 8
  pub free : Free s.name s.args

abbrev pub ItemFits : BodyItem (List ℕ) → Type 0
ItemFits (Is x e) = Unit {0}
ItemFits (Add s) = TextFits s

abbrev pub BodyFits : Simpagation (List ℕ) → Type 0
BodyFits r = AllByRecursion ItemFits r.body

-- the table has the names of the rule, and by its texts what the rule adds can be written
abbrev pub Held : Table → Simpagation ℕ → Type 0
Held table r = RuleIsNamed (length table) r × BodyFits (rule_by table r)

-- ---- a rule as it is written

atom_fits : (seen : Seen) (p : ParsedAtom) → ShapeFits p → IsParsedAtom p → TextFits (rule_atom seen p).0
atom_fits seen p fits is =
    let count = turns_count argument seen p.args in
    record {
      name = fits.name;
      args = turns_so TermFits ArgumentFits argument argument_fits seen p.args fits.args;
      few = rw count fits.few;
      free = free p.args is.unreserved;
    }
  where
    free : (ts : List ParsedTerm) → IsUnreserved p.name ts → Free p.name (in_turn argument seen ts).0
    free [] h = h
    free (t ∷ ts) h = tt

item_fits : (seen : Seen) (m : parsed.BodyMember) → MemberFits m × IsBodyMember m → IfThere ItemFits (member seen m).0
item_fits seen (parsed.Add p) h = atom_fits seen p h.0 h.1
item_fits seen parsed.Nothing h = tt
item_fits seen (parsed.Is x e) h = tt

-- ---- a program

abbrev AllHeld : Program → Type 0
AllHeld p = AllByRecursion (Held p.1) p.0

statement_held : (before : Program) (e : Item) (after : Program) → AddsStatement before e after → AllHeld before → AllHeld after
statement_held before e after a all = by a.statement refl a.adds a.says.0
  where
    by : (s : Statement) → a.statement ≡ s → Adds before s after → IsStatement s → AllHeld after
    by parsed.Import is adds written = subst AllHeld (sym adds) all
    by (parsed.Declaration ds) is adds written = subst AllHeld (sym adds.1) all
    by (parsed.Rule r) is adds written =
        let fits = read_fits before e after a r is adds.stands in
        let says = rule_says before.1 adds.table (rule r) adds.new adds.numbered in
        let members = each_both MemberFits IsBodyMember (λ m. MemberFits m × IsBodyMember m) (λ m f w. (f, w)) r.body fits.body written.body in
        let body = some_turns_so (λ m. MemberFits m × IsBodyMember m) ItemFits member item_fits (after_guard r) r.body members in
        let kept : (n : Simpagation ℕ) → Held before.1 n → Held adds.table n = λ n h. (rule_lasts.later (length before.1) (length adds.table) n (as_long before.1 adds.table says.2) h.0, subst BodyFits (sym (rule_lasts.kept before.1 adds.table n says.2 h.0)) h.1) in
        subst AllHeld (sym adds.added) (all_append (Held adds.table) before.0 (adds.new ∷ []) (each_so (Held before.1) (Held adds.table) kept before.0 all) ((says.1, subst BodyFits (sym says.0) body), tt))

pub program_held : (table : Table) (bytes : List ℕ) (p : Program) → program_of table bytes ≡ Ok p → AllByRecursion (Held p.1) p.0
program_held table bytes p h = let is = is_program table bytes p h in all_in_order AddsStatement AllHeld statement_held ([], table) is.entries p is.in_order tt

-- ---- with values in place of the variables

module _ (v : ℕ → Value ℕ) (table : Table) (values : (x : ℕ) → CanHold table (v x)) where
  count_with : (ts : Terms ℕ) → args_count (args_renamed (text_of table) (terms_with v ts)) ≡ terms_count (arguments_by table ts)
  count_with End = refl
  count_with (And t ts) = ap suc (count_with ts)

  mutual
    term_held : (t : Term ℕ) → ArgumentFits (argument_by table t) → FitsTerm (renamed (text_of table) (term_with v t))
    term_held (Var x) fits = values x
    term_held (Given t) fits = fits
    term_held (Open s ts) fits = let n = count_with ts in (fits.0, rw n fits.1, rw n fits.2, args_held ts fits.3)

    args_held : (ts : Terms ℕ) → ArgumentsFit (arguments_by table ts) → ArgsFit (args_renamed (text_of table) (terms_with v ts))
    args_held End fits = tt
    args_held (And t ts) fits = (term_held t fits.0, args_held ts fits.1)

  no_control : (t : List ℕ) (as' : List (Term ℕ)) → Free t (map (argument_by table) as') → is_control t (map (renamed (text_of table)) (map (term_with v) as')) ≡ false
  no_control t [] h = h
  no_control t (a ∷ as') h = refl

member_writable : (table : Table) (m : BodyItem ℕ) → ItemFits (item_by table m) → AddsWritable table m
member_writable table (Is x e) fits = tt
member_writable table (Add s) fits = λ v values small.
    let terms = map (term_with v) s.args in
    let held = each_from ArgumentFits (λ a. FitsTerm (renamed (text_of table) (term_with v a))) (argument_by table) (term_held v table values) s.args fits.args in
    record {
      name = fits.name;
      args = each_made (λ w. FitsTerm (renamed (text_of table) w)) FitsTerm (renamed (text_of table)) (λ w h. h) terms (each_made (λ a. FitsTerm (renamed (text_of table) (term_with v a))) (λ w. FitsTerm (renamed (text_of table) w)) (term_with v) (λ a h. h) s.args held);
      within = each_made IsWithin IsWithin (renamed (text_of table)) (λ w. within_same (text_of table) w) terms small;
      few = (let le = fits.few in omega (arith, le, length-map terms (renamed (text_of table)), length-map s.args (term_with v), length-map s.args (argument_by table)));
      plain = no_control v table values (text_of table s.name) s.args fits.free;
    }

pub program_writable : (table : Table) (bytes : List ℕ) (p : Program) → program_of table bytes ≡ Ok p → HasWritable p.1 p.0
program_writable table bytes p h = each_so _ _ (λ r held. each_from ItemFits (AddsWritable p.1) (item_by p.1) (member_writable p.1) r.body held.1) p.0 (program_held table bytes p h)
