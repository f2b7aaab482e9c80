-- The names of an item are letters, digits and `_`, and what is judged without a fault fits.
use Rattle.std.proofs.Common.{◌≡◌, ℕ, Bool, true, false, List, Ok, arith, [], ◌∷◌, subst, suc, ◌||◌, length, filter, refl, ap, ◌∙◌}
use Rattle.std.specs.List.{AllByRecursion, list_any}
use Rattle.chr_value.specs.Spelling.{is_name_byte, IsName}
use Rattle.chr_lex.specs.Items.{Item}
use Rattle.chr_lex.specs.Lexing.{Spells, a_name, a_variable, a_number, below_zero, a_mark, Tokens, no_more, blank, token}
use Rattle.chr_lex.specs.Tokens.{Lexeme, OfWord, OfMark, is_operand, Word, Name, Variable, Number}
use Rattle.chr_text.specs.Fitting.{WordPlain, NodePlain, TermPlain, PhrasePlain, TestPlain, MemberPlain, RulePlain, StatementPlain, NamePlain, WordFits, NodeFits, TermFits, ValueFits, PostFits, FormulaFits, ShapeFits, TestFits, MemberFits, RuleFits}
use Rattle.chr_text.specs.Reading.{item_lexemes, Program}
use Rattle.chr_text.specs.Forms.{AddsStatement}
use Rattle.chr_text.proofs.Texts as texts
use Rattle.chr_grammar.specs.Parsed as parsed
use Rattle.chr_grammar.specs.Parsed.{TermNode, ParsedTerm, ParsedAtom, GuardMember, BodyMember, ParsedRule, Statement, Rule, ParsedExpression}
use Rattle.chr_grammar.specs.Parsing.{phrases_of, statement_of}
use Rattle.chr_grammar.specs.Spelling.{by_commas, between, nodes_spelled, term_spelled, further, phrase_spelled, test_spelled, member_spelled, rule_name_spelled, heads_spelled, consequence_spelled, IsParsedTerm, IsParsedAtom, IsGuardMember, IsBodyMember}
use Rattle.chr_grammar.proofs.Terms.{are_phrases}
use Rattle.chr_grammar.proofs.Statements.{says, by_texts}
use Rattle.std.proofs.lemmas.Bool.{ltb-false}
use Rattle.chr_rule.specs.Terms.{IsTerm, IsRuleAtom, IsComparison, IsBodyItem}
use Rattle.chr_limits.specs.Words.{is_out_of_range, is_long, is_variable, formula_has, term_has, phrase_has, test_has, member_has, rule_name_has}
use Rattle.chr_limits.specs.Limits.{is_large_term, has_large_args, compares_large_terms, adds_large_args, has_many_args, adds_many_args, is_comparison, is_item}
use Rattle.chr_limits.specs.Judging.{post_judged, rule_judged}
use Rattle.chr_value.proofs.Texts.{neither}
use Rattle.chr_limits.proofs.Standing.{posted, stands, passes}
use Rattle.chr_limits.specs.Standing.{IsAllowedRule}
use Rattle.chr_text.specs.Translation.{argument, rule_atom, test, member, somes, after_kept, after_heads, after_guard}
use Rattle.chr_text.specs.Variables.{Seen, in_turn}
use Rattle.chr_text.proofs.Limited.{plain_nests, is_term}
use Rattle.chr_text.proofs.Lists.{each_split, IfThere, turns_so, some_turns_so, turns_count}
use Rattle.chr_text.proofs.InScope.{rule_known, all_seen}

-- ---- words

abbrev pub LexemePlain : Lexeme → Type 0
LexemePlain (OfWord w) = WordPlain w
LexemePlain (OfMark m) = Unit {0}

abbrev pub AllPlain : List Lexeme → Type 0
AllPlain ts = AllByRecursion LexemePlain ts

-- ---- tokens

spelled_plain : (op : Bool) (t : Lexeme) (w : List ℕ) → Spells op t w → LexemePlain t
spelled_plain _ _ _ (a_name op b bs lower all free) = let n : is_name_byte b ≡ true = grind (arith, lower) in record { first = lower; bytes = rw n all; plain = free }
spelled_plain _ _ _ (a_variable op b bs upper all) = tt
spelled_plain _ _ _ (a_number op b bs all) = tt
spelled_plain _ _ _ (below_zero b bs all) = tt
spelled_plain _ _ _ (a_mark op m) = tt

tokens_plain : (op : Bool) (bs : List ℕ) (ts : List Lexeme) → Tokens op bs ts → AllPlain ts
tokens_plain _ _ _ (no_more op) = tt
tokens_plain _ _ _ (blank op b bs ts gap more) = tokens_plain op bs ts more
tokens_plain _ _ _ (token op t w rest ts longest more) = (spelled_plain op t w longest.spelled, tokens_plain (is_operand t) rest ts more)

pub lexemes_plain : (e : Item) (ts : List Lexeme) → item_lexemes e ≡ Ok ts → AllPlain ts
lexemes_plain e ts h = tokens_plain false e.bytes ts (texts.is_item e ts h).tokens

-- ---- terms and atoms

nodes_plain : (d : ℕ) (ns : List TermNode) → AllPlain (nodes_spelled d ns) → AllByRecursion NodePlain ns
nodes_plain d [] all = tt
nodes_plain d (n ∷ ns) all =
    let rest = (each_split LexemePlain (between d n.depth) (OfWord n.word ∷ nodes_spelled n.depth ns) all).1 in
    (rest.0, nodes_plain n.depth ns rest.1)

term_plain : (t : ParsedTerm) → IsParsedTerm t → AllPlain (term_spelled t) → TermPlain t
term_plain [] is all = absurd is
term_plain (n ∷ ns) is all = (is, (all.0, nodes_plain n.depth ns all.1))

further_plain : (ts : List ParsedTerm) → AllByRecursion IsParsedTerm ts → AllPlain (further ts) → AllByRecursion TermPlain ts
further_plain [] are all = tt
further_plain (t ∷ ts) are all =
    let parts = each_split LexemePlain (term_spelled t) (further ts) all.1 in
    (term_plain t are.0 parts.0, further_plain ts are.1 parts.1)

args_plain : (name : List ℕ) (ts : List ParsedTerm) → AllByRecursion IsParsedTerm ts → AllPlain (phrase_spelled (record { name = name; args = ts })) → AllByRecursion TermPlain ts
args_plain name [] are all = tt
args_plain name (t ∷ ts) are all = further_plain (t ∷ ts) are all.1

phrase_plain : (p : ParsedAtom) → IsParsedAtom p → AllPlain (phrase_spelled p) → PhrasePlain p
phrase_plain p is all = (all.0, args_plain p.name p.args is.terms all)

-- ---- lists by commas

commas_plain : {A : Type 0} (Stands P : A → Type 0) (spelled : A → List Lexeme) → ((x : A) → Stands x → AllPlain (spelled x) → P x) → (xs : List A) → AllByRecursion Stands xs → AllPlain (by_commas spelled xs) → AllByRecursion P xs
commas_plain Stands P spelled h [] are all = tt
commas_plain Stands P spelled h (x ∷ []) are all = (h x are.0 all, tt)
commas_plain Stands P spelled h (x ∷ y ∷ xs) are all =
    let parts = each_split LexemePlain (spelled x) _ all in
    (h x are.0 parts.0, commas_plain Stands P spelled h (y ∷ xs) are.1 parts.1.1)

phrases_plain : (ps : List ParsedAtom) → AllByRecursion IsParsedAtom ps → AllPlain (by_commas phrase_spelled ps) → AllByRecursion PhrasePlain ps
phrases_plain ps are all = commas_plain IsParsedAtom PhrasePlain phrase_spelled phrase_plain ps are all

pub phrases_are_plain : (ts : List Lexeme) (ps : List ParsedAtom) → AllPlain ts → phrases_of ts ≡ Ok ps → AllByRecursion PhrasePlain ps
phrases_are_plain ts ps all h = let are = are_phrases ts ps h in phrases_plain ps are.each (subst AllPlain are.written all)

-- ---- guards and bodies

test_plain : (t : GuardMember) → IsGuardMember t → AllPlain (test_spelled t) → TestPlain t
test_plain (parsed.Same t u) is all = let parts = each_split LexemePlain (term_spelled t) _ all in (term_plain t is.0 parts.0, term_plain u is.1 parts.1.1)
test_plain (parsed.Differ t u) is all = let parts = each_split LexemePlain (term_spelled t) _ all in (term_plain t is.0 parts.0, term_plain u is.1 parts.1.1)
test_plain _ is all = tt

member_plain : (m : BodyMember) → IsBodyMember m → AllPlain (member_spelled m) → MemberPlain m
member_plain (parsed.Add p) is all = phrase_plain p is all
member_plain _ is all = tt

members_plain : (ms : List BodyMember) → AllByRecursion IsBodyMember ms → AllPlain (by_commas member_spelled ms) → AllByRecursion MemberPlain ms
members_plain ms are all = commas_plain IsBodyMember MemberPlain member_spelled member_plain ms are all

-- ---- rules

heads_plain : (kept removed : List ParsedAtom) → AllByRecursion IsParsedAtom kept → AllByRecursion IsParsedAtom removed → AllPlain (heads_spelled kept removed)
    → AllByRecursion PhrasePlain kept × AllByRecursion PhrasePlain removed
heads_plain [] removed k r all = (tt, phrases_plain removed r all)
heads_plain (p ∷ ps) [] k r all = (phrases_plain (p ∷ ps) k all, tt)
heads_plain (p ∷ ps) (q ∷ qs) k r all =
    let parts = each_split LexemePlain (by_commas phrase_spelled (p ∷ ps)) _ all in
    (phrases_plain (p ∷ ps) k parts.0, phrases_plain (q ∷ qs) r parts.1.1)

consequence_plain : (guard : List GuardMember) (body : List BodyMember) → AllByRecursion IsGuardMember guard → AllByRecursion IsBodyMember body → AllPlain (consequence_spelled guard body)
    → AllByRecursion TestPlain guard × AllByRecursion MemberPlain body
consequence_plain [] body g b all = (tt, members_plain body b all)
consequence_plain (t ∷ ts) body g b all =
    let parts = each_split LexemePlain (by_commas test_spelled (t ∷ ts)) _ all in
    (commas_plain IsGuardMember TestPlain test_spelled test_plain (t ∷ ts) g parts.0, members_plain body b parts.1.1)

pub rules_are_plain : (ts : List Lexeme) (r : ParsedRule) → AllPlain ts → statement_of ts ≡ Ok (Rule r) → RulePlain r
rules_are_plain ts r all h =
    let is = says ts (Rule r) h in
    let named = each_split LexemePlain (rule_name_spelled r.rule_name) _ (subst AllPlain is.1 all) in
    let parts = each_split LexemePlain (heads_spelled r.kept r.removed) _ named.1 in
    let heads = heads_plain r.kept r.removed is.0.kept is.0.removed parts.0 in
    let rest = consequence_plain r.guard r.body is.0.guard is.0.body parts.1.1 in
    record { kept = heads.0; removed = heads.1; guard = rest.0; body = rest.1 }

pub statements_are_plain : (ts : List Lexeme) (s : Statement) → AllPlain ts → statement_of ts ≡ Ok s → StatementPlain s
statements_are_plain ts (Rule r) plain is = rules_are_plain ts r plain is
statements_are_plain ts _ plain is = tt

-- none of four tests is passed
four : (a b c d : Bool) → a || b || c || d ≡ false → (a ≡ false) × (b ≡ false) × (c ≡ false) × (d ≡ false)
four false false false false h = (refl, refl, refl, refl)
four _ _ _ _ h = absurd cc

name_fits : (t : List ℕ) → is_long (Name t) ≡ false → NamePlain t → IsName t
name_fits t h p = record { first = p.first; bytes = p.bytes; short = ltb-false 64 (length t) h; plain = p.plain }

word_fits : (w : Word) → is_out_of_range w ≡ false → is_long w ≡ false → WordPlain w → WordFits w
word_fits (Name t) range long p = name_fits t long p
word_fits (Variable x) range long p = tt
word_fits (Number negative ds) range long p = range

-- where none of a list has a fault of four kinds
each_fits : {A : Type 0} (P Q : A → Type 0) (p q r s : A → Bool) → ((a : A) → p a ≡ false → q a ≡ false → r a ≡ false → s a ≡ false → P a → Q a)
    → (as' : List A) → list_any p as' ≡ false → list_any q as' ≡ false → list_any r as' ≡ false → list_any s as' ≡ false → AllByRecursion P as' → AllByRecursion Q as'
each_fits P Q p q r s fits [] hp hq hr hs all = tt
each_fits P Q p q r s fits (a ∷ as') hp hq hr hs all =
    let kp = neither (p a) (list_any p as') hp in
    let kq = neither (q a) (list_any q as') hq in
    let kr = neither (r a) (list_any r as') hr in
    let ks = neither (s a) (list_any s as') hs in
    (fits a kp.0 kq.0 kr.0 ks.0 all.0, each_fits P Q p q r s fits as' kp.1 kq.1 kr.1 ks.1 all.1)

term_fits : (t : ParsedTerm) → term_has is_out_of_range t ≡ false → term_has is_long t ≡ false → is_large_term t ≡ false → TermPlain t → TermFits t
term_fits t range long small p =
    let out = λ (n : TermNode). is_out_of_range n.word in
    let far = λ (n : TermNode). is_long n.word in
    record { words = each_fits NodePlain NodeFits out far out far (λ n r l s u q. word_fits n.word r l q) t range long range long p.1; small = small; nested = p.0 }

shape_fits : (a : ParsedAtom) → phrase_has is_out_of_range a ≡ false → phrase_has is_long a ≡ false → has_many_args a ≡ false → has_large_args a ≡ false → PhrasePlain a → ShapeFits a
shape_fits a range long many small p =
    let l = neither (is_long (Name a.name)) (list_any (term_has is_long) a.args) long in
    let args = each_fits TermPlain TermFits (term_has is_out_of_range) (term_has is_long) is_large_term is_large_term (λ t r l s u. term_fits t r l s) a.args range l.1 small small p.1 in
    record { name = name_fits a.name l.0 p.0; args = args; few = ltb-false 8 (length a.args) many }

shapes_fit : (ps : List ParsedAtom) → list_any (phrase_has is_out_of_range) ps ≡ false → list_any (phrase_has is_long) ps ≡ false → list_any has_many_args ps ≡ false → list_any has_large_args ps ≡ false → AllByRecursion PhrasePlain ps → AllByRecursion ShapeFits ps
shapes_fit ps = each_fits PhrasePlain ShapeFits (phrase_has is_out_of_range) (phrase_has is_long) has_many_args has_large_args shape_fits ps

-- ---- posts

each_without : {A : Type 0} (P Q : A → Type 0) (p : A → Bool) → ((a : A) → p a ≡ false → P a → Q a) → (as' : List A) → list_any p as' ≡ false → AllByRecursion P as' → AllByRecursion Q as'
each_without P Q p h as' none all = each_fits P Q p p p p (λ a e f g i k. h a e k) as' none none none none all

post_fits : (a : ParsedAtom) → phrase_has is_variable a ≡ false → ShapeFits a → PostFits a
post_fits a none fits = record { name = fits.name; args = each_without TermFits ValueFits (term_has is_variable) (λ t v h. record { term = h; given = v }) a.args none fits.args; few = fits.few }

pub posts_fit : (ps : List ParsedAtom) (u : Unit {0}) → post_judged ps ≡ Ok u → AllByRecursion PhrasePlain ps → AllByRecursion PostFits ps
posts_fit ps u h p = let may = posted ps h in each_without ShapeFits PostFits (phrase_has is_variable) post_fits ps may.no_variables (shapes_fit ps may.numbers may.names may.args may.terms p)

-- ---- rules

formula_fits : (e : ParsedExpression) → formula_has is_out_of_range e ≡ false → FormulaFits e
formula_fits (parsed.Number negative ds) range = range
formula_fits (parsed.Variable x) range = tt
formula_fits (parsed.Group e) range = formula_fits e range
formula_fits (parsed.Operation o a b) range = let r = neither (formula_has is_out_of_range a) (formula_has is_out_of_range b) range in (formula_fits a r.0, formula_fits b r.1)

sides_fit : (s t : ParsedTerm) → (term_has is_out_of_range s || term_has is_out_of_range t) ≡ false → (term_has is_long s || term_has is_long t) ≡ false → (is_large_term s || is_large_term t) ≡ false → TermPlain s × TermPlain t → TermFits s × TermFits t
sides_fit s t range long small p =
    let r = neither (term_has is_out_of_range s) (term_has is_out_of_range t) range in
    let l = neither (term_has is_long s) (term_has is_long t) long in
    let m = neither (is_large_term s) (is_large_term t) small in
    (term_fits s r.0 l.0 m.0 p.0, term_fits t r.1 l.1 m.1 p.1)

test_fits : (t : GuardMember) → test_has is_out_of_range t ≡ false → test_has is_long t ≡ false → compares_large_terms t ≡ false → TestPlain t → TestFits t
test_fits parsed.Always range long small p = tt
test_fits (parsed.Compared c a b) range long small p = let r = neither (formula_has is_out_of_range a) (formula_has is_out_of_range b) range in (formula_fits a r.0, formula_fits b r.1)
test_fits (parsed.Same s t) range long small p = sides_fit s t range long small p
test_fits (parsed.Differ s t) range long small p = sides_fit s t range long small p

member_fits : (m : BodyMember) → member_has is_out_of_range m ≡ false → member_has is_long m ≡ false → adds_many_args m ≡ false → adds_large_args m ≡ false → MemberPlain m → MemberFits m
member_fits parsed.Nothing range long many small p = tt
member_fits (parsed.Is x e) range long many small p = formula_fits e range
member_fits (parsed.Add a) range long many small p = shape_fits a range long many small p

tests_count : (seen : Seen) (ts : List GuardMember) → length (somes (in_turn test seen ts).0) ≡ length (filter is_comparison ts)
tests_count seen [] = refl
tests_count seen (parsed.Always ∷ ts) = tests_count seen ts
tests_count seen (t ∷ ts) = ap suc (tests_count (test seen t).1 ts)

members_count : (seen : Seen) (ms : List BodyMember) → length (somes (in_turn member seen ms).0) ≡ length (filter is_item ms)
members_count seen [] = refl
members_count seen (parsed.Nothing ∷ ms) = members_count seen ms
members_count seen (m ∷ ms) = ap suc (members_count (member seen m).1 ms)

-- ---- what fits is a rule

term_is : (seen : Seen) (t : ParsedTerm) → TermFits t → IsTerm (argument seen t).0
term_is seen t fits = is_term seen t fits.small fits.nested

shape_is : (seen : Seen) (p : ParsedAtom) → ShapeFits p → IsRuleAtom (rule_atom seen p).0
shape_is seen p fits = turns_so TermFits IsTerm argument term_is seen p.args fits.args

test_is : (seen : Seen) (t : GuardMember) → TestFits t → IfThere IsComparison (test seen t).0
test_is seen (parsed.Same s t) fits = (term_is seen s fits.0, term_is (argument seen s).1 t fits.1)
test_is seen (parsed.Differ s t) fits = (term_is seen s fits.0, term_is (argument seen s).1 t fits.1)
test_is seen _ fits = tt

member_is : (seen : Seen) (m : BodyMember) → MemberFits m → IfThere IsBodyItem (member seen m).0
member_is seen (parsed.Add p) fits = shape_is seen p fits
member_is seen _ fits = tt

pub rule_fits : (full : Bool) (r : ParsedRule) (u : Unit {0}) → rule_judged full r ≡ Ok u → RulePlain r → RuleFits r
rule_fits full r u h p =
    let may = (stands full r h).1 in
    let n = four _ (list_any (phrase_has is_out_of_range) r.removed) (list_any (test_has is_out_of_range) r.guard) (list_any (member_has is_out_of_range) r.body) may.numbers in
    let l = four _ (list_any (phrase_has is_long) r.removed) (list_any (test_has is_long) r.guard) (list_any (member_has is_long) r.body) may.names in
    let n0 = neither (rule_name_has is_out_of_range r.rule_name) (list_any (phrase_has is_out_of_range) r.kept) n.0 in
    let l0 = neither (rule_name_has is_long r.rule_name) (list_any (phrase_has is_long) r.kept) l.0 in
    let a = neither (list_any has_many_args r.kept || list_any has_many_args r.removed) (list_any adds_many_args r.body) may.args in
    let a0 = neither (list_any has_many_args r.kept) (list_any has_many_args r.removed) a.0 in
    let s = four (list_any has_large_args r.kept) (list_any has_large_args r.removed) (list_any compares_large_terms r.guard) (list_any adds_large_args r.body) may.terms in
    let kept = shapes_fit r.kept n0.1 l0.1 a0.0 s.0 p.kept in
    let removed = shapes_fit r.removed n.1 l.1 a0.1 s.1 p.removed in
    let guard = each_fits TestPlain TestFits (test_has is_out_of_range) (test_has is_long) compares_large_terms compares_large_terms (λ t r l s u. test_fits t r l s) r.guard n.2 l.2 s.2 s.2 p.guard in
    let body = each_fits MemberPlain MemberFits (member_has is_out_of_range) (member_has is_long) adds_many_args adds_large_args member_fits r.body n.3 l.3 a.1 s.3 p.body in
    record {
      kept = kept;
      removed = removed;
      guard = guard;
      body = body;
      room = omega (arith, may.variables, ap length (all_seen r));
      valid = record {
        scoped = rule_known r (plain_nests r p) may.scoped;
        limits = record {
          variables = omega (arith, may.variables, ap length (all_seen r));
          removed = omega (arith, may.removes, turns_count rule_atom (after_kept r) r.removed);
          heads = omega (arith, may.heads, turns_count rule_atom [] r.kept, turns_count rule_atom (after_kept r) r.removed);
          guard = omega (arith, may.comparisons, tests_count (after_heads r) r.guard);
          body = omega (arith, may.items, members_count (after_guard r) r.body);
        };
        terms = record {
          kept = turns_so ShapeFits IsRuleAtom rule_atom shape_is [] r.kept kept;
          removed = turns_so ShapeFits IsRuleAtom rule_atom shape_is (after_kept r) r.removed removed;
          guard = some_turns_so TestFits IsComparison test test_is (after_heads r) r.guard guard;
          body = some_turns_so MemberFits IsBodyItem member member_is (after_guard r) r.body body;
        };
      };
    }

-- a rule of a text
pub read_fits : (before : Program) (e : Item) (after : Program) (a : AddsStatement before e after) (r : ParsedRule) → a.statement ≡ Rule r → IsAllowedRule r → RuleFits r
read_fits before e after a r is allowed =
    let plain = lexemes_plain e a.tokens (texts.item_read e a.tokens a.item) in
    rule_fits false r tt (passes false r (refl, allowed)) (rules_are_plain a.tokens r plain (by_texts a.tokens a.statement a.says ∙ ap (λ (s : Statement). Ok s) is))
