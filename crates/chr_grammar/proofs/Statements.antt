-- What is read as a rule or a declaration is spelled so, and what is spelled so is read.
use Rattle.std.proofs.Common.{◌≡◌, ◌<◌, ◌+◌, ℕ, true, List, [], ◌∷◌, ◌++◌, length, refl, sym, ap, subst, ◌∙◌, arith, Option, Some, None, Result, Ok, ◌&&◌, ◌-◌, zero, suc, false, nat_lt, length-append, Err}
use Rattle.std.specs.Prelude.{codes}
use Rattle.std.specs.List.{AllByRecursion}
use Rattle.std.specs.Str.{bytes_eq}
use Rattle.std.proofs.lemmas.Bool.{cond_both}
use Rattle.std.proofs.lemmas.List.{append-nil}
use Rattle.std.proofs.lemmas.Slice.Eq.{bytes_eq-Decides}
use Rattle.chr_value.proofs.Chosen.{both}
use Rattle.chr_lex.specs.declared.fault.Kind.{Kind}
use Rattle.chr_lex.specs.declared.mark.Mark.{Mark}
use Rattle.chr_lex.specs.declared.mark.Mark.TheVariants as mark
use Rattle.chr_lex.specs.Reading.{◌>>=◌}
use Rattle.chr_lex.specs.Tokens.{Lexeme, OfMark, OfWord}
use Rattle.chr_grammar.specs.Parsed.{ParsedAtom, GuardMember, BodyMember, ParsedRule, Statement, Declaration, ParsedExpression, Number, Variable, Group, Operation, TermNode, ParsedTerm, Always, Compared, Same, Differ, Nothing, Is, Add, Declared, Import, Rule}
use Rattle.chr_grammar.specs.Parsing.{parts_by, is_mark, is_arrow, named, is_named, is_opened, are_closed, is_module, is_library, before, from_first, phrases_of, tests_of, body_of, heads_by_arrow, consequence_of, rule_by, named_rule_of, rule_of, declarations_of, directive_of, a_rule, statement_of, phrase_at, test_at, member_at, declared_at, heads_by, consequence_by}
use Rattle.chr_grammar.specs.Spelling.{AreByCommas, AreParsedAtoms, phrase_spelled, test_spelled, member_spelled, declared_spelled, IsParsedAtom, IsGuardMember, IsBodyMember, rule_name_spelled, heads_spelled, arrow_sign, consequence_spelled, rule_spelled, IsParsedRule, a_name, AreStatement, by_commas, closings, between, nodes_spelled, term_spelled, further, arguments, operator_sign, relation_sign, formula_spelled, statement_spelled, IsStatement}
use Rattle.chr_grammar.proofs.Fronts.{IfRead, then_read, also_read, either_both, ListRead, list_found, mark_is, named_is, named_so, splits, first_such, no_more, list_read, None_such, cut_past, cut_none}
use Rattle.chr_grammar.proofs.Terms.{phrase_found, phrases_read, phrase_some}
use Rattle.chr_grammar.proofs.Members_again.{test_found, member_found, AnyDeclared, declared_found, all_append, test_again, test_some, member_again, member_some, declared_again, declared_some}
use Rattle.chr_lex.specs.declared.fault.Kind.TheVariants.{Syntax}
use Rattle.chr_rule.specs.declared.expression.Operator.{Operator}
use Rattle.chr_rule.specs.declared.expression.Operator.TheVariants as operator
use Rattle.chr_rule.specs.declared.expression.Relation.{Relation}
use Rattle.chr_rule.specs.declared.expression.Relation.TheVariants as relation

-- ---- two lists with a sign between them

module _ {A B : Type 0} (first : List Lexeme → Result (List A) Kind) (second : List Lexeme → Result (List B) Kind)
    (P : List Lexeme → List A → Type 0) (Q : List Lexeme → List B → Type 0)
    (one : (ts : List Lexeme) → IfRead (P ts) (first ts)) (two : (ts : List Lexeme) → IfRead (Q ts) (second ts))
    (m : Mark) (R : List A × List B → Type 0) (ts : List Lexeme) (lone : (ys : List B) → Q ts ys → R ([], ys))
    (both_by : (us vs : List Lexeme) (xs : List A) (ys : List B) → ts ≡ us ++ (OfMark m ∷ vs) → P us xs → Q vs ys → R (xs, ys)) where
  parts_at : (us vs : List Lexeme) → ts ≡ us ++ vs → ((s : Lexeme) (r : List Lexeme) → vs ≡ s ∷ r → is_mark m s ≡ true) → IfRead R (parts_by first second us vs)
  parts_at us [] at is = then_read _ _ (second us) _ (two us) (λ ys h. lone ys (subst (λ (x : List Lexeme). Q x ys) (sym (at ∙ append-nil us)) h))
  parts_at us (s ∷ vs) at is =
      then_read _ _ (first us) _ (one us)
      (λ xs h. then_read _ _ (second vs) _ (two vs) (λ ys k. both_by us vs xs ys (at ∙ ap (λ (s : Lexeme). us ++ (s ∷ vs)) (mark_is m s (is s vs refl))) h k))

  parts_found : IfRead R (parts_by first second (before (is_mark m) ts) (from_first (is_mark m) ts))
  parts_found = parts_at (before (is_mark m) ts) (from_first (is_mark m) ts) (splits (is_mark m) ts) (λ s r e. first_such (is_mark m) ts r s e)

-- ---- heads

record HeadsAre (s : Lexeme) (ts : List Lexeme) (kept removed : List ParsedAtom) : Type 0 where
  some : 0 < length kept + length removed
  each_kept : AllByRecursion IsParsedAtom kept
  each_removed : AllByRecursion IsParsedAtom removed
  written : ts ≡ heads_spelled kept removed
  arrow : s ≡ arrow_sign removed

kept_are : (ts : List Lexeme) (kept : List ParsedAtom) → AreParsedAtoms ts kept → HeadsAre (OfMark mark.Propagate) ts kept []
kept_are ts [] h = absurd (omega (arith, h.some))
kept_are ts (p ∷ ps) h = record { some = omega arith; each_kept = h.each; each_removed = tt; written = h.written; arrow = refl }

removed_are : (ts : List Lexeme) (removed : List ParsedAtom) → AreParsedAtoms ts removed → HeadsAre (OfMark mark.Simplify) ts [] removed
removed_are ts [] h = absurd (omega (arith, h.some))
removed_are ts (p ∷ ps) h = record { some = omega arith; each_kept = tt; each_removed = h.each; written = h.written; arrow = refl }

both_are : (ts us vs : List Lexeme) (kept removed : List ParsedAtom) → ts ≡ us ++ (OfMark mark.Backslash ∷ vs) → AreParsedAtoms us kept → AreParsedAtoms vs removed → HeadsAre (OfMark mark.Simplify) ts kept removed
both_are ts us vs [] removed at h k = absurd (omega (arith, h.some))
both_are ts us vs (p ∷ ps) [] at h k = absurd (omega (arith, k.some))
both_are ts us vs (p ∷ ps) (q ∷ qs) at h k = record { some = omega arith; each_kept = h.each; each_removed = k.each; written = rw (at, h.written, k.written) refl; arrow = refl }

phrases_found : (ts : List Lexeme) → ListRead IsParsedAtom phrase_spelled ts (phrases_of ts)
phrases_found = list_found IsParsedAtom phrase_spelled phrase_at phrase_found

heads_found : (s : Lexeme) (ts : List Lexeme) → is_arrow s ≡ true → IfRead (λ (hs : List ParsedAtom × List ParsedAtom). HeadsAre s ts hs.0 hs.1) (heads_by_arrow s ts)
heads_found (OfMark mark.Simplify) ts h =
    parts_found phrases_of phrases_of _ _ phrases_found phrases_found mark.Backslash _ ts (removed_are ts) (both_are ts)
heads_found (OfMark mark.Propagate) ts h = then_read _ _ (phrases_of ts) _ (phrases_found ts) (kept_are ts)
heads_found _ ts h = absurd cc

-- ---- guard and body

record ConsequenceIs (ts : List Lexeme) (guard : List GuardMember) (body : List BodyMember) : Type 0 where
  each_guard : AllByRecursion IsGuardMember guard
  some : 0 < length body
  each_body : AllByRecursion IsBodyMember body
  written : ts ≡ consequence_spelled guard body

guarded_is : (ts us vs : List Lexeme) (guard : List GuardMember) (body : List BodyMember) → ts ≡ us ++ (OfMark mark.Bar ∷ vs) → AreByCommas IsGuardMember test_spelled us guard → AreByCommas IsBodyMember member_spelled vs body → ConsequenceIs ts guard body
guarded_is ts us vs [] body at h k = absurd (omega (arith, h.some))
guarded_is ts us vs (t ∷ ss) body at h k = record { each_guard = h.each; some = k.some; each_body = k.each; written = rw (at, h.written, k.written) refl }

consequence_found : (ts : List Lexeme) → IfRead (λ (c : List GuardMember × List BodyMember). ConsequenceIs ts c.0 c.1) (consequence_of ts)
consequence_found ts =
    parts_found tests_of body_of _ _ (list_found IsGuardMember test_spelled test_at test_found) (list_found IsBodyMember member_spelled member_at member_found) mark.Bar _ ts
    (λ ms h. record { each_guard = tt; some = h.some; each_body = h.each; written = h.written })
    (guarded_is ts)

-- ---- rules

-- a rule of this name, by what comes after the name
abbrev BareRead : Option (List ℕ) → List Lexeme → Result ParsedRule Kind → Type 0
BareRead rule_name ts = IfRead (λ (r : ParsedRule). IsParsedRule r × (ts ≡ heads_spelled r.kept r.removed ++ arrow_sign r.removed ∷ consequence_spelled r.guard r.body) × (r.rule_name ≡ rule_name))

rule_by_found : (rule_name : Option (List ℕ)) (ts us vs : List Lexeme) → ts ≡ us ++ vs → ((s : Lexeme) (r : List Lexeme) → vs ≡ s ∷ r → is_arrow s ≡ true) → BareRead rule_name ts (rule_by rule_name us vs)
rule_by_found rule_name ts us [] at is = refl
rule_by_found rule_name ts us (s ∷ vs) at is =
    then_read _ _ (heads_by_arrow s us) _ (heads_found s us (is s vs refl))
    (λ hs h. then_read _ _ (consequence_of vs) _ (consequence_found vs)
    (λ c k. (record { has_heads = h.some; kept = h.each_kept; removed = h.each_removed; guard = k.each_guard; has_body = k.some; body = k.each_body }, rw (at, h.written, h.arrow, k.written) refl, refl)))

named_found : (rule_name : Option (List ℕ)) (ts : List Lexeme) → BareRead rule_name ts (named_rule_of rule_name ts)
named_found rule_name ts = rule_by_found rule_name ts (before is_arrow ts) (from_first is_arrow ts) (splits is_arrow ts) (λ s r e. first_such is_arrow ts r s e)

abbrev RuleRead : List Lexeme → Result ParsedRule Kind → Type 0
RuleRead ts = IfRead (λ (r : ParsedRule). IsParsedRule r × (ts ≡ rule_spelled r))

label_found : (rule_name : Option (List ℕ)) (ts : List Lexeme) → RuleRead (rule_name_spelled rule_name ++ ts) (named_rule_of rule_name ts)
label_found rule_name ts = also_read _ _ (named_rule_of rule_name ts) (named_found rule_name ts) (λ r h. (h.0, rw (h.1, h.2) refl))

rule_found : (ts : List Lexeme) → RuleRead ts (rule_of ts)
rule_found (s ∷ e ∷ ts) =
    cond_both (is_mark mark.At e) _ _ (RuleRead (s ∷ e ∷ ts))
    (λ h. either_both (named s) _ _ (RuleRead (s ∷ e ∷ ts)) refl (λ name is. rw (mark_is mark.At e h, named_is s name is) (label_found (Some name) ts)))
    (λ h. label_found None (s ∷ e ∷ ts))
rule_found ts = label_found None ts

-- ---- statements

abbrev pub StatementRead : List Lexeme → Result Statement Kind → Type 0
StatementRead ts = IfRead (AreStatement ts)

a_rule_found : (ts : List Lexeme) → StatementRead ts (a_rule ts)
a_rule_found ts = then_read _ _ (rule_of ts) _ (rule_found ts) (λ r h. h)

opened_is : (w : List ℕ) (s n : Lexeme) (ts : List Lexeme) → is_opened w s n ≡ true → s ∷ n ∷ ts ≡ OfMark mark.Open ∷ a_name w ∷ ts
opened_is w s n ts h = let b = both (is_mark mark.Open s) (is_named w (named n)) h in rw (mark_is mark.Open s b.0, named_so n w b.1) refl

module_is : (ts : List Lexeme) → is_module ts ≡ true → ts ≡ OfMark mark.Open ∷ a_name (codes "chr") ∷ OfMark mark.Close ∷ OfMark mark.Close ∷ []
module_is (a ∷ b ∷ c ∷ d ∷ []) h =
    let t = both (is_opened (codes "chr") a b) (are_closed c d) h in
    opened_is (codes "chr") a b (c ∷ d ∷ []) t.0 ∙ ap (λ (x : List Lexeme). OfMark mark.Open ∷ a_name (codes "chr") ∷ x) (let k = both (is_mark mark.Close c) (is_mark mark.Close d) t.1 in rw (mark_is mark.Close c k.0, mark_is mark.Close d k.1) refl)
module_is _ h = absurd cc

library_is : (ts : List Lexeme) → is_library ts ≡ true → ts ≡ OfMark mark.Open ∷ a_name (codes "library") ∷ OfMark mark.Open ∷ a_name (codes "chr") ∷ OfMark mark.Close ∷ OfMark mark.Close ∷ []
library_is (a ∷ b ∷ ts) h =
    let t = both (is_opened (codes "library") a b) (is_module ts) h in
    opened_is (codes "library") a b ts t.0 ∙ ap (λ (x : List Lexeme). OfMark mark.Open ∷ a_name (codes "library") ∷ x) (module_is ts t.1)
library_is _ h = absurd cc

directive_found : (name : List ℕ) (ts : List Lexeme) → StatementRead (OfMark mark.Declares ∷ a_name name ∷ ts) (directive_of name ts)
directive_found name ts =
    cond_both (bytes_eq name (codes "chr_constraint")) _ _ (StatementRead (OfMark mark.Declares ∷ a_name name ∷ ts))
    (λ h. subst (λ (w : List ℕ). StatementRead (OfMark mark.Declares ∷ a_name w ∷ ts) (declarations_of ts >>= λ ds. Ok (Declaration ds))) (sym ((bytes_eq-Decides name (codes "chr_constraint")).0 h))
    (then_read _ _ (declarations_of ts) _ (list_found AnyDeclared declared_spelled declared_at declared_found ts) (λ ds k. (k.some, ap (λ (x : List Lexeme). OfMark mark.Declares ∷ a_name (codes "chr_constraint") ∷ x) k.written))))
    (λ h. cond_both (bytes_eq name (codes "use_module") && is_library ts) _ _ (StatementRead (OfMark mark.Declares ∷ a_name name ∷ ts))
    (λ k. let t = both (bytes_eq name (codes "use_module")) (is_library ts) k in (tt, rw ((bytes_eq-Decides name (codes "use_module")).0 t.0, library_is ts t.1) refl))
    (λ k. refl))

pub statement_found : (ts : List Lexeme) → StatementRead ts (statement_of ts)
statement_found (s ∷ e ∷ ts) =
    cond_both (is_mark mark.Declares s) _ _ (StatementRead (s ∷ e ∷ ts))
    (λ h. either_both (named e) _ _ (StatementRead (s ∷ e ∷ ts)) refl (λ name is. rw (mark_is mark.Declares s h, named_is e name is) (directive_found name ts)))
    (λ h. a_rule_found (s ∷ e ∷ ts))
statement_found ts = a_rule_found ts

pub says : (ts : List Lexeme) (s : Statement) → statement_of ts ≡ Ok s → AreStatement ts s
says ts s h = subst (StatementRead ts) h (statement_found ts)

-- ---- signs that stand in no member

-- no arrow, no `\`, no `|`, no `@`, no `:-`
abbrev Inside : Lexeme → Type 0
Inside s = (is_arrow s ≡ false) × (is_mark mark.Backslash s ≡ false) × (is_mark mark.Bar s ≡ false) × (is_mark mark.At s ≡ false) × (is_mark mark.Declares s ≡ false)

abbrev plain : (false ≡ false) × (false ≡ false) × (false ≡ false) × (false ≡ false) × (false ≡ false)
plain = (refl, refl, refl, refl, refl)

abbrev AllInside : List Lexeme → Type 0
AllInside ts = AllByRecursion Inside ts

operator_inside : (o : Operator) → Inside (operator_sign o)
operator_inside = elim [ operator.Add ↦ plain | operator.Sub ↦ plain | operator.Mul ↦ plain | operator.Quot ↦ plain | operator.Rem ↦ plain | operator.Mod ↦ plain ]

relation_inside : (r : Relation) → Inside (relation_sign r)
relation_inside = elim [ relation.Less ↦ plain | relation.LessEqual ↦ plain | relation.Greater ↦ plain | relation.GreaterEqual ↦ plain | relation.Equal ↦ plain | relation.Unequal ↦ plain ]

closings_inside : (n : ℕ) → AllInside (closings n)
closings_inside zero = tt
closings_inside (suc n) = (plain, closings_inside n)

nodes_inside : (d : ℕ) (ns : List TermNode) → AllInside (nodes_spelled d ns)
nodes_inside d [] = closings_inside d
nodes_inside d (n ∷ ns) =
    let front = cond_both (nat_lt d n.depth) _ _ AllInside (λ h. (plain, tt)) (λ h. all_append Inside (closings (d - n.depth)) (OfMark mark.Comma ∷ []) (closings_inside (d - n.depth)) (plain, tt)) in
    all_append Inside (between d n.depth) (OfWord n.word ∷ nodes_spelled n.depth ns) front (plain, nodes_inside n.depth ns)

term_inside : (t : ParsedTerm) → AllInside (term_spelled t)
term_inside [] = tt
term_inside (n ∷ ns) = (plain, nodes_inside n.depth ns)

further_inside : (ts : List ParsedTerm) → AllInside (further ts)
further_inside [] = (plain, tt)
further_inside (t ∷ ts) = (plain, all_append Inside (term_spelled t) (further ts) (term_inside t) (further_inside ts))

arguments_inside : (ts : List ParsedTerm) → AllInside (arguments ts)
arguments_inside [] = tt
arguments_inside (t ∷ ts) = (plain, all_append Inside (term_spelled t) (further ts) (term_inside t) (further_inside ts))

phrase_inside : (p : ParsedAtom) → AllInside (phrase_spelled p)
phrase_inside p = (plain, arguments_inside p.args)

formula_inside : (f : ParsedExpression) → AllInside (formula_spelled f)
formula_inside (Number negative digits) = (plain, tt)
formula_inside (Variable x) = (plain, tt)
formula_inside (Group f) = (plain, all_append Inside (formula_spelled f) (OfMark mark.Close ∷ []) (formula_inside f) (plain, tt))
formula_inside (Operation o f g) = all_append Inside (formula_spelled f) (operator_sign o ∷ formula_spelled g) (formula_inside f) (operator_inside o, formula_inside g)

test_inside : (t : GuardMember) → AllInside (test_spelled t)
test_inside Always = (plain, tt)
test_inside (Compared r f g) = all_append Inside (formula_spelled f) (relation_sign r ∷ formula_spelled g) (formula_inside f) (relation_inside r, formula_inside g)
test_inside (Same t u) = all_append Inside (term_spelled t) (OfMark mark.Equals ∷ term_spelled u) (term_inside t) (plain, term_inside u)
test_inside (Differ t u) = all_append Inside (term_spelled t) (OfMark mark.Differs ∷ term_spelled u) (term_inside t) (plain, term_inside u)

member_inside : (m : BodyMember) → AllInside (member_spelled m)
member_inside Nothing = (plain, tt)
member_inside (Is x f) = (plain, (plain, formula_inside f))
member_inside (Add p) = phrase_inside p

list_inside : {A : Type 0} (spelled : A → List Lexeme) → ((x : A) → AllInside (spelled x)) → (xs : List A) → AllInside (by_commas spelled xs)
list_inside spelled each [] = tt
list_inside spelled each (x ∷ []) = each x
list_inside spelled each (x ∷ y ∷ xs) = all_append Inside (spelled x) (OfMark mark.Comma ∷ by_commas spelled (y ∷ xs)) (each x) (plain, list_inside spelled each (y ∷ xs))

pub weaker : {A : Type 0} (P Q : A → Type 0) → ((x : A) → P x → Q x) → (xs : List A) → AllByRecursion P xs → AllByRecursion Q xs
weaker P Q f [] h = tt
weaker P Q f (x ∷ xs) h = (f x h.0, weaker P Q f xs h.1)

-- ---- heads

-- no arrow, no `@`, no `:-`
abbrev InHeads : Lexeme → Type 0
InHeads s = (is_arrow s ≡ false) × (is_mark mark.At s ≡ false) × (is_mark mark.Declares s ≡ false)

list_weaker : {A : Type 0} (Q : Lexeme → Type 0) (spelled : A → List Lexeme) → ((s : Lexeme) → Inside s → Q s) → ((x : A) → AllInside (spelled x)) → (xs : List A) → AllByRecursion Q (by_commas spelled xs)
list_weaker Q spelled f each xs = weaker Inside Q f (by_commas spelled xs) (list_inside spelled each xs)

phrases_in_heads : (ps : List ParsedAtom) → AllByRecursion InHeads (by_commas phrase_spelled ps)
phrases_in_heads = list_weaker InHeads phrase_spelled (λ s h. (h.0, h.3, h.4)) phrase_inside

in_heads : (kept removed : List ParsedAtom) → AllByRecursion InHeads (heads_spelled kept removed)
in_heads [] removed = phrases_in_heads removed
in_heads (p ∷ ps) [] = phrases_in_heads (p ∷ ps)
in_heads (p ∷ ps) (q ∷ qs) = all_append InHeads (by_commas phrase_spelled (p ∷ ps)) (OfMark mark.Backslash ∷ by_commas phrase_spelled (q ∷ qs)) (phrases_in_heads (p ∷ ps)) ((refl, refl, refl), phrases_in_heads (q ∷ qs))

no_backslash : (ps : List ParsedAtom) → None_such (is_mark mark.Backslash) (by_commas phrase_spelled ps)
no_backslash = list_weaker (λ s. is_mark mark.Backslash s ≡ false) phrase_spelled (λ s h. h.1) phrase_inside

again : (p : ParsedAtom) (ps : List ParsedAtom) → AllByRecursion IsParsedAtom (p ∷ ps) → phrases_of (by_commas phrase_spelled (p ∷ ps)) ≡ Ok (p ∷ ps)
again p ps each = phrases_read (by_commas phrase_spelled (p ∷ ps)) (p ∷ ps) (record { some = omega arith; each = each; written = refl })

heads_again : (kept removed : List ParsedAtom) → 0 < length kept + length removed → AllByRecursion IsParsedAtom kept → AllByRecursion IsParsedAtom removed → heads_by_arrow (arrow_sign removed) (heads_spelled kept removed) ≡ Ok (kept, removed)
heads_again [] [] some k r = absurd (omega (arith, some))
heads_again [] (q ∷ qs) some k r = cut_none heads_by (is_mark mark.Backslash) (by_commas phrase_spelled (q ∷ qs)) (no_backslash (q ∷ qs)) ∙ rw (again q qs r) refl
heads_again (p ∷ ps) [] some k r = rw (again p ps k) refl
heads_again (p ∷ ps) (q ∷ qs) some k r =
    cut_past heads_by (is_mark mark.Backslash) (by_commas phrase_spelled (p ∷ ps)) (by_commas phrase_spelled (q ∷ qs)) (OfMark mark.Backslash) (no_backslash (p ∷ ps)) refl ∙ rw (again p ps k, again q qs r) refl

-- ---- guard and body

no_bar : {A : Type 0} (spelled : A → List Lexeme) → ((x : A) → AllInside (spelled x)) → (xs : List A) → None_such (is_mark mark.Bar) (by_commas spelled xs)
no_bar spelled = list_weaker (λ s. is_mark mark.Bar s ≡ false) spelled (λ s h. h.2)

consequence_again : (guard : List GuardMember) (body : List BodyMember) → AllByRecursion IsGuardMember guard → 0 < length body → AllByRecursion IsBodyMember body → consequence_of (consequence_spelled guard body) ≡ Ok (guard, body)
consequence_again [] body g some b =
    let members = list_read IsBodyMember member_spelled member_some member_at member_again (by_commas member_spelled body) body (record { some = some; each = b; written = refl }) in
    cut_none consequence_by (is_mark mark.Bar) (by_commas member_spelled body) (no_bar member_spelled member_inside body) ∙ rw members refl
consequence_again (t ∷ gs) body g some b =
    let members = list_read IsBodyMember member_spelled member_some member_at member_again (by_commas member_spelled body) body (record { some = some; each = b; written = refl }) in
    let tests = list_read IsGuardMember test_spelled test_some test_at test_again (by_commas test_spelled (t ∷ gs)) (t ∷ gs) (record { some = omega arith; each = g; written = refl }) in
    cut_past consequence_by (is_mark mark.Bar) (by_commas test_spelled (t ∷ gs)) (by_commas member_spelled body) (OfMark mark.Bar) (no_bar test_spelled test_inside (t ∷ gs)) refl ∙ rw (tests, members) refl

-- ---- rules

arrow_is : (removed : List ParsedAtom) → (is_arrow (arrow_sign removed) ≡ true) × (is_mark mark.At (arrow_sign removed) ≡ false)
arrow_is [] = (refl, refl)
arrow_is (p ∷ ps) = (refl, refl)

abbrev bare : ParsedRule → List Lexeme
bare r = heads_spelled r.kept r.removed ++ arrow_sign r.removed ∷ consequence_spelled r.guard r.body

bare_again : (rule_name : Option (List ℕ)) (r : ParsedRule) → IsParsedRule r → named_rule_of rule_name (bare r) ≡ Ok (record { rule_name = rule_name; kept = r.kept; removed = r.removed; guard = r.guard; body = r.body })
bare_again rule_name r is =
    let heads = heads_spelled r.kept r.removed in
    let behind = consequence_spelled r.guard r.body in
    let none : None_such is_arrow heads = weaker InHeads (λ s. is_arrow s ≡ false) (λ s h. h.0) heads (in_heads r.kept r.removed) in
    let cut : named_rule_of rule_name (bare r) ≡ rule_by rule_name heads (arrow_sign r.removed ∷ behind) = cut_past (rule_by rule_name) is_arrow heads behind (arrow_sign r.removed) none (arrow_is r.removed).0 in
    let one : heads_by_arrow (arrow_sign r.removed) heads ≡ Ok (r.kept, r.removed) = heads_again r.kept r.removed is.has_heads is.kept is.removed in
    let two : consequence_of behind ≡ Ok (r.guard, r.body) = consequence_again r.guard r.body is.guard is.has_body is.body in
    cut ∙ rw (one, two) refl

heads_some : (kept removed : List ParsedAtom) → 0 < length kept + length removed → AllByRecursion IsParsedAtom kept → AllByRecursion IsParsedAtom removed → 0 < length (heads_spelled kept removed)
heads_some [] removed some k r = omega (arith, some, no_more IsParsedAtom phrase_spelled phrase_some removed r)
heads_some (p ∷ ps) [] some k r = omega (arith, no_more IsParsedAtom phrase_spelled phrase_some (p ∷ ps) k)
heads_some (p ∷ ps) (q ∷ qs) some k r = omega (arith, length-append (by_commas phrase_spelled (p ∷ ps)) (OfMark mark.Backslash ∷ by_commas phrase_spelled (q ∷ qs)))

unlabelled : (xs : List Lexeme) (s : Lexeme) (ys : List Lexeme) → 0 < length xs → AllByRecursion InHeads xs → is_mark mark.At s ≡ false
    → statement_of (xs ++ s ∷ ys) ≡ (named_rule_of None (xs ++ s ∷ ys) >>= λ r. Ok (Rule r))
unlabelled [] s ys some all this = absurd (omega (arith, some))
unlabelled (x ∷ []) s ys some all this = rw (all.0.2, this) refl
unlabelled (x ∷ y ∷ xs) s ys some all this = rw (all.0.2, all.1.0.1) refl

rule_again : (rule_name : Option (List ℕ)) (r : ParsedRule) → IsParsedRule r
    → statement_of (rule_name_spelled rule_name ++ bare r) ≡ Ok (Rule (record { rule_name = rule_name; kept = r.kept; removed = r.removed; guard = r.guard; body = r.body }))
rule_again (Some name) r is = rw (bare_again (Some name) r is) refl
rule_again None r is =
    unlabelled (heads_spelled r.kept r.removed) (arrow_sign r.removed) (consequence_spelled r.guard r.body) (heads_some r.kept r.removed is.has_heads is.kept is.removed) (in_heads r.kept r.removed) (arrow_is r.removed).1
    ∙ rw (bare_again None r is) refl

-- ---- statements

any_declared : (ds : List Declared) → AllByRecursion AnyDeclared ds
any_declared [] = tt
any_declared (d ∷ ds) = (tt, any_declared ds)

statement_again : (s : Statement) → IsStatement s → statement_of (statement_spelled s) ≡ Ok s
statement_again Import is = refl
statement_again (Declaration ds) is = rw (list_read AnyDeclared declared_spelled declared_some declared_at declared_again (by_commas declared_spelled ds) ds (record { some = is; each = any_declared ds; written = refl })) refl
statement_again (Rule r) is = rule_again r.rule_name r is

pub by_texts : (ts : List Lexeme) (s : Statement) → AreStatement ts s → statement_of ts ≡ Ok s
by_texts ts s h = ap statement_of h.1 ∙ statement_again s h.0

pub one_statement : (ts : List Lexeme) (s t : Statement) → AreStatement ts s → AreStatement ts t → s ≡ t
one_statement ts s t h k = let a = by_texts ts s h in let b = by_texts ts t k in cc

pub refused : (ts : List Lexeme) (k : Kind) → statement_of ts ≡ Err k → (k ≡ Syntax) × ((s : Statement) → AreStatement ts s → ⊥)
refused ts k h = (subst (StatementRead ts) h (statement_found ts), λ s a. let x = by_texts ts s a in cc)
