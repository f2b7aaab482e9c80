-- The rules of a text: each is in scope, its numbers have 64 bits, and what its instances add can be written.
use Rattle.std.proofs.Common.{◌≡◌, ℕ, pos, ◌≤◌, List, [], ◌∷◌, ◌++◌, length, take, Some, Ok, refl, sym, subst, arith, lit<, length-append, zero, suc, ◌+◌, ◌<◌, slice_get}
use Rattle.std.specs.List.{AllByRecursion}
use Rattle.chr_lex.specs.Items.{Item}
use Rattle.chr_value.specs.Atoms.{Int, Atom}
use Rattle.chr_value.specs.Naming.{Table}
use Rattle.chr_rule.specs.Rules.{BodyItem, Is, Add, Simpagation}
use Rattle.chr_rule.specs.Scope.{IsRule}
use Rattle.chr_rule.specs.Terms.{IsBodyItem}
use Rattle.chr_grammar.specs.Parsed as parsed
use Rattle.chr_grammar.specs.Parsed.{Statement}
use Rattle.chr_grammar.proofs.Statements.{weaker}
use Rattle.chr_grammar.proofs.Members_again.{all_append}
use Rattle.chr_text.specs.Fitting.{FormulaFits, MemberFits}
use Rattle.chr_text.specs.Variables.{Seen, number_variable, in_turn}
use Rattle.chr_text.specs.Translation.{expression, member, somes, after_guard, rule}
use Rattle.chr_text.specs.Numbering.{number_rule}
use Rattle.chr_text.specs.Reading.{Program, program_of}
use Rattle.chr_text.specs.Forms.{Adds, AddsStatement}
use Rattle.chr_text.specs.Writable.{AddsWritable, HasWritable, AreWritable}
use Rattle.chr_text.proofs.Judged.{read_fits}
use Rattle.chr_text.proofs.Said.{rule_says, rule_stays, item_by}
use Rattle.chr_text.proofs.Lists.{each_from}
use Rattle.chr_text.proofs.Texts.{all_in_order}
use Rattle.chr_text.proofs.ProgramTexts.{is_program}
use Rattle.chr_text.proofs.Writable.{spelled_fits, program_writable}
use Rattle.chr_value.specs.Spelling.{FitsTerm}
use Rattle.laws_writable.proofs.Values.{NumbersFit, zeros, zeros_within, ItemHeld, items_kept, instance_fits, body_few, heads_few}
use Rattle.chr_model.specs.Programs.{Instances}
use Rattle.chr_model.proofs.Programs.{of_zero}

-- ---- the numbers of a rule

formula_fits : (seen : Seen) (p : parsed.ParsedExpression) → FormulaFits p → NumbersFit (expression seen p).0
formula_fits seen (parsed.Number negative ds) fits = spelled_fits negative ds fits
formula_fits seen (parsed.Variable x) fits = tt
formula_fits seen (parsed.Group e) fits = formula_fits seen e fits
formula_fits seen (parsed.Operation o a b) fits = (formula_fits seen a fits.0, formula_fits (expression seen a).1 b fits.1)

abbrev ItemNumbers : {N : Type 0} → BodyItem N → Type 0
ItemNumbers (Is x e) = NumbersFit e
ItemNumbers (Add s) = Unit {0}

members_fit : (seen : Seen) (ms : List parsed.BodyMember) → AllByRecursion MemberFits ms → AllByRecursion ItemNumbers (somes (in_turn member seen ms).0)
members_fit seen [] fits = tt
members_fit seen (parsed.Nothing ∷ ms) fits = members_fit seen ms fits.1
members_fit seen (parsed.Is x e ∷ ms) fits = (formula_fits (number_variable seen x).1 e fits.0, members_fit (member seen (parsed.Is x e)).1 ms fits.1)
members_fit seen (parsed.Add p ∷ ms) fits = (tt, members_fit (member seen (parsed.Add p)).1 ms fits.1)

abbrev IsSound : Simpagation ℕ → Type 0
IsSound r = IsRule r × AllByRecursion ItemNumbers r.body

rule_numbered : (table new : Table) (r : Simpagation (List ℕ)) (n : Simpagation ℕ) → IsRule r → AllByRecursion ItemNumbers r.body → number_rule table r ≡ Some (n, new) → IsSound n
rule_numbered table new r n whole all h =
    let same = sym (rule_says table new r n h).0 in
    (rule_stays new n (subst IsRule same whole), each_from ItemNumbers ItemNumbers (item_by new) item_numbers n.body (subst (λ (q : Simpagation (List ℕ)). AllByRecursion ItemNumbers q.body) same all))
  where
    item_numbers : (b : BodyItem ℕ) → ItemNumbers (item_by new b) → ItemNumbers b
    item_numbers (Is x e) fits = fits
    item_numbers (Add s) fits = tt

-- ---- the rules of a text

abbrev AreSound : Program → Type 0
AreSound p = AllByRecursion IsSound p.0 × (length p.0 ≤ 256)

statement_sound : (before : Program) (e : Item) (after : Program) (a : AddsStatement before e after) (s : Statement) → a.statement ≡ s → Adds before s after → AreSound before → AreSound after
statement_sound before e after a parsed.Import is adds sound = subst AreSound (sym adds) sound
statement_sound before e after a (parsed.Declaration ds) is adds sound = subst AreSound (sym adds.1) sound
statement_sound before e after a (parsed.Rule r) is adds sound =
    let fits = read_fits before e after a r is adds.stands in
    let new = rule_numbered before.1 adds.table (rule r) adds.new fits.valid (members_fit (after_guard r) r.body fits.body) adds.numbered in
    let few : length (before.0 ++ adds.new ∷ []) ≤ 256 = (let le = adds.room in omega (arith, le, length-append before.0 (adds.new ∷ []))) in
    subst AreSound (sym adds.added) (all_append IsSound before.0 (adds.new ∷ []) sound.0 (new, tt), few)

program_sound : (table : Table) (bytes : List ℕ) (p : Program) → program_of table bytes ≡ Ok p → AreSound p
program_sound table bytes p h = let is = is_program table bytes p h in all_in_order AddsStatement AreSound (λ x e y a. statement_sound x e y a a.statement refl a.adds) ([], table) is.entries p is.in_order (tt, omega arith)

-- ---- rules with what they add

-- a rule in scope, whose body can be held
abbrev pub RuleHeld : Table → Simpagation ℕ → Type 0
RuleHeld table r = IsRule r × AllByRecursion (ItemHeld table) r.body

zero_held : (table : Table) (x : ℕ) → FitsTerm (Int (pos 0))
zero_held table x = lit< tt

items_held : (table : Table) (ms : List (BodyItem ℕ)) → AllByRecursion ItemNumbers ms → AllByRecursion IsBodyItem ms → AllByRecursion (AddsWritable table) ms → AllByRecursion (ItemHeld table) ms
items_held table [] n t w = tt
items_held table (Is x e ∷ ms) n t w = (n.0, items_held table ms n.1 t.1 w.1)
items_held table (Add s ∷ ms) n t w = (w.0 zeros (zero_held table) (zeros_within s.args t.0), items_held table ms n.1 t.1 w.1)

rules_held : (table : Table) (rules : List (Simpagation ℕ)) → AllByRecursion IsSound rules → HasWritable table rules → AllByRecursion (RuleHeld table) rules
rules_held table [] s w = tt
rules_held table (r ∷ rs) s w = ((s.0.0, items_held table r.body s.0.1 s.0.0.terms.body w.0), rules_held table rs s.1 w.1)

pub rules_kept : (old new : Table) (rules : List (Simpagation ℕ)) → take (length old) new ≡ old → AllByRecursion (RuleHeld old) rules → AllByRecursion (RuleHeld new) rules
rules_kept old new rules keeps = weaker (RuleHeld old) (RuleHeld new) (λ r held. (held.0, items_kept old new r.body keeps held.1)) rules

pub program_held : (table : Table) (bytes : List ℕ) (p : Program) → program_of table bytes ≡ Ok p → AllByRecursion (RuleHeld p.1) p.0 × (length p.0 ≤ 256)
program_held table bytes p h =
    let sound = program_sound table bytes p h in
    (rules_held p.1 p.0 sound.0 (program_writable table bytes p h), sound.1)

pub rules_whole : (table : Table) (rules : List (Simpagation ℕ)) → AllByRecursion (RuleHeld table) rules → AllByRecursion IsRule rules
rules_whole table rules = weaker (RuleHeld table) IsRule (λ r held. held.0) rules

rule_held : (table : Table) (rules : List (Simpagation ℕ)) → AllByRecursion (RuleHeld table) rules → (k : ℕ) (rule : Simpagation ℕ) → slice_get rules k ≡ Some rule → RuleHeld table rule × (k < length rules)
rule_held table [] all k rule e = absurd (cc)
rule_held table (x ∷ xs) all zero rule e = let same : x ≡ rule = cc in (subst (RuleHeld table) same all.0, omega arith)
rule_held table (x ∷ xs) all (suc k) rule e = let rest = rule_held table xs all.1 k rule e in (rest.0, (let lt = rest.1 in omega (arith, lt)))

-- what an instance adds, and how many atoms it has
pub record Added (table : Table) (rules : List (Simpagation ℕ)) (r : ℕ) (kept removed body : List (Atom ℕ)) : Type 0 where
  pub body_fits : AreWritable table kept → AreWritable table removed → AreWritable table body
  pub from : 1 ≤ r
  pub to : r ≤ length rules
  pub few : length body ≤ 16
  pub heads : length kept + length removed ≤ 6
  pub some : 0 < length removed

pub added_by : (table : Table) (rules : List (Simpagation ℕ)) → AllByRecursion (RuleHeld table) rules → (r : ℕ) (kept removed body : List (Atom ℕ)) → Instances rules r kept removed body → Added table rules r kept removed body
added_by table rules all zero kept removed body i = absurd (of_zero rules kept removed body i)
added_by table rules all (suc n) kept removed body i =
    let held = rule_held table rules all n i.0 i.1 in
    let heads = heads_few i.0 kept removed body held.0.0 i.2 in
    record {
      body_fits = instance_fits table i.0 kept removed body held.0.0 held.0.1 i.2;
      from = omega arith;
      to = (let lt = held.1 in omega (arith, lt));
      few = body_few i.0 kept removed body held.0.0 i.2;
      heads = heads.0;
      some = heads.1;
    }

pub added_writable : (before names : Table) (bytes : List ℕ) (p : Program) (r : ℕ) (kept removed body : List (Atom ℕ))
    → program_of before bytes ≡ Ok p → take (length p.1) names ≡ p.1 → Instances p.0 r kept removed body → AreWritable names kept → AreWritable names removed → AreWritable names body
added_writable before names bytes p r kept removed body h keeps i k m =
    (added_by names p.0 (rules_kept p.1 names p.0 keeps (program_held before bytes p h).0) r kept removed body i).body_fits k m
