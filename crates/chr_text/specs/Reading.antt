-- What a text of rules and a text of posts say, or the first fault.
use Rattle.std.specs.Prelude.{◌≡◌, ℕ, List, [], ◌∷◌, ◌++◌, map, length, nat_lt, nat_le, if◌then◌else◌, Result, Ok, Err}
use Rattle.chr_lex.specs.declared.fault.Kind.{Kind}
use Rattle.chr_lex.specs.declared.fault.Kind.TheVariants.{TooLong, BadByte, Syntax}
use Rattle.chr_lex.specs.declared.fault.ReadFault.{ReadFault}
use Rattle.chr_lex.specs.Plain.{has_bad}
use Rattle.chr_lex.specs.Items.{Item, items_of}
use Rattle.chr_lex.specs.Tokens.{Lexeme, tokens_of}
use Rattle.chr_lex.specs.Reading.{◌>>=◌, at_line}
use Rattle.chr_value.specs.Atoms.{Atom}
use Rattle.chr_value.specs.Bounds.{most_rules, most_text_bytes}
use Rattle.chr_value.specs.Naming.{Table, numbered_atom}
use Rattle.chr_rule.specs.Rules.{Simpagation}
use Rattle.chr_grammar.specs.Parsed as parsed
use Rattle.chr_grammar.specs.Parsing.{statement_of, phrases_of}
use Rattle.chr_limits.specs.Judging.{declaration_judged, rule_judged, post_judged}
use Rattle.chr_text.specs.Translation.{atom_by_texts, rule}
use Rattle.chr_text.specs.Numbering.{or_full, each, more, number_rule}

-- the tokens of an item that has its end point and no bad byte
abbrev pub item_lexemes : Item → Result (List Lexeme) Kind
item_lexemes e =
    if has_bad e.bytes then Err BadByte else (if e.ended then tokens_of e.bytes else Err Syntax)

-- the items one after another, each over what the ones before it gave; a fault has the line of its
-- item
abbrev pub over_items : {A : Type 0} → (A → Item → Result A Kind) → A → List Item →
    Result A ReadFault
over_items f so_far [] = Ok so_far
over_items f so_far (e ∷ es) = at_line e.line (f so_far e) >>= λ next. over_items f next es

-- nothing, where the text is too long; else what f gives
abbrev pub of_text : {A : Type 0} → (A → Item → Result A Kind) → A → List ℕ → Result A ReadFault
of_text f before bytes =
    if nat_lt most_text_bytes (length bytes) then Err (record { kind = TooLong; line = 0 })
    else over_items f before (items_of bytes)

-- ---- programs

-- rules, and the table that has their names
abbrev pub Program : Type 0
Program = List (Simpagation ℕ) × Table

abbrev pub with_rule : Program → parsed.ParsedRule → Result Program Kind
with_rule so_far r =
    rule_judged (nat_le most_rules (length so_far.0)) r
    >>= λ judged. or_full (number_rule so_far.1 (rule r)) >>= λ x. Ok (so_far.0 ++ x.0 ∷ [], x.1)

-- Only a rule adds to a program.
abbrev pub with_statement : Program → parsed.Statement → Result Program Kind
with_statement so_far parsed.Import = Ok so_far
with_statement so_far (parsed.Declaration ds) = declaration_judged ds >>= λ judged. Ok so_far
with_statement so_far (parsed.Rule r) = with_rule so_far r

abbrev pub with_item : Program → Item → Result Program Kind
with_item so_far e = item_lexemes e >>= statement_of >>= with_statement so_far

-- The rules of a text, over a table of names.
abbrev pub program_of : Table → List ℕ → Result Program ReadFault
program_of table bytes = of_text with_item ([], table) bytes

-- what a text of rules gives: the rules, and the table of their names
pub record RulesOf (text : List ℕ) : Type 0 where
  pub rules : List (Simpagation ℕ)
  pub table : List (List ℕ)
  pub reads : program_of [] text ≡ Ok (rules, table)

-- ---- posts

-- atoms, and the table that has their names
abbrev pub Posts : Type 0
Posts = List (Atom ℕ) × Table

abbrev pub with_phrases : Posts → List parsed.ParsedAtom → Result Posts Kind
with_phrases so_far ps =
    post_judged ps
    >>= λ judged. or_full (more so_far.0 (each numbered_atom so_far.1 (map atom_by_texts ps)))

abbrev pub with_post : Posts → Item → Result Posts Kind
with_post so_far e = item_lexemes e >>= phrases_of >>= with_phrases so_far

-- The atoms of a text of posts, over a table of names.
abbrev pub posts_of : Table → List ℕ → Result Posts ReadFault
posts_of table bytes = of_text with_post ([], table) bytes
