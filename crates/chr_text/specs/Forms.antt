-- What a text of rules is, and a text of posts, by the grammar and the limits.
use Rattle.std.specs.Prelude.{◌≡◌, ℕ, ◌<◌, ◌≤◌, true, false, List, [], ◌∷◌, ◌++◌, map, length, Some}
use Rattle.chr_lex.specs.Plain.{has_bad}
use Rattle.chr_lex.specs.Items.{Item}
use Rattle.chr_lex.specs.Cutting.{HasItems}
use Rattle.chr_lex.specs.Tokens.{Lexeme}
use Rattle.chr_lex.specs.Lexing.{Tokens}
use Rattle.chr_value.specs.Atoms.{Atom}
use Rattle.chr_value.specs.Bounds.{most_rules, most_text_bytes}
use Rattle.chr_value.specs.Naming.{Table, numbered_atom}
use Rattle.chr_rule.specs.Rules.{Simpagation}
use Rattle.chr_grammar.specs.Parsed.{ParsedAtom, ParsedRule, Statement, Import, Declaration, Rule}
use Rattle.chr_grammar.specs.Spelling.{AreParsedAtoms, AreStatement}
use Rattle.chr_limits.specs.Standing.{IsAllowedRule, AreAllowedDeclarations, AreAllowedPosts}
use Rattle.chr_text.specs.Translation.{atom_by_texts, rule}
use Rattle.chr_text.specs.Numbering.{each, number_rule}
use Rattle.chr_text.specs.Reading.{Program, Posts}

-- ---- items

-- an item with its end point and without a bad byte, whose tokens are these
pub record IsItem (e : Item) (ts : List Lexeme) : Type 0 where
  pub ended : e.ended ≡ true
  pub no_bad_byte : has_bad e.bytes ≡ false
  pub tokens : Tokens false e.bytes ts

-- Items one after another, where each adds to what the ones before it gave.
pub data InOrder {A : Type 0} (AddsItem : A → Item → A → Type 0) : A → List Item → A → Type 0 where
  no_more : (x : A) → InOrder AddsItem x [] x
  item : (before next after : A) (e : Item) (es : List Item) → AddsItem before e next →
      InOrder AddsItem next es after → InOrder AddsItem before (e ∷ es) after

-- a text that is not too long, whose items give this together
pub record IsText {A : Type 0} (AddsItem : A → Item → A → Type 0) (before : A) (bytes : List ℕ)
    (after : A) : Type 0 where
  pub short : length bytes ≤ most_text_bytes
  pub entries : List Item
  pub has : HasItems bytes entries
  pub in_order : InOrder AddsItem before entries after

-- ---- programs

-- A rule that may stand is put after the ones before it, where these are fewer than 256.
pub record AddsRule (before : Program) (r : ParsedRule) (after : Program) : Type 0 where
  pub room : length before.0 < most_rules
  pub stands : IsAllowedRule r
  pub new : Simpagation ℕ
  pub table : Table
  pub numbered : number_rule before.1 (rule r) ≡ Some (new, table)
  pub added : after ≡ (before.0 ++ new ∷ [], table)

-- Only a rule adds to a program.
abbrev pub Adds : Program → Statement → Program → Type 0
Adds before Import after = after ≡ before
Adds before (Declaration ds) after = AreAllowedDeclarations ds × (after ≡ before)
Adds before (Rule r) after = AddsRule before r after

-- an item that says a statement
pub record AddsStatement (before : Program) (e : Item) (after : Program) : Type 0 where
  pub tokens : List Lexeme
  pub statement : Statement
  pub item : IsItem e tokens
  pub says : AreStatement tokens statement
  pub adds : Adds before statement after

-- The text is this program over a table of names.
abbrev pub IsProgramText : Table → List ℕ → Program → Type 0
IsProgramText table bytes p = IsText AddsStatement ([], table) bytes p

-- ---- posts

-- an item of atoms that may be posted, put after the ones before it
pub record AddsAtoms (before : Posts) (e : Item) (after : Posts) : Type 0 where
  pub tokens : List Lexeme
  pub atoms : List ParsedAtom
  pub item : IsItem e tokens
  pub are : AreParsedAtoms tokens atoms
  pub may : AreAllowedPosts atoms
  pub new : List (Atom ℕ)
  pub table : Table
  pub numbered : each numbered_atom before.1 (map atom_by_texts atoms) ≡ Some (new, table)
  pub added : after ≡ (before.0 ++ new, table)

-- The text is these posts over a table of names.
abbrev pub ArePosts : Table → List ℕ → Posts → Type 0
ArePosts table bytes p = IsText AddsAtoms ([], table) bytes p
