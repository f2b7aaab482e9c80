-- The first fault of a text.
use Rattle.std.specs.Prelude.{◌≡◌, ℕ, ◌<◌, ◌≤◌, ◌⊎◌, true, false, List, [], ◌∷◌, map, length, None}
use Rattle.std.specs.List.{list_any}
use Rattle.chr_value.specs.Bounds.{most_rules, most_text_bytes}
use Rattle.chr_lex.specs.declared.fault.Kind.{Kind}
use Rattle.chr_lex.specs.declared.fault.Kind.TheVariants.{TooLong, BadByte, Syntax, Propagation, NumberRange, TooMany, Binding, NamesFull}
use Rattle.chr_lex.specs.declared.fault.ReadFault.{ReadFault}
use Rattle.chr_lex.specs.Plain.{has_bad}
use Rattle.chr_lex.specs.Items.{Item}
use Rattle.chr_lex.specs.Cutting.{HasItems}
use Rattle.chr_lex.specs.Tokens.{Lexeme, Name, Number}
use Rattle.chr_value.specs.Naming.{Table, numbered_atom}
use Rattle.chr_grammar.specs.Parsed.{ParsedAtom, ParsedRule, Statement, Declaration, Rule}
use Rattle.chr_grammar.specs.Spelling.{AreParsedAtoms, AreStatement}
use Rattle.chr_limits.specs.Words.{is_out_of_range, is_long, is_variable, phrase_has, rule_has}
use Rattle.chr_limits.specs.Limits.{has_many_args, has_large_args, is_too_large}
use Rattle.chr_limits.specs.Scope.{is_in_scope}
use Rattle.chr_text.specs.Translation.{atom_by_texts, rule}
use Rattle.chr_text.specs.Numbering.{each, number_rule}
use Rattle.chr_text.specs.Reading.{Program, Posts}
use Rattle.chr_text.specs.Forms.{IsItem, AddsStatement, AddsAtoms}

-- the order of the faults of an item
abbrev pub rank : Kind → ℕ
rank TooLong = 0
rank BadByte = 1
rank Syntax = 2
rank Propagation = 3
rank NumberRange = 4
rank TooMany = 5
rank Binding = 6
rank NamesFull = 7

-- the first in this order of the faults that something has
pub record IsFirst (Has : Kind → Type 0) (k : Kind) : Type 0 where
  pub has : Has k
  pub first : (j : Kind) → rank j < rank k → Has j → ⊥

-- ---- what may be wrong with what an item says, over what the items before it gave

abbrev pub RuleHas : Program → ParsedRule → Kind → Type 0
RuleHas before r Propagation = r.removed ≡ []
RuleHas before r NumberRange = rule_has is_out_of_range r ≡ true
RuleHas before r TooMany = (most_rules ≤ length before.0) ⊎ (is_too_large r ≡ true)
RuleHas before r Binding = is_in_scope r ≡ false
RuleHas before r NamesFull = number_rule before.1 (rule r) ≡ None
RuleHas before r _ = ⊥

abbrev pub StatementHas : Program → Statement → Kind → Type 0
StatementHas before (Declaration ds) NumberRange =
    list_any (λ d. is_out_of_range (Number false d.digits)) ds ≡ true
StatementHas before (Declaration ds) TooMany = list_any (λ d. is_long (Name d.name)) ds ≡ true
StatementHas before (Rule r) k = RuleHas before r k
StatementHas before _ _ = ⊥

abbrev pub PostHas : Posts → List ParsedAtom → Kind → Type 0
PostHas before atoms NumberRange = list_any (phrase_has is_out_of_range) atoms ≡ true
PostHas before atoms TooMany =
    (list_any (phrase_has is_long) atoms ≡ true) ⊎ (list_any has_many_args atoms ≡ true)
    ⊎ (list_any has_large_args atoms ≡ true)
PostHas before atoms Binding = list_any (phrase_has is_variable) atoms ≡ true
PostHas before atoms NamesFull = each numbered_atom before.1 (map atom_by_texts atoms) ≡ None
PostHas before atoms _ = ⊥

-- ---- items

-- an item that says this, which has a fault of this kind
pub record SaysFaulty {S : Type 0} (Says : List Lexeme → S → Type 0) (Has : S → Kind → Type 0)
    (e : Item) (k : Kind) : Type 0 where
  pub tokens : List Lexeme
  pub said : S
  pub item : IsItem e tokens
  pub says : Says tokens said
  pub has : Has said k

-- The fault of an item: a bad byte; a fault of syntax, where nothing is written so; else one of
-- what it says.
abbrev pub ItemHas : {S : Type 0} → (List Lexeme → S → Type 0) → (S → Kind → Type 0) → Item → Kind →
    Type 0
ItemHas Says Has e TooLong = ⊥
ItemHas Says Has e BadByte = has_bad e.bytes ≡ true
ItemHas {S} Says Has e Syntax = (ts : List Lexeme) (s : S) → IsItem e ts → Says ts s → ⊥
ItemHas Says Has e k = SaysFaulty Says Has e k

-- Items one after another, where one has a fault after others without, each of which adds to what
-- the ones before it gave.
pub data FirstFault {A : Type 0} (AddsItem : A → Item → A → Type 0) (Has : A → Item → Kind → Type 0)
    : A → List Item → ReadFault → Type 0 where
  here : (before : A) (e : Item) (es : List Item) (k : Kind) → IsFirst (Has before e) k →
      FirstFault AddsItem Has before (e ∷ es) (record { kind = k; line = e.line })
  later : (before next : A) (e : Item) (es : List Item) (f : ReadFault) → AddsItem before e next →
      FirstFault AddsItem Has next es f → FirstFault AddsItem Has before (e ∷ es) f

-- ---- texts

-- A text that is too long has a fault in no line; else the fault is that of the first faulty item,
-- at its line.
pub data IsFault {A : Type 0} (AddsItem : A → Item → A → Type 0) (Has : A → Item → Kind → Type 0)
    (before : A) (bytes : List ℕ) : ReadFault → Type 0 where
  too_long : most_text_bytes < length bytes →
      IsFault AddsItem Has before bytes (record { kind = TooLong; line = 0 })
  in_item : (es : List Item) (f : ReadFault) → length bytes ≤ most_text_bytes → HasItems bytes es →
      FirstFault AddsItem Has before es f → IsFault AddsItem Has before bytes f

-- The text is no program over a table of names, and this is its first fault.
abbrev pub IsProgramFault : Table → List ℕ → ReadFault → Type 0
IsProgramFault table bytes f =
    IsFault AddsStatement (λ before. ItemHas AreStatement (StatementHas before)) ([], table) bytes f

-- The text is no list of posts over a table of names, and this is its first fault.
abbrev pub IsPostsFault : Table → List ℕ → ReadFault → Type 0
IsPostsFault table bytes f =
    IsFault AddsAtoms (λ before. ItemHas AreParsedAtoms (PostHas before)) ([], table) bytes f
