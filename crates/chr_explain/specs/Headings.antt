-- What the text of a program says of its rules besides their meaning.
use Rattle.std.specs.Prelude.{ℕ, nat_lt, List, [], ◌∷◌, length, flat_map, Option, Some, None, Result, Ok, Err, if◌then◌else◌}
use Rattle.chr_value.specs.Bounds.{most_variables}
use Rattle.chr_lex.specs.declared.fault.Kind.{Kind}
use Rattle.chr_lex.specs.Items.{Item, items_of}
use Rattle.chr_lex.specs.Tokens.{Lexeme, OfWord, OfMark, tokens_of}
use Rattle.chr_grammar.specs.Parsed as parsed
use Rattle.chr_grammar.specs.Parsing.{statement_of}
use Rattle.chr_limits.specs.Variables.{word_variables, seen}
use Rattle.chr_limits.specs.Views.{names}
use Rattle.chr_explain.specs.declared.headings.Heading.{Heading as CodeHeading}

-- the line of a rule's first byte, and the rule's variables in text order, each once, and each `_`
-- apart
pub record Heading : Type 0 where
  pub line : ℕ
  pub variables : List (List ℕ)

abbrev pub heading_view : CodeHeading → Heading
heading_view h = record { line = h.line; variables = names h.variables.items }

abbrev pub lexeme_variables : Lexeme → List (List ℕ)
lexeme_variables (OfWord w) = word_variables w
lexeme_variables (OfMark m) = []

abbrev pub variables_of : List Lexeme → List (List ℕ)
variables_of lexemes = seen (flat_map lexeme_variables lexemes)

-- No rule may have more than 24 variables.
abbrev pub with_variables : ℕ → List (List ℕ) → List Heading
with_variables line variables =
    if nat_lt most_variables (length variables) then []
    else record { line = line; variables = variables } ∷ []

-- the heading of a statement that is a rule
abbrev pub statement_heading : ℕ → List Lexeme → Result parsed.Statement Kind → List Heading
statement_heading line lexemes (Ok (parsed.Rule r)) = with_variables line (variables_of lexemes)
statement_heading line lexemes (Ok parsed.Import) = []
statement_heading line lexemes (Ok (parsed.Declaration ds)) = []
statement_heading line lexemes (Err k) = []

abbrev pub lexemes_heading : ℕ → Result (List Lexeme) Kind → List Heading
lexemes_heading line (Ok lexemes) = statement_heading line lexemes (statement_of lexemes)
lexemes_heading line (Err k) = []

abbrev pub item_heading : Item → List Heading
item_heading e = lexemes_heading e.line (tokens_of e.bytes)

-- the headings of the rules of a text, in text order
abbrev pub headings_of : List ℕ → List Heading
headings_of bytes = flat_map item_heading (items_of bytes)

abbrev pub made_heading : Option CodeHeading → List Heading
made_heading (Some h) = heading_view h ∷ []
made_heading None = []
