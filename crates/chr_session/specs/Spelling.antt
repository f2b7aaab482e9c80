-- What bytes spell, command by command, and how the input ends.
use Rattle.std.specs.Prelude.{◌≡◌, ℕ, Bool, true, false, List, [], ◌∷◌, length, take, drop, nat_lt, if◌then◌else◌}
use Rattle.chr_lex.specs.declared.fault.Kind.TheVariants.{TooLong}
use Rattle.chr_session.specs.declared.desk.Fault.{Fault}
use Rattle.chr_session.specs.declared.desk.Fault.TheVariants as faults
use Rattle.chr_session.specs.declared.commands.Ended.{Ended}
use Rattle.chr_session.specs.declared.commands.Ended.TheVariants as ended
use Rattle.chr_session.specs.declared.commands.Received.{Received as CodeReceived}
use Rattle.chr_session.specs.declared.commands.Received.TheVariants as variants
use Rattle.chr_session.specs.declared.parsing.ParsedLine.{ParsedLine}
use Rattle.chr_session.specs.declared.parsing.ParsedLine.TheVariants as lines
use Rattle.chr_session.specs.Lines.{has_line, line_of, after_line}
use Rattle.chr_session.specs.Parsing.{without_cr, trimmed, word_of, rest_of, parsed_of}
use Rattle.chr_session.specs.Commands.{Spelled, Blank, Right, Faulty, Load, Post, Wait, Store, Log}

-- what an input spells first, after which it goes on, or how it ends
pub data Received : Type 0 where
  Spelling : (spelled : Spelled) → Received
  Ending : (how : Ended) → Received

-- a text that is longer than its limit has no line
abbrev pub too_long : Fault
too_long = faults.Reading (record { kind = TooLong; line = 0 })

-- a load of so many bytes, and what follows them; where they are too many they are passed over
abbrev pub load_spells : ℕ → List ℕ → Received × List ℕ
load_spells count rest =
    if nat_lt (length rest) count then (Ending ended.Cut, []) else (
      Spelling (if nat_lt 65536 count then Faulty too_long else Right (Load (take count rest))),
      drop count rest,
    )

-- a line as it is parsed, with the text after its word, and what follows the line
abbrev pub parsed_spells : ParsedLine → List ℕ → List ℕ → Received × List ℕ
parsed_spells lines.Blank text rest = (Spelling Blank, rest)
parsed_spells (lines.Load count) text rest = load_spells count rest
parsed_spells lines.Post text rest = (Spelling (Right (Post text)), rest)
parsed_spells (lines.Wait steps) text rest = (Spelling (Right (Wait steps)), rest)
parsed_spells lines.Store text rest = (Spelling (Right Store), rest)
parsed_spells (lines.Log from) text rest = (Spelling (Right (Log from)), rest)
parsed_spells lines.Quit text rest = (Ending ended.Quit, [])
parsed_spells lines.Unknown text rest = (Spelling (Faulty faults.UnknownCommand), rest)

-- a line, and what follows it
unfoldable pub line_spells : List ℕ → List ℕ → Received × List ℕ
line_spells line rest =
    if nat_lt 4096 (length (without_cr line)) then (Spelling (Faulty faults.LineTooLong), rest) else
    parsed_spells (parsed_of (word_of (trimmed line)) (rest_of (trimmed line)))
    (rest_of (trimmed line)) rest

-- how input without a whole line ends: inside a line where there are bytes left
abbrev pub end_of : List ℕ → Ended
end_of [] = ended.End
end_of (b ∷ input) = ended.Cut

-- what the input spells first, and the input that follows
unfoldable pub next : List ℕ → Received × List ℕ
next input =
    if has_line input then line_spells (line_of input) (after_line input) else
    (Ending (end_of input), [])

-- the input spells these first, one after another, and then comes the rest
abbrev pub Reads : List ℕ → List Spelled → List ℕ → Type 0
Reads input [] rest = rest ≡ input
Reads input (spelled ∷ more) rest =
    (tail : List ℕ) × (next input ≡ (Spelling spelled, tail)) × Reads tail more rest

-- the input spells these and no others, and then ends so
pub record Spells (input : List ℕ) (spelled : List Spelled) (how : Ended) : Type 0 where
  pub rest : List ℕ
  pub after : List ℕ
  pub reads : Reads input spelled rest
  pub ends : next rest ≡ (Ending how, after)

-- what was received, with the text of a load or a post
abbrev pub received_of : CodeReceived → List ℕ → Received
received_of variants.Blank text = Spelling Blank
received_of variants.Load text = Spelling (Right (Load text))
received_of variants.Post text = Spelling (Right (Post text))
received_of (variants.Wait steps) text = Spelling (Right (Wait steps))
received_of variants.Store text = Spelling (Right Store)
received_of (variants.Log from) text = Spelling (Right (Log from))
received_of (variants.Fault fault) text = Spelling (Faulty fault)
received_of (variants.Ended how) text = Ending how

abbrev pub goes_on : Received → Bool
goes_on (Spelling spelled) = true
goes_on (Ending how) = false

-- this is what the input spells first, and what follows is still to come
pub record SpellsFirst (spells : List ℕ → Received × List ℕ) (received : Received)
    (after : List ℕ → Type 0) (input : List ℕ) : Type 0 where
  pub rest : List ℕ
  pub is : spells input ≡ (received, rest)
  pub told : goes_on received ≡ true → after rest
