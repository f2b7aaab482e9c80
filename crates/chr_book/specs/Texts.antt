-- Books of the rules of a text, and texts that are posted.
use Rattle.std.specs.Prelude.{◌≡◌, ℕ, List, [], length, Result, Ok, Err}
use Rattle.chr_value.specs.Atoms.{Atom}
use Rattle.chr_value.specs.Naming.{Table}
use Rattle.chr_lex.specs.declared.fault.ReadError.{ReadError}
use Rattle.chr_lex.specs.declared.fault.ReadError.TheVariants as errors
use Rattle.chr_text.specs.Reading.{program_of, RulesOf, posts_of}
use Rattle.chr_calls.specs.Books.{BookState, with_names}
use Rattle.chr_calls.specs.Calls.{all_posted}
use Rattle.chr_book.specs.Books.{IsOpened}
use Rattle.chr_book.specs.declared.texts.Posted.{Posted}

-- a book of the rules of a text, as it is opened
pub record IsOpenText (text : List ℕ) (limit : ℕ) (b : BookState) : Type 0 where
  pub read : RulesOf text
  pub is : IsOpened read.rules read.table limit b

-- why there is none: the fault of the text, or memory ran out
abbrev pub RefusesText : List ℕ → ReadError → Type 0
RefusesText text (errors.Fault fault) = program_of [] text ≡ Err fault
RefusesText text errors.Memory = Unit {0}

-- the text's atoms have taken the next tickets, and its names are in the table
pub record PostsAtoms (b : BookState) (seat : ℕ) (bytes : List ℕ) (posted : Posted) (n : BookState)
    : Type 0 where
  pub atoms : List (Atom ℕ)
  pub table : Table
  pub reads : posts_of b.names bytes ≡ Ok (atoms, table)
  pub first : posted.first ≡ length b.tickets
  pub count : posted.count ≡ length atoms
  pub after : n ≡ all_posted (with_names b table) seat atoms

-- a text is posted, or it has a fault, or memory ran out: then nothing has changed
abbrev pub PostsText : BookState → ℕ → List ℕ → Result Posted ReadError → BookState → Type 0
PostsText b seat bytes (Ok posted) n = PostsAtoms b seat bytes posted n
PostsText b seat bytes (Err (errors.Fault fault)) n = (posts_of b.names bytes ≡ Err fault) × (n ≡ b)
PostsText b seat bytes (Err errors.Memory) n = n ≡ b
