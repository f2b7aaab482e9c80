-- Versions of a book, and what is known of the next trials of a search over one.
use Rattle.std.specs.Prelude.{⊤, ◌≡◌, ℕ, ◌≤◌, List, length, Option, Some, None, Result, Ok}
use Rattle.chr_search.specs.Reach.{SearchState}
use Rattle.chr_search.specs.Verdicts.{Trial}
use Rattle.chr_sheet.specs.Sheets.{AreNextInOrder}
use Rattle.chr_calls.specs.declared.answers.TurnFault.{TurnFault}
use Rattle.chr_calls.specs.Batches.{Batch, Trials, Following, Sheet}
use Rattle.chr_calls.specs.Books.{BookState, space_of}
use Rattle.chr_book.specs.Books.{IsHeldSearch}

-- searches look through the same rules, plans and store in both
pub record AreAlike (b n : BookState) : Type 0 where
  pub rules : n.rules ≡ b.rules
  pub plans : n.plans ≡ b.plans
  pub store : n.store ≡ b.store

-- The last version, if there is one, is of the book when its log had so many entries. Where it has
-- as many still, the book is alike. Where there is no book, there is no version.
abbrev pub IsVersion : Option BookState → ℕ → Option BookState → Type 0
IsVersion None entries version = version ≡ None
IsVersion (Some b) entries None = ⊤
IsVersion (Some b) entries (Some v) =
    (entries ≤ length b.log) × (entries ≡ length b.log → AreAlike v b)

-- the version is of a book like this one
pub record IsVersionOf (book version : Option BookState) : Type 0 where
  pub now : BookState
  pub book_is : book ≡ Some now
  pub then : BookState
  pub version_is : version ≡ Some then
  pub alike : AreAlike then now

-- it is, and this is the search of a ticket that a seat holds in the book
pub record IsSearchOf (book : Option BookState) (seat t : ℕ) (version : Option BookState)
    (search : SearchState) : Type 0 where
  pub of : IsVersionOf book version
  pub held : IsHeldSearch of.now.tickets seat t search

-- the trials come next one after another in a search over the version
pub record AreKnownNext (version : Option BookState) (search : SearchState)
    (ts : List Trial) : Type 0 where
  pub book : BookState
  pub is : version ≡ Some book
  pub next : AreNextInOrder (space_of book search.label) search.place ts

-- so do those that are given, if any are
abbrev pub IsKnownOf : Option BookState → SearchState → Result Batch TurnFault → Type 0
IsKnownOf version search (Ok (Trials ts)) = AreKnownNext version search ts
IsKnownOf version search given = ⊤

-- and those that follow a report
abbrev pub IsKnownAfter : Option BookState → SearchState → Following → Type 0
IsKnownAfter version search (Sheet given) = IsKnownOf version search given
IsKnownAfter version search following = ⊤
