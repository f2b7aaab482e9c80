-- From the bytes of two texts to the bytes shown.
use Rattle.std.specs.Prelude.{◌≡◌, ℕ, ◌↔◌, List, [], Result, Ok, Err}
use Rattle.chr_value.specs.Atoms.{Atom}
use Rattle.chr_rule.specs.Rules.{Simpagation}
use Rattle.chr_plan.specs.Plans.{PlanList, ArePlans}
use Rattle.chr_model.specs.Programs.{Instances}
use Rattle.chr_model.specs.Stores.{Final}
use Rattle.chr_text.specs.Reading.{program_of, posts_of, RulesOf}
use Rattle.chr_calls.specs.Tickets.{AreQuiet}
use Rattle.chr_calls.specs.Books.{BookState, opened}
use Rattle.chr_calls.specs.Calls.{all_posted}
use Rattle.chr_calls.specs.Headline.{Headline}
use Rattle.chr_book.specs.Books.{IsOpened}
use Rattle.chr_solo.specs.Solo.{IsSolo}
use Rattle.chr_solo.specs.declared.solo.End.TheVariants as ends
use Rattle.chr_run_text.specs.Texts.{PostsOf}
use Rattle.chr_run_text.specs.Output.{shown}
use Rattle.chr_run_text.specs.declared.output.Show.{Show}
use Rattle.chr_run_text.specs.declared.running.RunOut.{RunOut}
use Rattle.chr_run_text.specs.declared.running.RunFault.{RunFault}
use Rattle.chr_run_text.specs.declared.running.RunFault.TheVariants as faults

-- the seat that makes all calls of a run
abbrev pub seat : ℕ
seat = 0

-- the book of rules and posted atoms, by a table of names: no label above the limit is given
abbrev pub posted_book : List (Simpagation ℕ) → PlanList → List (Atom ℕ) → List (List ℕ) → ℕ →
    BookState
posted_book rules plans atoms names limit = all_posted (opened rules plans names limit) seat atoms

-- A run of at most so many calls: the book after the posts and a solo run. It has the headline, and
-- where it is called quiet, which is exactly where no ticket is open, no rule applies to its store.
pub record IsRunOf (rules : List (Simpagation ℕ)) (atoms : List (Atom ℕ)) (names : List (List ℕ))
    (steps limit : ℕ) (b : BookState) : Type 0 where
  pub plans : PlanList
  pub are_plans : ArePlans rules plans
  pub calls : ℕ
  pub solo : IsSolo seat steps (posted_book rules plans atoms names limit) calls b
  pub headline : Headline b atoms

-- both texts are read, and this is shown of their run
pub record IsMade {Z : Type 0} (program posts : List ℕ) (steps limit : ℕ) (show : Show)
    (made : RunOut Z) : Type 0 where
  pub read : RulesOf program
  pub posted : PostsOf read.table posts
  pub book : BookState
  pub run : IsRunOf read.rules posted.atoms posted.names steps limit book
  pub quiet : (made.end ≡ ends.Quiet) ↔ AreQuiet book.tickets
  pub final : made.end ≡ ends.Quiet → Final (Instances read.rules) book.store
  pub bytes : made.bytes.items ≡ shown show made.end book

-- the first text that has a fault has this one
abbrev pub IsRefused : List ℕ → List ℕ → RunFault → Type 0
IsRefused program posts (faults.Program fault) = program_of [] program ≡ Err fault
IsRefused program posts (faults.Posts fault) =
    (read : RulesOf program) × (posts_of read.table posts ≡ Err fault)
IsRefused program posts faults.Memory = Unit {0}

-- The run of two texts. Both are read with one table of names, the rules first.
abbrev pub IsRunText : {Z : Type 0} → List ℕ → List ℕ → ℕ → ℕ → Show → Result (RunOut Z) RunFault →
    Type 0
IsRunText program posts steps limit show (Ok made) = IsMade program posts steps limit show made
IsRunText program posts steps limit show (Err fault) = IsRefused program posts fault
