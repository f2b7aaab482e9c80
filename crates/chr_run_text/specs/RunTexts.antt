-- From the bytes of a text of rules and of texts of posts to a run.
use Rattle.std.specs.Prelude.{◌≡◌, ℕ, ◌↔◌, List, [], Result, Ok, Err}
use Rattle.chr_value.specs.Atoms.{Atom}
use Rattle.chr_lex.specs.declared.fault.ReadError.{ReadError}
use Rattle.chr_lex.specs.declared.fault.ReadError.TheVariants as errors
use Rattle.chr_model.specs.Programs.{Instances}
use Rattle.chr_model.specs.Stores.{Final}
use Rattle.chr_model.specs.Logs.{posted_by}
use Rattle.chr_text.specs.Reading.{program_of, RulesOf}
use Rattle.chr_calls.specs.Tickets.{AreQuiet}
use Rattle.chr_calls.specs.Books.{BookState, events, with_names}
use Rattle.chr_calls.specs.Calls.{all_posted}
use Rattle.chr_calls.specs.Headline.{Headline}
use Rattle.chr_solo.specs.Solo.{IsSolo}
use Rattle.chr_solo.specs.declared.solo.End.{End}
use Rattle.chr_solo.specs.declared.solo.End.TheVariants as ends
use Rattle.chr_run_text.specs.Texts.{with_posts, AllPostsOf, HasPostsFault}
use Rattle.chr_run_text.specs.Output.{shown}
use Rattle.chr_run_text.specs.RunText.{seat, IsRunOf}
use Rattle.chr_run_text.specs.declared.output.Show.{Show}
use Rattle.chr_run_text.specs.declared.ran.Ran.{Ran}
use Rattle.chr_run_text.specs.declared.running.RunOut.{RunOut}
use Rattle.chr_run_text.specs.declared.running.RunFault.{RunFault}
use Rattle.chr_run_text.specs.declared.running.RunFault.TheVariants as whole
use Rattle.chr_run_text.specs.declared.running.RunTextsFault.{RunTextsFault}
use Rattle.chr_run_text.specs.declared.running.RunTextsFault.TheVariants as faults

-- All texts are read with one table of names, the rules first, and then the posts in order; this is
-- the book after a run of the atoms of all, and its end.
pub record IsRunOfTexts (program : List ℕ) (posts : List (List ℕ)) (steps limit : ℕ) (end : End)
    (b : BookState) : Type 0 where
  pub read : RulesOf program
  pub posted : AllPostsOf read.table posts
  pub run : IsRunOf read.rules posted.atoms posted.names steps limit b
  pub quiet : (end ≡ ends.Quiet) ↔ AreQuiet b.tickets
  pub final : end ≡ ends.Quiet → Final (Instances read.rules) b.store

-- the first text that has a fault has this one
abbrev pub AreRefused : List ℕ → List (List ℕ) → RunTextsFault → Type 0
AreRefused program posts (faults.Program fault) = program_of [] program ≡ Err fault
AreRefused program posts (faults.Posts place fault) =
    (read : RulesOf program) × HasPostsFault read.table posts place fault
AreRefused program posts faults.Memory = Unit {0}

-- The run of a text of rules and texts of posts.
abbrev pub IsRunTexts : {Z : Type 0} → List ℕ → List (List ℕ) → ℕ → ℕ →
    Result (Ran Z) RunTextsFault → Type 0
IsRunTexts program posts steps limit (Ok ran) =
    IsRunOfTexts program posts steps limit ran.end ran.book
IsRunTexts program posts steps limit (Err fault) = AreRefused program posts fault

-- why a text of this place was not posted, and the same fault where there is one text
abbrev pub posts_fault : ℕ → ReadError → RunTextsFault
posts_fault place (errors.Fault fault) = faults.Posts place fault
posts_fault place errors.Memory = faults.Memory

abbrev pub whole_fault : RunTextsFault → RunFault
whole_fault (faults.Program fault) = whole.Program fault
whole_fault (faults.Posts place fault) = whole.Posts fault
whole_fault faults.Memory = whole.Memory

-- the atoms of all texts have taken the next tickets, in order, and their names are in the table
pub record PostsTexts (b : BookState) (texts : List (List ℕ)) (n : BookState) : Type 0 where
  pub atoms : List (Atom ℕ)
  pub table : List (List ℕ)
  pub reads : with_posts ([], b.names) texts ≡ Ok (atoms, table)
  pub after : n ≡ all_posted (with_names b table) seat atoms

abbrev pub TextsFault : BookState → List (List ℕ) → RunTextsFault → Type 0
TextsFault b texts (faults.Program fault) = ⊥
TextsFault b texts (faults.Posts place fault) = HasPostsFault b.names texts place fault
TextsFault b texts faults.Memory = Unit {0}

abbrev pub ArePosted : BookState → List (List ℕ) → Result (Unit {0}) RunTextsFault → BookState →
    Type 0
ArePosted b texts (Ok u) n = PostsTexts b texts n
ArePosted b texts (Err fault) n = TextsFault b texts fault

-- a solo run of at most so many calls from one book to another, which has the headline
pub record IsMadeRun (steps : ℕ) (end : End) (b n : BookState) : Type 0 where
  pub calls : ℕ
  pub solo : IsSolo seat steps b calls n
  pub headline : Headline n (posted_by (events n))
  pub quiet : (end ≡ ends.Quiet) ↔ AreQuiet n.tickets

-- a run that ends so, or the fault
abbrev pub IsRunOn : List ℕ → List (List ℕ) → ℕ → ℕ → Result End RunTextsFault → BookState → Type 0
IsRunOn program posts steps limit (Ok end) n = IsRunOfTexts program posts steps limit end n
IsRunOn program posts steps limit (Err fault) n = AreRefused program posts fault

-- this is shown of a book, unless memory runs out
abbrev pub IsShown : {Z : Type 0} → Show → End → BookState → Result (RunOut Z) RunFault → Type 0
IsShown show end b (Ok made) = (made.end ≡ end) × (made.bytes.items ≡ shown show end b)
IsShown show end b (Err fault) = fault ≡ whole.Memory
