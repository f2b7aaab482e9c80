-- The run of one seat: it calls for the least open ticket that no other seat holds, to that
-- ticket's end.
use Rattle.std.specs.Prelude.{◌≡◌, ℕ, zero, suc, ◌+◌, ◌<◌, ◌≤◌, ◌⊎◌}
use Rattle.chr_search.specs.Judged.{Judgement, IsVerdict}
use Rattle.std.specs.Prelude.{Ok, Err}
use Rattle.chr_calls.specs.declared.answers.ClaimFault.TheVariants.{LabelsSpent}
use Rattle.chr_calls.specs.declared.answers.Firing.{Firing}
use Rattle.chr_calls.specs.declared.answers.Dropping.{Dropping}
use Rattle.chr_calls.specs.Turns.{Turn, Next, Done, Gone}
use Rattle.chr_calls.specs.Tickets.{IsLeastFor, NoneFor}
use Rattle.chr_calls.specs.Books.{BookState}
use Rattle.chr_calls.specs.Calls.{Claims, Turns, Reports, FiresOrMisses, Drops}

-- What the run knows of the search of its ticket: nothing, the judgement of its last trial, or that
-- no trial is left.
pub data Known : Type 0 where
  Nothing : Known
  Judged : Judgement → Known
  NoneLeft : Known

-- what it knows once it has been told what comes next: the trial is judged
abbrev pub KnownAfter : Turn → Known → Type 0
KnownAfter (Next trial) known =
    (j : Judgement) × (j.trial ≡ trial) × IsVerdict j.trial j.verdict × (known ≡ Judged j)
KnownAfter Done known = known ≡ NoneLeft
KnownAfter Gone known = known ≡ NoneLeft

-- A call for a ticket, from a book and what is known to a book and what is known then. Where the
-- ticket waits or rests it is claimed. Where it is held, and nothing is known, its next trial is
-- asked for; a trial that is whole fires, and another is reported; and where no trial is left the
-- goal is dropped.
pub data SoloCall (seat t : ℕ) (b : BookState) (known : Known) (n : BookState) (after : Known)
    : Type 0 where
  claims : (l : ℕ) → Claims b seat t (Ok l) n → after ≡ Nothing → SoloCall seat t b known n after
  asks : (turn : Turn) → known ≡ Nothing → Turns b seat t (Ok turn) n → KnownAfter turn after →
      SoloCall seat t b known n after
  fires : (j : Judgement) (firing : Firing) → known ≡ Judged j →
      FiresOrMisses b seat t j (Ok firing) n → after ≡ Nothing → SoloCall seat t b known n after
  reports : (j : Judgement) (moved : Unit {0}) → known ≡ Judged j →
      Reports b seat t j (Ok moved) n → after ≡ Nothing → SoloCall seat t b known n after
  drops : (dropping : Dropping) → known ≡ NoneLeft → Drops b seat t (Ok dropping) n →
      after ≡ Nothing → SoloCall seat t b known n after

-- calls of one seat, one after another, each for the least open ticket that no other seat holds
abbrev pub SoloRun : ℕ → ℕ → BookState → Known → BookState → Known → Type 0
SoloRun seat zero b known n after = (n ≡ b) × (after ≡ known)
SoloRun seat (suc calls) b known n after =
    (t : ℕ) × IsLeastFor b.tickets seat t × (middle : BookState) × (then : Known) ×
    SoloCall seat t b known middle then × SoloRun seat calls middle then n after

-- the least of these tickets waits, and the labels are spent
pub record IsSpentFor (seat : ℕ) (b : BookState) : Type 0 where
  pub ticket : ℕ
  pub least : IsLeastFor b.tickets seat ticket
  pub spent : Claims b seat ticket (Err LabelsSpent) b

-- Why a run ends after so many calls: as many were asked for; no such ticket is left; or the last
-- call was a claim that is refused, for the labels are spent.
abbrev pub SoloEnds : ℕ → ℕ → ℕ → ℕ → BookState → Type 0
SoloEnds seat most made calls n =
    ((calls ≡ made) × ((made ≡ most) ⊎ NoneFor n.tickets seat)) ⊎
    ((calls ≡ made + 1) × IsSpentFor seat n)

-- A solo run of at most so many calls: the calls that were made, and why it ended.
pub record IsSolo (seat most : ℕ) (b : BookState) (calls : ℕ) (n : BookState) : Type 0 where
  pub made : ℕ
  pub known : Known
  pub run : SoloRun seat made b Nothing n known
  pub few : calls ≤ most
  pub ends : SoloEnds seat most made calls n

-- the calls made until memory was refused
pub record IsCutShort (seat most : ℕ) (b n : BookState) : Type 0 where
  pub made : ℕ
  pub known : Known
  pub run : SoloRun seat made b Nothing n known
  pub fewer : made < most
