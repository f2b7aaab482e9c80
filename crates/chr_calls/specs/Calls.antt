-- The table of calls: for each call, its answers with where they come, and the book after it. In
-- each call, what stands first holds first; want of memory comes last, and changes nothing.
use Rattle.std.specs.Prelude.{◌≡◌, ◌≢◌, ℕ, ◌+◌, ◌<◌, ◌≤◌, ◌⊎◌, Bool, true, false, not, List, [], ◌∷◌, ◌++◌, length, map, Option, Some, None, Result, Ok, Err, slice_set}
use Rattle.std.specs.List.{AllByRecursion}
use Rattle.chr_value.specs.Atoms.{Atom, AtomIsNamed}
use Rattle.chr_log.specs.Events as log
use Rattle.chr_model.specs.Stores.{Labelled, without, among}
use Rattle.chr_model.specs.Goals.{Plain, Numbered}
use Rattle.chr_model.specs.Programs.{Instances}
use Rattle.chr_search.specs.Positions.{past}
use Rattle.chr_search.specs.Trials.{IsNext, NoneLeft}
use Rattle.chr_search.specs.Verdicts.{Trial, position, kept_labels, removed_labels, IsFormed, IsTrialOf}
use Rattle.chr_search.specs.Judged.{Judgement}
use Rattle.chr_search.specs.Answers.{after_judging}
use Rattle.chr_search.specs.declared.judged.Verdict.TheVariants.{Whole}
use Rattle.chr_calls.specs.declared.answers.TicketState.TheVariants as states
use Rattle.chr_calls.specs.declared.answers.PostFault.{PostFault}
use Rattle.chr_calls.specs.declared.answers.PostFault.TheVariants as post
use Rattle.chr_calls.specs.declared.answers.ClaimFault.{ClaimFault}
use Rattle.chr_calls.specs.declared.answers.ClaimFault.TheVariants as claim
use Rattle.chr_calls.specs.declared.answers.TurnFault.{TurnFault}
use Rattle.chr_calls.specs.declared.answers.TurnFault.TheVariants as turn_fault
use Rattle.chr_calls.specs.declared.answers.ReportFault.{ReportFault}
use Rattle.chr_calls.specs.declared.answers.ReportFault.TheVariants as report
use Rattle.chr_calls.specs.declared.answers.Firing.{Firing}
use Rattle.chr_calls.specs.declared.answers.Firing.TheVariants as firing
use Rattle.chr_calls.specs.declared.answers.Fired.{Fired}
use Rattle.chr_calls.specs.declared.answers.FireFault.{FireFault}
use Rattle.chr_calls.specs.declared.answers.FireFault.TheVariants as fire
use Rattle.chr_calls.specs.declared.answers.Dropping.{Dropping}
use Rattle.chr_calls.specs.declared.answers.Dropping.TheVariants as dropping
use Rattle.chr_calls.specs.declared.answers.DropFault.{DropFault}
use Rattle.chr_calls.specs.declared.answers.DropFault.TheVariants as drop
use Rattle.chr_calls.specs.declared.answers.PutDownFault.{PutDownFault}
use Rattle.chr_calls.specs.declared.answers.PutDownFault.TheVariants as put_down_fault
use Rattle.chr_calls.specs.declared.answers.MarkFault.{MarkFault}
use Rattle.chr_calls.specs.declared.answers.MarkFault.TheVariants as mark
use Rattle.chr_calls.specs.Turns.{Turn}
use Rattle.chr_calls.specs.Turns as turn
use Rattle.chr_calls.specs.Tickets.{Ticket, ended, waiting, activated_by, held_by, put_down, marked, with_candidate, going_on, ticket_at, state_of, IsClaimable, Holds, IsNotHeld, LosesStray}
use Rattle.chr_calls.specs.Books.{BookState, space_of, IsLive, with_tickets, with_ticket, with_entry}

-- ---- post

-- the book where an atom is posted under the next ticket, and where these are, in order
abbrev pub posted : BookState → ℕ → Atom ℕ → BookState
posted b seat a =
    with_tickets (with_entry b seat (log.Post (length b.tickets) a)) (b.tickets ++ waiting a ∷ [])

abbrev pub all_posted : BookState → ℕ → List (Atom ℕ) → BookState
all_posted b seat [] = b
all_posted b seat (a ∷ as') = all_posted (posted b seat a) seat as'

-- the table has all names of these atoms
abbrev pub AreNamed : BookState → List (Atom ℕ) → Type 0
AreNamed b atoms = AllByRecursion (AtomIsNamed (length b.names)) atoms

abbrev pub Posts : BookState → ℕ → List (Atom ℕ) → Result ℕ PostFault → BookState → Type 0
Posts b seat atoms (Err post.UnknownName) n = (AreNamed b atoms → ⊥) × (n ≡ b)
Posts b seat atoms (Err post.NoMemory) n = AreNamed b atoms × (n ≡ b)
Posts b seat atoms (Ok first) n =
    AreNamed b atoms × (first ≡ length b.tickets) × (n ≡ all_posted b seat atoms)

-- ---- claim

-- the book where ticket t's atom has entered the store under the next label
abbrev pub activated : BookState → ℕ → ℕ → Atom ℕ → BookState
activated b seat t a = record b {
  log = b.log ++ record { event = log.Activate t b.next; seat = seat } ∷ [];
  store = b.store ++ (b.next, a) ∷ [];
  next = b.next + 1;
  tickets = slice_set b.tickets t (activated_by seat b.next);
}

-- a waiting ticket can be activated
pub record CanActivate (b : BookState) (t : ℕ) : Type 0 where
  pub waits : state_of b.tickets t ≡ states.Waiting
  pub room : b.next ≤ b.limit

-- it is activated, or a resting one goes on
pub record Activates (b : BookState) (seat t l : ℕ) (n : BookState) : Type 0 where
  pub can : CanActivate b t
  pub atom : Atom ℕ
  pub goal : (ticket_at b.tickets t).goal ≡ Plain atom
  pub label : l ≡ b.next
  pub after : n ≡ activated b seat t atom

pub record Resumes (b : BookState) (seat t l : ℕ) (n : BookState) : Type 0 where
  pub rests : state_of b.tickets t ≡ states.Resting
  pub goal : (ticket_at b.tickets t).goal ≡ Numbered l
  pub after : n ≡ with_ticket b t (held_by seat (ticket_at b.tickets t))

abbrev pub Claims : BookState → ℕ → ℕ → Result ℕ ClaimFault → BookState → Type 0
Claims b seat t (Err (claim.NotWaiting state)) n =
    (state ≡ state_of b.tickets t) × (IsClaimable state → ⊥) × (n ≡ b)
Claims b seat t (Err claim.LabelsSpent) n =
    (state_of b.tickets t ≡ states.Waiting) × (b.limit < b.next) × (n ≡ b)
Claims b seat t (Err claim.NoMemory) n = CanActivate b t × (n ≡ b)
Claims b seat t (Ok l) n = Activates b seat t l n ⊎ Resumes b seat t l n

-- ---- trial

-- the seat holds the ticket, and its goal's label, l, is in the store
pub record HoldsLive (b : BookState) (seat t l : ℕ) : Type 0 where
  pub holds : Holds b.tickets seat t l
  pub live : IsLive b l

-- the goal's search has no trial left
abbrev pub IsDone : BookState → ℕ → ℕ → Type 0
IsDone b t l = NoneLeft (space_of b l) (ticket_at b.tickets t).position

-- the least admissible trial at or after the search's position, with the store's atoms
pub record IsNextTrial (b : BookState) (t l : ℕ) (trial : Trial) : Type 0 where
  pub next : IsNext (space_of b l) (ticket_at b.tickets t).position (position trial)
  pub is : IsTrialOf b.rules b.plans b.store trial
  pub formed : IsFormed trial

-- the book with this candidate of the ticket
abbrev pub with_candidate_of : BookState → ℕ → Option Trial → BookState
with_candidate_of b t candidate = with_ticket b t (with_candidate candidate (ticket_at b.tickets t))

abbrev pub Turns : BookState → ℕ → ℕ → Result Turn TurnFault → BookState → Type 0
Turns b seat t (Err turn_fault.NotHeld) n = IsNotHeld b.tickets seat t × (n ≡ b)
Turns b seat t (Err turn_fault.NoMemory) n = (l : ℕ) × HoldsLive b seat t l × (n ≡ b)
Turns b seat t (Ok turn.Gone) n =
    (l : ℕ) × Holds b.tickets seat t l × (IsLive b l → ⊥) × (n ≡ with_candidate_of b t None)
Turns b seat t (Ok (turn.Next trial)) n =
    (l : ℕ) × HoldsLive b seat t l × IsNextTrial b t l trial ×
    (n ≡ with_candidate_of b t (Some trial))
Turns b seat t (Ok turn.Done) n =
    (l : ℕ) × HoldsLive b seat t l × IsDone b t l × (n ≡ with_candidate_of b t None)

-- ---- report and fire

-- The seat holds the ticket, and the trial is its candidate: equal in rule number and content,
-- head, labels, and their heads and atoms.
pub record HoldsCandidate (b : BookState) (seat t : ℕ) (trial : Trial) : Type 0 where
  pub held : state_of b.tickets t ≡ states.Held seat
  pub candidate : (ticket_at b.tickets t).candidate ≡ Some trial

-- the seat holds the ticket, but the trial is not its candidate
pub record HoldsOther (b : BookState) (seat t : ℕ) (trial : Trial) : Type 0 where
  pub held : state_of b.tickets t ≡ states.Held seat
  pub other : (ticket_at b.tickets t).candidate ≢ Some trial

-- the book where the ticket's search goes on after a judgement
abbrev pub after_judgement : BookState → ℕ → Judgement → BookState
after_judgement b t j = with_ticket b t (going_on (after_judging j) (ticket_at b.tickets t))

abbrev pub Reports : BookState → ℕ → ℕ → Judgement → Result (Unit {0}) ReportFault → BookState →
    Type 0
Reports b seat t j (Err report.NotHeld) n = IsNotHeld b.tickets seat t × (n ≡ b)
Reports b seat t j (Err report.Stale) n = HoldsOther b seat t j.trial × (n ≡ b)
Reports b seat t j (Err report.IsWhole) n =
    HoldsCandidate b seat t j.trial × (j.verdict ≡ Whole) × (n ≡ b)
Reports b seat t j (Ok moved) n =
    HoldsCandidate b seat t j.trial × (j.verdict ≢ Whole) × (n ≡ after_judgement b t j)

-- the candidate is whole, so that it can be fired
pub record HoldsWhole (b : BookState) (seat t : ℕ) (j : Judgement) : Type 0 where
  pub holds : HoldsCandidate b seat t j.trial
  pub whole : j.verdict ≡ Whole

-- all labels of the trial are live
abbrev pub AreLive : BookState → Trial → Type 0
AreLive b trial = AllByRecursion (λ p. IsLive b p.label) trial.placed

-- the ticket after its trial has fired: it goes on past the trial, or it has ended
abbrev pub fired_ticket : Ticket → Trial → Bool → Ticket
fired_ticket x trial true = going_on (past (position trial)) x
fired_ticket x trial false = ended

-- the book where the trial has fired: an entry more, the removed labels gone, the body's atoms
-- waiting in order
abbrev pub fired : BookState → ℕ → ℕ → Trial → List (Atom ℕ) → Bool → BookState
fired b seat t trial body lives = record b {
  log = b.log ++
      record {
        event = log.Fire t trial.number (kept_labels trial) (removed_labels trial);
        seat = seat;
      } ∷ [];
  store = without (removed_labels trial) b.store;
  tickets =
      slice_set b.tickets t (fired_ticket (ticket_at b.tickets t) trial lives) ++ map waiting body;
}

-- The trial is a labelled instance over the store with this body. The goal ends where its label is
-- removed.
pub record Fires (b : BookState) (t : ℕ) (trial : Trial) (seat : ℕ) (f : Fired) (n : BookState)
    : Type 0 where
  pub body : List (Atom ℕ)
  pub instance : Labelled (Instances b.rules) b.store trial.number (kept_labels trial)
      (removed_labels trial) body
  pub first : f.first ≡ length b.tickets
  pub count : f.count ≡ length body
  pub label : ℕ
  pub goal : (ticket_at b.tickets t).goal ≡ Numbered label
  pub lives : f.active_lives ≡ not (among (removed_labels trial) label)
  pub after : n ≡ fired b seat t trial body f.active_lives

abbrev pub FiresOrMisses : BookState → ℕ → ℕ → Judgement → Result Firing FireFault → BookState →
    Type 0
FiresOrMisses b seat t j (Err fire.NotHeld) n = IsNotHeld b.tickets seat t × (n ≡ b)
FiresOrMisses b seat t j (Err fire.Stale) n = HoldsOther b seat t j.trial × (n ≡ b)
FiresOrMisses b seat t j (Err fire.NotWhole) n =
    HoldsCandidate b seat t j.trial × (j.verdict ≢ Whole) × (n ≡ b)
FiresOrMisses b seat t j (Err fire.NoMemory) n = HoldsWhole b seat t j × AreLive b j.trial × (n ≡ b)
FiresOrMisses b seat t j (Ok firing.Missed) n =
    HoldsWhole b seat t j × (AreLive b j.trial → ⊥) × (n ≡ after_judgement b t j)
FiresOrMisses b seat t j (Ok (firing.Fired f)) n =
    HoldsWhole b seat t j × AreLive b j.trial × Fires b t j.trial seat f n

-- ---- drop_goal

-- the goal's label has left the store, or its search has no trial left
abbrev pub MayBeDropped : BookState → ℕ → ℕ → Type 0
MayBeDropped b t l = IsLive b l → IsDone b t l

abbrev pub dropped : BookState → ℕ → ℕ → BookState
dropped b seat t = with_tickets (with_entry b seat (log.Drop t)) (slice_set b.tickets t ended)

abbrev pub Drops : BookState → ℕ → ℕ → Result Dropping DropFault → BookState → Type 0
Drops b seat t (Err drop.NotHeld) n = IsNotHeld b.tickets seat t × (n ≡ b)
Drops b seat t (Err drop.NoMemory) n =
    (l : ℕ) × Holds b.tickets seat t l × MayBeDropped b t l × (n ≡ b)
Drops b seat t (Ok dropping.Dropped) n =
    (l : ℕ) × Holds b.tickets seat t l × MayBeDropped b t l × (n ≡ dropped b seat t)
Drops b seat t (Ok dropping.Unfinished) n =
    (l : ℕ) × HoldsLive b seat t l × (IsDone b t l → ⊥) × (n ≡ b)

-- ---- put_down, mark_stray, take_stray

abbrev pub PutsDown : BookState → ℕ → ℕ → Result (Unit {0}) PutDownFault → BookState → Type 0
PutsDown b seat t (Err put_down_fault.NotHeld) n = IsNotHeld b.tickets seat t × (n ≡ b)
PutsDown b seat t (Ok done) n =
    (state_of b.tickets t ≡ states.Held seat) ×
    (n ≡ with_ticket b t (put_down (ticket_at b.tickets t)))

abbrev pub Marks : BookState → ℕ → Result (Unit {0}) MarkFault → BookState → Type 0
Marks b t (Err (mark.NotWaiting state)) n =
    (state ≡ state_of b.tickets t) × (IsClaimable state → ⊥) × (n ≡ b)
Marks b t (Ok done) n =
    IsClaimable (state_of b.tickets t) × (n ≡ with_ticket b t (marked true (ticket_at b.tickets t)))

abbrev pub TakesStray : BookState → Option ℕ → BookState → Type 0
TakesStray b answer n =
    (tickets : List Ticket) × LosesStray b.tickets answer tickets × (n ≡ with_tickets b tickets)
