-- Trials that are passed over.
use Rattle.std.specs.Prelude.{◌≡◌, ℕ, zero, suc, ◌+◌, ◌<◌, ◌⊎◌, List, ◌++◌, Option, Ok, slice_set}
use Rattle.chr_value.specs.Atoms.{Value}
use Rattle.chr_search.specs.Trials.{Space}
use Rattle.chr_search.specs.Passing.{PassesTo}
use Rattle.chr_search.specs.Judged.{Judgement, IsVerdict}
use Rattle.chr_search.specs.declared.search.Instance.{Instance}
use Rattle.chr_search.specs.declared.search.Passed.{Passed}
use Rattle.chr_calls.specs.declared.answers.Fired.{Fired}
use Rattle.chr_calls.specs.declared.answers.Firing.TheVariants as firing
use Rattle.chr_calls.specs.declared.answers.Dropping.TheVariants as dropping
use Rattle.chr_calls.specs.Turns.{Next, Done}
use Rattle.chr_calls.specs.Tickets.{Ticket, ticket_at}
use Rattle.chr_calls.specs.Books.{BookState}
use Rattle.chr_calls.specs.Calls.{HoldsLive, Claims, Turns, Reports, FiresOrMisses, Drops}
use Rattle.chr_tickets.specs.Passed.{PassesOver}
use Rattle.chr_book.specs.Firings.{MakesFound}
use Rattle.chr_book.specs.declared.rounds.Last.{Last}
use Rattle.chr_book.specs.declared.rounds.Last.TheVariants as lasts
use Rattle.chr_book.specs.declared.rounds.Rounds.{Rounds}

-- the ticket's next trial is asked for, judged, and reported
pub record PassesTrial (seat t : ℕ) (b n : BookState) : Type 0 where
  pub judged : Judgement
  pub right : IsVerdict judged.trial judged.verdict
  pub asked : BookState
  pub turns : Turns b seat t (Ok (Next judged.trial)) asked
  pub reports : Reports asked seat t judged (Ok tt) n

-- so many of them, one after another
abbrev pub PassesTrials : ℕ → ℕ → ℕ → BookState → BookState → Type 0
PassesTrials seat t zero b n = n ≡ b
PassesTrials seat t (suc k) b n =
    (middle : BookState) × PassesTrial seat t b middle × PassesTrials seat t k middle n

-- the seat holds the ticket, whose goal is live
abbrev pub IsHeldLive : BookState → ℕ → ℕ → Type 0
IsHeldLive b seat t = (l : ℕ) × HoldsLive b seat t l

-- the ticket's next trial is asked for, judged, and fired
pub record FiresTrial (seat t : ℕ) (b n : BookState) : Type 0 where
  pub judged : Judgement
  pub right : IsVerdict judged.trial judged.verdict
  pub asked : BookState
  pub turns : Turns b seat t (Ok (Next judged.trial)) asked
  pub fired : Fired
  pub fires : FiresOrMisses asked seat t judged (Ok (firing.Fired fired)) n

-- its next trial is asked for, there is none, and the goal is dropped
pub record DropsGoal (seat t : ℕ) (b n : BookState) : Type 0 where
  pub asked : BookState
  pub turns : Turns b seat t (Ok Done) asked
  pub drops : Drops asked seat t (Ok dropping.Dropped) n

-- the last round fires or drops, or there is none but those that pass over trials
abbrev pub IsLast : ℕ → ℕ → Last → BookState → BookState → Type 0
IsLast seat t lasts.Fired b n = FiresTrial seat t b n
IsLast seat t lasts.Dropped b n = DropsGoal seat t b n
IsLast seat t lasts.Passed b n = n ≡ b

-- how many rounds are made
abbrev pub rounds_in : Rounds → ℕ
rounds_in r = last_in r.last + r.passed
  where
    last_in : Last → ℕ
    last_in lasts.Fired = 1
    last_in lasts.Dropped = 1
    last_in lasts.Passed = 0

-- these rounds
pub record MakesRounds (seat t : ℕ) (r : Rounds) (b n : BookState) : Type 0 where
  pub middle : BookState
  pub passes : PassesTrials seat t r.passed b middle
  pub last : IsLast seat t r.last middle n

-- some of at most so many rounds, and none of them the last of so many
pub record MakesFewer (seat t most : ℕ) (b n : BookState) : Type 0 where
  pub passed : ℕ
  pub fewer : passed < most
  pub passes : PassesTrials seat t passed b n

-- the ticket is claimed, and these rounds are made for it
pub record StartsRounds (seat t : ℕ) (r : Rounds) (b n : BookState) : Type 0 where
  pub label : ℕ
  pub claimed : BookState
  pub claims : Claims b seat t (Ok label) claimed
  pub makes : MakesRounds seat t r claimed n

-- the ticket is claimed, and some of at most so many rounds are made
pub record StartsSome (seat t most : ℕ) (b n : BookState) : Type 0 where
  pub label : ℕ
  pub claimed : BookState
  pub claims : Claims b seat t (Ok label) claimed
  pub makes : MakesFewer seat t most claimed n

-- nothing is made, or these
abbrev pub StartsFewer : ℕ → ℕ → ℕ → BookState → BookState → Type 0
StartsFewer seat t most b n = (n ≡ b) ⊎ StartsSome seat t most b n

-- a ticket's search passes over trials, and the tickets of the body of what is found then come
-- after the others
pub record PassesMaking (s : Space) (t : ℕ) (passed : Passed) (i : Instance) (old new : List Ticket)
    : Type 0 where
  pub binding : List (Option (Value ℕ))
  pub x : Ticket
  pub over : PassesOver s passed i binding (ticket_at old t) x
  pub more : List Ticket
  pub made : MakesFound s.rules passed.then i.whole binding more
  pub tickets : new ≡ slice_set old t x ++ more

-- a search passes over trials from a place on, and the tickets of the body of what is found then
-- come after the others; the search stands here then
pub record PassesBefore (s : Space) (passed : Passed) (i : Instance) (place here : List ℕ)
    (old new : List Ticket) : Type 0 where
  pub binding : List (Option (Value ℕ))
  pub over : PassesTo s passed i binding place here
  pub more : List Ticket
  pub made : MakesFound s.rules passed.then i.whole binding more
  pub tickets : new ≡ old ++ more
