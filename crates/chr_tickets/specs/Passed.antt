-- Tickets whose searches go on.
use Rattle.std.specs.Prelude.{◌≡◌, ℕ, zero, suc, List, Option}
use Rattle.chr_value.specs.Atoms.{Value}
use Rattle.chr_rule.specs.Rules.{Simpagation}
use Rattle.chr_model.specs.Goals.{Numbered}
use Rattle.chr_model.specs.Stores.{Store}
use Rattle.chr_plan.specs.Plans.{PlanList}
use Rattle.chr_search.specs.Answers.{after_judging}
use Rattle.chr_search.specs.Judged.{Judgement}
use Rattle.chr_search.specs.Trials.{Space, older}
use Rattle.chr_search.specs.Passing.{Passes, IsThen}
use Rattle.chr_search.specs.Reach.{SearchState}
use Rattle.chr_search.specs.declared.search.Instance.{Instance}
use Rattle.chr_search.specs.declared.search.Passed.{Passed}
use Rattle.chr_search.specs.declared.search.Then.{Then as CodeThen}
use Rattle.chr_search.specs.declared.search.Then.TheVariants as thens
use Rattle.chr_calls.specs.Tickets.{Ticket, going_on}

-- a ticket whose search has passed over so many trials, up to a place: where there are any and
-- perhaps more come, it goes on there and has no candidate, and else it is as it was
abbrev pub gone_over : CodeThen → ℕ → List ℕ → Ticket → Ticket
gone_over thens.More zero place x = x
gone_over thens.More (suc n) place x = going_on place x
gone_over thens.Whole n place x = x
gone_over thens.Done n place x = x

-- the ticket's search passes over trials up to a place, where this is next, under this binding
pub record PassesOver (s : Space) (passed : Passed) (instance : Instance)
    (binding : List (Option (Value ℕ))) (x after : Ticket) : Type 0 where
  pub place : List ℕ
  pub passes : Passes s passed.count x.position place
  pub next : IsThen s place passed.then instance binding
  pub after_is : after ≡ gone_over passed.then passed.count place x

-- it passes over trials of the label that its goal has and of older ones
abbrev pub PassesOlder : List (Simpagation ℕ) → PlanList → Store → Passed → Instance →
    List (Option (Value ℕ)) → Ticket → Ticket → Type 0
PassesOlder rules plans store passed instance binding x after =
    (l : ℕ) → x.goal ≡ Numbered l →
    PassesOver (older rules plans store l) passed instance binding x after

-- where more may be left, as many were passed over as were asked for
abbrev pub IsCutAt : ℕ → Passed → Type 0
IsCutAt most passed = passed.then ≡ thens.More → passed.count ≡ most

-- the ticket once its next trial is judged
abbrev pub advanced : Judgement → Ticket → Ticket
advanced judged x = going_on (after_judging judged) x

-- the search is for the label that the ticket's goal has
abbrev pub IsSearchFor : SearchState → Ticket → Type 0
IsSearchFor search x = x.goal ≡ Numbered search.label
