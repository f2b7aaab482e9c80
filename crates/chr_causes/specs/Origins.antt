-- Where the labels of a log come from.
use Rattle.std.specs.Prelude.{◌≡◌, ℕ, ◌+◌, ◌<◌, List, length, take, Option, Some, None, slice_get}
use Rattle.std.specs.List.{sum_by}
use Rattle.chr_rule.specs.Rules.{Simpagation, rule_at}
use Rattle.chr_guard.specs.Instances.{added}
use Rattle.chr_log.specs.Events.{Event, Post, Activate, Fire, Drop}
use Rattle.chr_log.specs.declared.events.Version.{Version}
use Rattle.chr_model.specs.Goals.{State}
use Rattle.chr_model.specs.Logs.{Lawful}
use Rattle.chr_model.specs.Programs.{Instances}
use Rattle.chr_causes.specs.declared.origins.Origin.{Origin}

-- the log is lawful for the rules, by some version
pub record IsLawful (rules : List (Simpagation ℕ)) (log : List (Event ℕ)) : Type 0 where
  pub version : Version
  pub last : State
  pub lawful : Lawful version (Instances rules) log last

-- how many constraints a rule's body adds
abbrev pub added_count : Option (Simpagation ℕ) → ℕ
added_count (Some rule) = length (added rule.body)
added_count None = 0

-- How many tickets an event makes: a post makes one, and a firing one for each constraint that its
-- rule's body adds.
abbrev pub tickets_of : List (Simpagation ℕ) → Event ℕ → ℕ
tickets_of rules (Post t a) = 1
tickets_of rules (Activate t l) = 0
tickets_of rules (Fire t r kept removed) = added_count (rule_at rules r)
tickets_of rules (Drop t) = 0

-- the first ticket that comes after those of a log; tickets are numbered from 1
abbrev pub next_ticket : List (Simpagation ℕ) → List (Event ℕ) → ℕ
next_ticket rules log = sum_by (tickets_of rules) log + 1

-- The entry at the place `made` made the ticket, after so many others.
pub record Makes (rules : List (Simpagation ℕ)) (log : List (Event ℕ))
    (made nth ticket : ℕ) : Type 0 where
  pub event : Event ℕ
  pub there : slice_get log made ≡ Some event
  pub within : nth < tickets_of rules event
  pub number : ticket ≡ next_ticket rules (take made log) + nth

-- Where a label comes from: an entry gives it to the goal of a ticket, and an entry made the
-- ticket.
pub record IsOrigin (rules : List (Simpagation ℕ)) (log : List (Event ℕ)) (label : ℕ)
    (origin : Origin) : Type 0 where
  pub ticket : ℕ
  pub gives : slice_get log origin.activated ≡ Some (Activate ticket label)
  pub makes : Makes rules log origin.made origin.nth ticket

-- the log gives the label
pub record Gives (log : List (Event ℕ)) (label : ℕ) : Type 0 where
  pub place : ℕ
  pub ticket : ℕ
  pub gives : slice_get log place ≡ Some (Activate ticket label)

-- the origins of all labels that the log gives, from label 1 on
pub record AreOrigins (rules : List (Simpagation ℕ)) (log : List (Event ℕ)) (list : List Origin)
    : Type 0 where
  pub each : (k : ℕ) (origin : Origin) → slice_get list k ≡ Some origin →
      IsOrigin rules log (k + 1) origin
  pub all : (label : ℕ) → Gives log label → (0 < label) × (label < length list + 1)
