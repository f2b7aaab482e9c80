-- When a worker ends.
use Rattle.std.specs.Prelude.{◌≡◌, ℕ, ◌-◌, min, Bool, true, if◌then◌else◌}
use Rattle.chr_crew.specs.declared.gate.Stop.{Stop}
use Rattle.chr_crew.specs.declared.gate.Stop.TheVariants.{Turns, Closed}

-- how many of so many turns are taken: no more than are left, and none where the crew is closed
abbrev pub turns_taken : Stop → ℕ → Bool → ℕ
turns_taken (Turns left) turns closed = min turns left
turns_taken Closed turns closed = if closed then 0 else turns

-- when the worker ends after them
abbrev pub stop_after : Stop → ℕ → Stop
stop_after (Turns left) turns = Turns (left - turns)
stop_after Closed turns = Closed

-- no turn is left, or the crew is closed
abbrev pub IsOver : Stop → Bool → Type 0
IsOver (Turns left) closed = left ≡ 0
IsOver Closed closed = closed ≡ true
