-- The characters of a message.
use Rattle.std.specs.Prelude.{ℕ, ◌<◌, ◌≤◌, ◌⊎◌}

-- a character that is no control character: none below the blank, nor one from DEL to the last of
-- the second range of controls
abbrev pub IsPrinted : ℕ → Type 0
IsPrinted c = (32 ≤ c) × ((c < 127) ⊎ (159 < c))
