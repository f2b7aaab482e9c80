-- The exit status of each end.
use Rattle.std.specs.Prelude.{ℕ}
use Rattle.chr_solo.specs.declared.solo.End.{End}
use Rattle.chr_solo.specs.declared.solo.End.TheVariants as ends
use Rattle.chr_commands.specs.declared.ending.Status.{Status}
use Rattle.chr_commands.specs.declared.ending.Status.TheVariants.{Done, Fault, Usage, Open, NoMemory}

abbrev pub status_number : Status → ℕ
status_number Done = 0
status_number Fault = 1
status_number Usage = 2
status_number Open = 3
status_number NoMemory = 5

-- a run that ends open says so, once all that it gives is written
abbrev pub status_at : End → Status → Status
status_at ends.Open Done = Open
status_at end written = written
