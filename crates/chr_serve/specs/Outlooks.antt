-- What can be hoped of the next call of a listener that has failed.
use Rattle.std.specs.Prelude.{◌≡◌, ◌⊎◌, ℤ, pos, Option, Some}
use Rattle.std.specs.declared.io.ErrorKind.{ErrorKind}
use Rattle.std.specs.declared.io.ErrorKind.TheVariants.{Interrupted, ConnectionAborted}
use Rattle.chr_serve.specs.declared.failure.Outlook.{Outlook}
use Rattle.chr_serve.specs.declared.failure.Outlook.TheVariants.{Passed, Shortage, Lasting}

-- a signal came, or the connection was cut before it was taken
abbrev pub HasPassed : ErrorKind → Type 0
HasPassed kind = (kind ≡ Interrupted) ⊎ (kind ≡ ConnectionAborted)

-- the system's number of the error: no memory, no descriptor for any process, none for this one, no
-- memory for sockets
abbrev pub IsShortage : Option ℤ → Type 0
IsShortage number = (number ≡ Some (pos 12)) ⊎ (number ≡ Some (pos 23)) ⊎ (number ≡ Some (pos 24)) ⊎ (number ≡ Some (pos 105))

-- what has passed is told first, and what is no shortage then may last
abbrev pub IsOutlook : ErrorKind → Option ℤ → Outlook → Type 0
IsOutlook kind number Passed = HasPassed kind
IsOutlook kind number Shortage = (HasPassed kind → ⊥) × IsShortage number
IsOutlook kind number Lasting = (HasPassed kind → ⊥) × (IsShortage number → ⊥)
