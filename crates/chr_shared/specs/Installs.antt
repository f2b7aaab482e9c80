-- Bringing a book to a lock under which none is yet.
use Rattle.std.specs.Prelude.{◌≡◌, Option, Some, Result, Ok, Err}
use Rattle.chr_calls.specs.Books.{BookState}
use Rattle.chr_seats.specs.Accounts.{SeatState}
use Rattle.chr_seats.specs.Holds.{MakesNoCall, Reads}
use Rattle.chr_seats.specs.declared.answers.HoldFault.{HoldFault}
use Rattle.chr_seats.specs.declared.answers.HoldFault.TheVariants.{WrongSeat, NoBook}

-- A book is brought where none is there. Else it comes back, and the one that is there is read by
-- the seat. Nothing is done where the seat's counts are others than what it has made.
abbrev pub IsInstall : Option BookState → SeatState → BookState →
    Result (Result (Unit {0}) BookState) HoldFault → Option BookState → Type 0
IsInstall old seat book (Ok (Ok done)) new = MakesNoCall old seat NoBook × (new ≡ Some book)
IsInstall old seat book (Ok (Err back)) new =
    Reads (λ b. Unit {0}) old seat × (back ≡ book) × (new ≡ old)
IsInstall old seat book (Err WrongSeat) new = MakesNoCall old seat WrongSeat × (new ≡ old)
IsInstall old seat book (Err NoBook) new = ⊥

-- there was such a hold, whatever was under the lock
abbrev pub WasInstall : SeatState → BookState → Result (Result (Unit {0}) BookState) HoldFault →
    Type 0
WasInstall seat book result = (old new : Option BookState) × IsInstall old seat book result new
