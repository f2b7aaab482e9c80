-- What a text that isn't read is answered.
use Rattle.std.specs.Prelude.{ℕ, List}
use Rattle.chr_seats.specs.Accounts.{SeatState}
use Rattle.chr_session.specs.declared.desk.Fault.{Fault as FaultKind}
use Rattle.chr_session.specs.declared.desk.Fault.TheVariants as faults
use Rattle.chr_session.specs.Commands.{Refused}
use Rattle.chr_shared_desk.specs.SharedReplies.{LoadReplies, ReadFaults}

pub read_refused : (seat : SeatState) (text : List ℕ) (fault : FaultKind) → ReadFaults text fault → LoadReplies seat text (Refused fault)
read_refused seat text faults.AlreadyLoaded h = absurd h
read_refused seat text faults.WrongSeat h = absurd h
read_refused seat text other h = h
