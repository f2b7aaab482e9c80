-- What a session on a shared book does.
use Rattle.std.specs.Prelude.{◌≡◌, ℕ}
use Rattle.std.specs.declared.alloc.Global.{Global}
use Rattle.crossbeam_queue.specs.SegTies.{SegId}
use Rattle.chr_seats.specs.Accounts.{SeatState}
use Rattle.chr_session.specs.Commands.{Command, Reply}
use Rattle.chr_shared_desk.specs.SharedReplies.{SharedReplies}

-- a seat, and which queue an inlet feeds
abbrev pub DeskState : Type 0
DeskState = SeatState × (SegId Global × ℕ)

-- from a state of a desk on a shared book a command may have this reply, and leave this state: the
-- inlet stays
abbrev pub SharedStep : DeskState → Command → Reply → DeskState → Type 0
SharedStep old command reply new = SharedReplies old.0 command reply new.0 × (new.1 ≡ old.1)
