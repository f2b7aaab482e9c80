-- What a connection is told that finds no seat.
use Rattle.std.specs.Prelude.{ℕ, List, codes}

-- the line of E18
abbrev pub no_seat_line : List ℕ
no_seat_line = codes "fault E18 NoSeat\n"
