-- What slots of tickets end as, once a `&mut` to one of the tickets has ended.
use Rattle.std.specs.Prelude.{ℕ, ◌-◌, Some}
use Rattle.std.specs.Borrow.{Fml, RattleType, MutBor, Lends}
use Rattle.std.specs.Vec.{vec_len, with_item}
use Rattle.std.specs.declared.alloc.Allocator.{Ghosts}
use Rattle.std.specs.declared.vec.Vec.{Vec}
use Rattle.std.specs.contracts.vec.Vec.{the_row as vec_row}
use Rattle.std.specs.contracts.option.Option.{the_row as option_row}
use Rattle.chr_tickets.specs.contracts.ticket.Ticket.{the_row}
use Rattle.chr_tickets.specs.declared.ticket.Ticket.{Ticket as CodeTicket}
use Rattle.chr_tickets.specs.Listed.{Slot}

module _ (A : RattleType) (alloc : Ghosts A.Denot) where
  -- the slot has the last ticket that was written
  abbrev pub lends_slot : MutBor (Slot A.Denot) → MutBor (CodeTicket A.Denot) → Fml
  lends_slot s r = Lends (option_row (the_row A alloc)) (the_row A alloc) s r Some

  -- the last slot has it
  abbrev pub lends_last : MutBor (Vec (Slot A.Denot) A.Denot) → MutBor (CodeTicket A.Denot) → Fml
  lends_last s r =
      Lends (vec_row (option_row (the_row A alloc)) A alloc) (the_row A alloc) s r
      (λ w. with_item s.now (vec_len s.now - 1) (Some w))

  -- the slot of a number has it
  abbrev pub lends_open : MutBor (Vec (Slot A.Denot) A.Denot) → ℕ → ℕ →
      MutBor (CodeTicket A.Denot) → Fml
  lends_open s first t r =
      Lends (vec_row (option_row (the_row A alloc)) A alloc) (the_row A alloc) s r
      (λ w. with_item s.now (t - first) (Some w))
