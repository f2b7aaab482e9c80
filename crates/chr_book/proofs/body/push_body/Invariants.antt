use Rattle.std.proofs.Common.{◌≡◌, ◌++◌, List, map, take}
use Rattle.chr_rule.specs.Parts.{member}
use Rattle.chr_calls.specs.Tickets.{Ticket}
use Rattle.chr_book.specs.Firings.{MakesBody}
use Rattle.chr_book.proofs.body.push_body.Given as goal

abbrev pub invariant-loop-item : goal.invariant-loop-item
invariant-loop-item g l = (more : List Ticket) × MakesBody (map member (take l.item-index l.item-items)) l.binding more × (l.tickets ≡ l.fn.tickets ++ more)
