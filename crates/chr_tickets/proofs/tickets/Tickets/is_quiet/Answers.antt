use Rattle.std.proofs.Common.{arith}
use Rattle.std.proofs.lemmas.Bool.Decides.{nat_tests}
use Rattle.std.proofs.lemmas.List.{length-drop}
use Rattle.chr_tickets.proofs.Ends.{quiet, not_quiet}
use Rattle.chr_tickets.proofs.tickets.Tickets.is_quiet.Goals as goal

pub returns : goal.returns
returns g c =
    let ok = c.self.inside.slots.ok in
    let within = c.self.invariant.within in
    let left = length-drop c.self.inside.gone c.self.inside.slots.items in
    let e = c.len.ensures in (
      λ t. quiet _ _ c.args.self.now c.self.view_is (grind (arith, nat_tests)),
      λ q. (let none = not_quiet _ _ c.args.self.now c.self.invariant.queued.starts c.self.view_is q in grind (arith, nat_tests)),
    )
