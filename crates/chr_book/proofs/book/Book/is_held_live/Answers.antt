use Rattle.std.proofs.Common.{◌↔◌, IsTrue, sym, subst}
use Rattle.chr_book.specs.Passed.{IsHeldLive}
use Rattle.chr_book.proofs.Turns.{found_live}
use Rattle.chr_book.proofs.book.Book.is_held_live.Goals as goal

pub returns-in-Some : goal.returns-in-Some
returns-in-Some g c =
    subst (λ r. IsTrue r ↔ IsHeldLive c.args.self.now c.args.seat c.args.ticket) (sym c.is_some.ensures)
    (found_live _ _ c.self.view_is c.args.seat c.args.ticket c.label.result c.in-Some.search.now c.get.result c.in-Some.ensures c.get.ensures c.label.ensures)
