use Rattle.std.proofs.Common.{ap, ◌∙◌}
use Rattle.chr_book.specs.Books.{book_of}
use Rattle.chr_book.proofs.Turns.{asked_next}
use Rattle.chr_book.proofs.book.Book.is_next.Goals as goal

pub returns : goal.returns
returns g c =
    let x = c.self.inside in
    asked_next (book_of c.deref.result.now x.plans x.names x.log x.store x.tickets) c.args.self.now (ap (λ rules. book_of rules x.plans x.names x.log x.store x.tickets) c.deref.ensures ∙ c.self.view_is) c.args.seat c.args.ticket c.in_ok-search.search.now c.args.trial.now c.is_next.result c.in_ok-search.ensures c.placed-placed.ensures.formed c.is_next.ensures
