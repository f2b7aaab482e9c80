use Rattle.std.proofs.Common.{◌<◌, arith}
use Rattle.chr_book.proofs.Sheets.{not_reported, none_gone, some_gone}
use Rattle.chr_book.proofs.book.Book.move_over.Goals as goal

pub returns-in_default : goal.returns-in_default
returns-in_default g c = not_reported c.args.self.now c.args.seat c.args.ticket c.args.judgements.now c.in_default.ensures

pub returns-then-reported-eq0 : goal.returns-then-reported-eq0
returns-then-reported-eq0 g c =
    let r = c.move_search-reported in
    none_gone c.args.self.now c.args.seat c.args.ticket c.in-Some.held.now c.copy-search.result r.new.search c.args.judgements.now r.result.count r.result.whole_is_next c.in-Some.ensures c.copy-search.ensures r.ensures.moves c.if-reported-eq0.true

pub invariant_of-self : goal.invariant_of-self
invariant_of-self g c =
    let r = c.move_search-reported in
    let some : 0 < r.result.count = omega (arith, c.if-reported-eq0.false) in
    ((some_gone _ _ c.self.view_is c.args.seat c.args.ticket c.in-Some.held.now c.copy-search.result r.new.search c.args.judgements.now r.result.count r.result.whole_is_next c.go_to.new.self r.ensures.right c.in-Some.ensures c.copy-search.ensures r.ensures.moves some c.go_to.ensures c.self.invariant.0).0, c.self.invariant.1)

pub returns : goal.returns
returns g c =
    let r = c.move_search-reported in
    let some : 0 < r.result.count = omega (arith, c.if-reported-eq0.false) in
    (some_gone _ _ c.self.view_is c.args.seat c.args.ticket c.in-Some.held.now c.copy-search.result r.new.search c.args.judgements.now r.result.count r.result.whole_is_next c.go_to.new.self r.ensures.right c.in-Some.ensures c.copy-search.ensures r.ensures.moves some c.go_to.ensures c.self.invariant.0).1
