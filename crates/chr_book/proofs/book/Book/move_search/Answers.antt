use Rattle.std.proofs.Common.{refl, subst, ◌≡◌, sym, ap, ◌∙◌}
use Rattle.chr_calls.specs.Books.{BookState}
use Rattle.chr_calls.specs.Headline.{IsKept}
use Rattle.chr_sheet.specs.Rows.{judgements_of}
use Rattle.chr_book.specs.Books.{book_of}
use Rattle.chr_book.specs.Given.{AreNextIn}
use Rattle.chr_book.proofs.Sheets.{moves_in}
use Rattle.chr_book.proofs.book.Book.move_search.Goals as goal
use Rattle.chr_book.proofs.book.Book.move_search.Goals.{After-deref-program}

-- the book with the rules that were lent
lent : (g : _) (c : After-deref-program g) → (let x = c.self.inside in book_of c.deref-program.result.now x.plans x.names x.log x.store x.tickets ≡ c.args.self.now)
lent g c =
    let x = c.self.inside in
    ap (λ rules. book_of rules x.plans x.names x.log x.store x.tickets) c.deref-program.ensures ∙ c.self.view_is

pub report_next-requires-clause-next : goal.report_next-requires-clause-next
report_next-requires-clause-next g c =
    subst (λ (n : BookState). AreNextIn n c.args.search.now (judgements_of c.args.judgements.now)) (sym (lent g (goal.at.report_next-requires-clause-next g c).After-deref-program)) (c.requires c.if-are_next.true)

pub returns-then-are_next : goal.returns-then-are_next
returns-then-are_next g c =
    let x = c.self.inside in
    let kept = subst (λ rules. IsKept (book_of rules x.plans x.names x.log x.store x.tickets)) (sym c.deref-program.ensures) c.self.invariant.0 in
    let r = c.report_next in
    record {
      right = r.ensures.right;
      moves = moves_in _ _ c.args.search.now r.new.search x.store c.args.judgements.now r.result.count r.result.whole_is_next (lent g (goal.at.returns-then-are_next g c).After-deref-program) kept refl c.next_label-label.ensures.labelled c.rules-rules.ensures.valid c.whole-whole.ensures.verdict r.ensures.label r.ensures.reports r.ensures.whole;
    }

pub returns : goal.returns
returns g c =
    let x = c.self.inside in
    let kept = subst (λ rules. IsKept (book_of rules x.plans x.names x.log x.store x.tickets)) (sym c.deref-program.ensures) c.self.invariant.0 in
    let r = c.report in
    record {
      right = r.ensures.right;
      moves = moves_in _ _ c.args.search.now r.new.search x.store c.args.judgements.now r.result.count r.result.whole_is_next (lent g (goal.at.returns g c).After-deref-program) kept refl c.next_label-label.ensures.labelled c.rules-rules.ensures.valid c.whole-whole.ensures.verdict r.ensures.label r.ensures.reports r.ensures.whole;
    }
