use Rattle.std.proofs.Common.{◌≡◌, ◌++◌, ℕ, List, Some, slice_set, sym, ap, ◌∙◌, subst, arith}
use Rattle.std.proofs.lemmas.List.{set-get_or}
use Rattle.std.proofs.lemmas.Result.{err_from_is_err_and}
use Rattle.chr_rule.specs.Rules.{Simpagation, rule_at}
use Rattle.chr_search.specs.Trials.{older}
use Rattle.chr_search.specs.Wholes.{WholeTrial}
use Rattle.chr_search.specs.declared.search.Then.{Then}
use Rattle.chr_calls.specs.Tickets.{Ticket, ended, ticket_at}
use Rattle.chr_tickets.specs.Passed.{gone_over}
use Rattle.chr_book.specs.Firings.{MakesFound}
use Rattle.chr_book.proofs.GoingOn.{finds}
use Rattle.chr_book.proofs.passing.pass_over.Goals as goal

pub push_found-requires : goal.push_found-requires
push_found-requires g c = (
  omega arith,
  λ is.
      let l = c.requires.active.0 in
      let over = c.pass_over-come.ensures.passed l c.requires.active.1 in
      subst (λ (w : WholeTrial). (rule : Simpagation ℕ) × (rule_at c.args.program.now w.number ≡ Some rule)) (sym c.whole.ensures)
      (finds (older c.args.program.now c.args.plans.now c.args.store.now.entries l) over.place c.pass_over-come.result.then c.pass_over-come.new.instance c.pass_over-come.new.bound over.next is).0,
)

pub returns-clause-ok : goal.returns-clause-ok
returns-clause-ok g c =
    let body = c.in_ok-push_found.ensures.ok in λ l is. record {
      binding = c.pass_over-come.new.bound;
      x = ticket_at c.pass_over-come.new.self c.args.ticket;
      over = c.pass_over-come.ensures.passed l is;
      more = body.0;
      made = subst (λ (w : WholeTrial). MakesFound c.args.program.now c.pass_over-come.result.then w c.pass_over-come.new.bound body.0) c.whole.ensures body.1;
      tickets = body.2 ∙ ap (λ (ts : List Ticket). ts ++ body.0) c.pass_over-come.ensures.others;
    }

pub returns-in_err-push_found-clause-err : goal.returns-in_err-push_found-clause-err
returns-in_err-push_found-clause-err g c =
    let l = c.requires.active.0 in
    let over = c.pass_over-come.ensures.passed l c.requires.active.1 in
    rw (err_from_is_err_and c.from_residual.result c.from_residual.ensures.1).1
    (c.in_err-push_found.ensures.err ∙ c.pass_over-come.ensures.others ∙ ap (slice_set c.args.tickets.now c.args.ticket) (over.after_is ∙ ap (λ (z : Then). gone_over z c.pass_over-come.result.count over.place (ticket_at c.args.tickets.now c.args.ticket)) c.in_err-push_found.ensures.found) ∙ set-get_or c.args.tickets.now c.args.ticket ended)
