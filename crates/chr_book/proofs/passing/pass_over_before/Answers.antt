use Rattle.std.proofs.Common.{◌≡◌, ℕ, Some, sym, subst, arith}
use Rattle.chr_rule.specs.Rules.{Simpagation, rule_at}
use Rattle.chr_store.specs.Labels.{entered}
use Rattle.chr_search.specs.Trials.{older}
use Rattle.chr_search.specs.Wholes.{WholeTrial}
use Rattle.chr_book.specs.Firings.{MakesFound}
use Rattle.chr_book.proofs.GoingOn.{finds}
use Rattle.chr_book.proofs.passing.pass_over_before.Goals as goal

pub push_found-requires : goal.push_found-requires
push_found-requires g c = (
  omega arith,
  λ is.
      let over = c.pass_over_before-come.ensures.passed in
      subst (λ (w : WholeTrial). (rule : Simpagation ℕ) × (rule_at c.args.program.now w.number ≡ Some rule)) (sym c.whole.ensures)
      (finds (older c.args.program.now c.args.plans.now (entered c.args.store.now c.args.atom.now).entries c.args.search.now.label) over.after c.pass_over_before-come.result.then c.pass_over_before-come.new.instance c.pass_over_before-come.new.bound over.next is).0,
)

pub returns-clause-ok : goal.returns-clause-ok
returns-clause-ok g c =
    let body = c.in_ok-push_found.ensures.ok in
    record {
      binding = c.pass_over_before-come.new.bound;
      over = c.pass_over_before-come.ensures.passed;
      more = body.0;
      made = subst (λ (w : WholeTrial). MakesFound c.args.program.now c.pass_over_before-come.result.then w c.pass_over_before-come.new.bound body.0) c.whole.ensures body.1;
      tickets = body.2;
    }
