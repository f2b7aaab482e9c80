use Rattle.std.proofs.Common.{◌≡◌, ◌∙◌, sym, arith}
use Rattle.std.proofs.lemmas.Bool.Decides.{nat_tests}
use Rattle.chr_crew.proofs.Runs.{worked_on}
use Rattle.chr_crew.proofs.before.Before.leads_to.Goals as goal
use Rattle.chr_crew.proofs.before.Before.leads_to.Goals.{then-continues, else-continues}

pub returns-then-same_names-clause-worked_on : goal.returns-then-same_names-clause-worked_on
returns-then-same_names-clause-worked_on g c = λ b kept same.
    let limit : c.limit.result ≡ c.args.self.now.limit = grind (arith, nat_tests) in
    elim c.if-continues.branch [
      | then-continues w ↦
          worked_on b c.args.book.now c.args.self.now c.args.workers kept c.read_headline.ensures.headline (c.continues.ensures.0 w.if-continues.true)
          (sym w.names.ensures.table ∙ w.same_names.ensures.0 (sym w.value-is ∙ c.if-same_names.true)) (sym c.limit.ensures ∙ limit)
      | else-continues w ↦ cc (w.value-is, c.if-same_names.true)
    ]
