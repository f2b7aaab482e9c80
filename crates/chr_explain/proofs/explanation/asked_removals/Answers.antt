use Rattle.std.proofs.Common.{length, arith}
use Rattle.chr_log.specs.Events.{events_of}
use Rattle.chr_explain.specs.Reasons.{AreRemovals, HasRemovals}
use Rattle.chr_explain.proofs.ExplainedTexts.{if_ok, asked}
use Rattle.chr_explain.proofs.explanation.asked_removals.Goals as goal

pub returns-then-gone : goal.returns-then-gone
returns-then-gone g c =
    let log = events_of c.args.events.now in
    let atoms = c.args.atoms.now in
    let causes = c.args.causes.now in
    if_ok c.removals.result (λ v. AreRemovals log (length atoms) v.items) (λ v. HasRemovals c.args.gone log causes v.items)
    (λ v are. asked c.args.program.now log atoms v.items causes c.args.gone c.if-gone.true c.requires.atoms c.requires.origins are) c.removals.ensures
