use Rattle.std.proofs.Common.{sym, subst}
use Rattle.std.proofs.lemmas.List.{take_more}
use Rattle.chr_commands.specs.Parts.{IsPartWith}
use Rattle.chr_commands.proofs.parts.part_with.Goals as goal

pub loop-source-preserved : goal.loop-source-preserved
loop-source-preserved c =
    subst (λ xs. IsPartWith xs c.args.line c.later_part-found.result)
    (sym (take_more c.args.log.now c.loop-source.source-index _ c.loop-source-test.true))
    (c.later_part-found.ensures _ c.loop-source.invariant)
