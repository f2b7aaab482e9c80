use Rattle.std.proofs.Common.{[], arith, refl}
use Rattle.chr_crew.proofs.Lists.{same_reads}
use Rattle.chr_crew.proofs.before.same_names.Goals as goal

pub returns : goal.returns
returns g c = (
  λ _. same_reads [] c.args.names.now c.args.others.now (omega arith) (λ k within. c.loop-number.invariant k (omega (arith, within))),
  λ _. refl,
)
