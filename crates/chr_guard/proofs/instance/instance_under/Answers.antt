use Rattle.std.proofs.Common.{map}
use Rattle.chr_guard.proofs.Whole.{no_fit}
use Rattle.chr_guard.proofs.instance.instance_under.Goals as goal

pub returns-in_err-binding : goal.returns-in_err-binding
returns-in_err-binding g c = rw c.from_residual.ensures (no_fit c.args.rule.now (map (λ a. a.now) c.args.atoms.now) c.in_err-binding.ensures)
