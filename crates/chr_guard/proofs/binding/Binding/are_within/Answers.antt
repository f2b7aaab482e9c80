use Rattle.chr_guard.proofs.Bindings.{bound_within}
use Rattle.chr_guard.proofs.binding.Binding.are_within.Goals as goal

pub returns : goal.returns
returns g c x = bound_within c.self.inside.known.bits c.self.inside.variables x c.self.inside.bound.items c.args.self.now c.self.invariant c.self.view_is
