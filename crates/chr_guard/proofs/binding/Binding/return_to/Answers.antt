use Rattle.chr_guard.proofs.Bindings.{returns_to}
use Rattle.chr_guard.proofs.binding.Binding.return_to.Goals as goal

pub invariant_of-self : goal.invariant_of-self
invariant_of-self g c = (returns_to c.self.inside.known.bits c.args.known.bits c.self.inside.variables c.self.inside.bound.items c.args.self.now c.requires.0 c.self.invariant c.self.view_is c.requires.1 c.requires.2).0

pub returns : goal.returns
returns g c before are keeps = (returns_to c.self.inside.known.bits c.args.known.bits c.self.inside.variables c.self.inside.bound.items c.args.self.now before c.self.invariant c.self.view_is are keeps).1
