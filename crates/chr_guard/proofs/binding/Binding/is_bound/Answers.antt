use Rattle.chr_guard.proofs.Bindings.{known_bits}
use Rattle.chr_guard.proofs.binding.Binding.is_bound.Goals as goal

pub returns-then-from-self : goal.returns-then-from-self
returns-then-from-self g c =
    let known = known_bits c.self.inside.known.bits c.self.inside.variables c.self.inside.bound.items c.args.self.now c.self.invariant c.self.view_is c.args.variable in
    (λ has. known.0 (c.has.ensures.0 has), λ some. c.has.ensures.1 (known.1 some))
