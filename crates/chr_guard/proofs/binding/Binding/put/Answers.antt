use Rattle.chr_guard.proofs.Bindings.{put_at}
use Rattle.chr_guard.proofs.binding.Binding.put.Goals as goal

pub invariant_of-self : goal.invariant_of-self
invariant_of-self g c =
    (put_at c.self.inside.known.bits c.with-self-inside.result.bits c.self.inside.variables c.args.variable c.from.result c.self.inside.bound.items c.deref_mut.result.now c.args.value c.args.self.now
    c.self.invariant c.self.view_is c.requires.place c.deref_mut.ensures.value c.from.ensures c.requires.within c.with-self-inside.ensures.here c.with-self-inside.ensures.others).0

pub returns : goal.returns
returns g c =
    (put_at c.self.inside.known.bits c.with-self-inside.result.bits c.self.inside.variables c.args.variable c.from.result c.self.inside.bound.items c.deref_mut.result.now c.args.value c.args.self.now
    c.self.invariant c.self.view_is c.requires.place c.deref_mut.ensures.value c.from.ensures c.requires.within c.with-self-inside.ensures.here c.with-self-inside.ensures.others).1
