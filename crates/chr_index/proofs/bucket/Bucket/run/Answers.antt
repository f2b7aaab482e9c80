use Rattle.std.proofs.Common.{◌∙◌}
use Rattle.chr_index.proofs.Slots.{run_from, run_living}
use Rattle.chr_index.proofs.bucket.Bucket.run.Goals as goal

pub invariant_of-result : goal.invariant_of-result
invariant_of-result g c = run_from c.deref.result.now c.self.inside.slots.items c.self.inside.first c.deref.ensures.value c.self.invariant

pub returns : goal.returns
returns g c = run_living c.deref.result.now c.self.inside.slots.items c.self.inside.first c.deref.ensures.value c.self.invariant ∙ c.self.view_is
