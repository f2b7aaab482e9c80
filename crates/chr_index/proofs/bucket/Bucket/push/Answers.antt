use Rattle.std.proofs.Common.{◌<◌, List, sym, subst, rules}
use Rattle.std.specs.List.{AllByRecursion}
use Rattle.chr_index.specs.declared.bucket.Slot.{Slot}
use Rattle.chr_index.proofs.Slots.{IsReady, kept_ready, pushed_bucket, pushed_living}
use Rattle.chr_index.proofs.bucket.Bucket.push.Given.{Over}
use Rattle.chr_index.proofs.bucket.Bucket.push.Goals as goal
use Rattle.chr_index.proofs.bucket.Bucket.push.Goals.{then-not-is_below, else-not-is_below, After-push}

ready : (g : Over) (c : After-push g) → IsReady c.args.label c.args.self.now c.if-not-is_below.self-inside.slots.items c.if-not-is_below.self-inside.first
ready g c = elim c.if-not-is_below.branch [
  | then-not-is_below w ↦ rw w.self-inside-is (subst (λ (z : List Slot). IsReady c.args.label c.args.self.now z 0) (sym w.compact.ensures) (kept_ready c.args.label c.args.self.now c.self.inside.slots.items c.self.invariant.rising c.self.view_is c.requires.below))
  | else-not-is_below w ↦ rw w.self-inside-is (record { bucket = c.self.invariant; below = subst (λ (z : List Slot). AllByRecursion (λ s. s.label < c.args.label) z) c.deref.ensures.value (c.is_below.ensures (search rules)); same = c.self.view_is })
]

pub invariant_of-self : goal.invariant_of-self
invariant_of-self g c = rw (c.in_default.ensures.items) (ready g (goal.at.invariant_of-self g c).After-push).bucket

pub returns-in_default-clause-unchanged : goal.returns-in_default-clause-unchanged
returns-in_default-clause-unchanged g c = rw (c.in_default.ensures.items) (ready g (goal.at.returns-in_default-clause-unchanged g c).After-push).same

pub invariant_of-self-2 : goal.invariant_of-self-2
invariant_of-self-2 g c = rw (c.in-Ok.ensures.items) (pushed_bucket _ _ _ _ (ready g (goal.at.invariant_of-self-2 g c).After-push))

pub returns-clause-ok : goal.returns-clause-ok
returns-clause-ok g c = rw (c.in-Ok.ensures.items) (pushed_living _ _ _ _ (ready g (goal.at.returns-clause-ok g c).After-push))
