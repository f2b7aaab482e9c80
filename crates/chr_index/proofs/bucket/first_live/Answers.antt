use Rattle.std.proofs.Common.{ℕ, ◌+◌, ◌≤◌, length, ap, subst, sym, ◌∙◌, eq-eqb}
use Rattle.chr_index.proofs.Slots.{live_at, none_at, jump_in, jump_within, jump_living}
use Rattle.chr_index.proofs.bucket.first_live.Goals as goal

pub loop-place-preserved : goal.loop-place-preserved
loop-place-preserved c =
    let e = c.jump.ensures.is ∙ jump_in c.args.slots.now c.loop-place.place _ c.loop-place-test.true in
    record {
      within = subst (λ (n : ℕ). c.loop-place.place + n ≤ length c.args.slots.now) (sym e) (jump_within c.args.slots.now c.loop-place.place c.loop-place.invariant.within c.requires.jumps);
      rest = c.loop-place.invariant.rest ∙ jump_living c.args.slots.now c.loop-place.place _ (ap (λ (n : ℕ). c.loop-place.place + n) e) c.requires.jumps;
    }

pub returns-else-slots-place-ne0-clause-live : goal.returns-else-slots-place-ne0-clause-live
returns-else-slots-place-ne0-clause-live c = live_at c.args.slots.now c.loop-place.place _ c.loop-place-test.true (eq-eqb _ 0 c.if-slots-place-ne0.false)

pub returns-after-loop-place-clause-live : goal.returns-after-loop-place-clause-live
returns-after-loop-place-clause-live c = none_at c.args.slots.now c.loop-place.place c.loop-place-test.false
