use Rattle.std.proofs.Common.{◌≡◌, ◌-◌, Some, None, false, get_or, slice_get, ap, ◌∙◌, arith}
use Rattle.std.proofs.Math.ListN.{set}
use Rattle.std.proofs.lemmas.List.{length-set}
use Rattle.std.proofs.lemmas.Option.{slice_get-get_or}
use Rattle.chr_search.specs.Joined.{join_of}
use Rattle.chr_search.proofs.AtHeads.{IsAtStep, at_step, steps_enough, put_next, all_put}
use Rattle.chr_search.proofs.at_heads.put_at_heads.Goals.{In-loop-i}
use Rattle.chr_search.proofs.at_heads.put_at_heads.Goals as goal

pub bounds-join-i : goal.bounds-join-i
bounds-join-i g c = omega (arith, steps_enough (join_of c.args.join.now) c.args.labels.now c.requires.trial.0 c.requires.trial.1)

-- the next step
step_is : (g : _) (c : In-loop-i g) → slice_get c.args.join.now.order.now c.loop-i.i ≡ Some (get_or c.args.join.now.order.now c.loop-i.i (record { head = 0; key = None; fresh = false }))
step_is g c =
    slice_get-get_or c.args.join.now.order.now c.loop-i.i (record { head = 0; key = None; fresh = false }) (omega (arith, steps_enough (join_of c.args.join.now) c.args.labels.now c.requires.trial.0 c.requires.trial.1))

here : (g : _) (c : In-loop-i g) → IsAtStep (join_of c.args.join.now) c.args.labels.now c.loop-i.i (get_or c.args.join.now.order.now c.loop-i.i (record { head = 0; key = None; fresh = false }))
here g c = at_step (join_of c.args.join.now) c.args.labels.now c.requires.trial.0 c.requires.trial.1 c.loop-i.i _ c.loop-i-test.true (step_is g c)

pub overflow_sub-heads : goal.overflow_sub-heads
overflow_sub-heads g c = omega (arith, c.from.ensures, (here g (goal.at.overflow_sub-heads g c).In-loop-i).from)

pub bounds-heads-from : goal.bounds-heads-from
bounds-heads-from g c =
    let at = here g (goal.at.bounds-heads-from g c).In-loop-i in
    omega (arith, c.from.ensures, at.from, at.to, c.requires.full, c.loop-i.invariant.0)

pub loop-i-preserved : goal.loop-i-preserved
loop-i-preserved g c =
    let j = join_of c.args.join.now in
    let ls = c.args.labels.now in
    let heads = c.loop-i.heads in (
      length-set heads _ _ ∙ c.loop-i.invariant.0,
      put_next j ls c.requires.trial.0 c.requires.trial.1 heads _ c.loop-i.i _ c.loop-i-test.true (step_is g (goal.at.loop-i-preserved g c).In-loop-i) (c.loop-i.invariant.0 ∙ c.requires.full) (ap (λ n. set heads (n - 1) (get_or ls c.loop-i.i 0)) c.from.ensures) c.loop-i.invariant.1,
    )

pub returns : goal.returns
returns g c =
    all_put (join_of c.args.join.now) c.args.labels.now c.requires.trial.0 c.requires.trial.1 c.loop-i.heads c.loop-i.i c.requires.full c.loop-i.invariant.0 c.loop-i-test.false c.loop-i.invariant.1
