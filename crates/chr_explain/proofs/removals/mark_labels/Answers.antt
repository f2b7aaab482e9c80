use Rattle.std.proofs.Common.{inl, inr, arith}
use Rattle.chr_explain.proofs.Lists.{mark_more}
use Rattle.chr_explain.proofs.removals.mark_labels.Goals as goal
use Rattle.chr_explain.proofs.removals.mark_labels.Goals.{then-label-gt0+then-label-list, else-label-gt0, else-label-gt0-via-then-label-gt0+else-label-list, else-label-gt0-via-else-label-gt0}

pub loop-label-preserved : goal.loop-label-preserved
loop-label-preserved c =
    let i = c.loop-label.label-index in
    elim c.if-label-gt0.branch [
      | then-label-gt0+then-label-list w ↦ mark_more c.args.labels.now i c.args.place c.args.list.now c.loop-label.list c.if-label-gt0.list c.loop-label-test.true c.loop-label.invariant (inl (omega arith, omega arith, w.list-is))
      | else-label-gt0 w ↦ elim w.else-label-gt0.branch [
        | else-label-gt0-via-then-label-gt0+else-label-list w' ↦ mark_more c.args.labels.now i c.args.place c.args.list.now c.loop-label.list c.if-label-gt0.list c.loop-label-test.true c.loop-label.invariant (inr (inr (omega arith), w.list-is))
        | else-label-gt0-via-else-label-gt0 w' ↦ mark_more c.args.labels.now i c.args.place c.args.list.now c.loop-label.list c.if-label-gt0.list c.loop-label-test.true c.loop-label.invariant (inr (inl (omega arith), w.list-is))
      ]
    ]
