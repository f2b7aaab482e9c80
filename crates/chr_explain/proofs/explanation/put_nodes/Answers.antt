use Rattle.std.proofs.Common.{◌∙◌, ap, sym, List, ℕ, ◌++◌, arith}
use Rattle.std.proofs.lemmas.List.Folds.{flat_map-map}
use Rattle.chr_explain.specs.Reasons.{reason_of}
use Rattle.chr_explain.specs.Lines.{recorded_view}
use Rattle.chr_explain.specs.Graphs.{node}
use Rattle.chr_explain.proofs.Lists.{more_of, all_of}
use Rattle.chr_explain.proofs.explanation.put_nodes.Goals as goal

pub loop-reason-preserved : goal.loop-reason-preserved
loop-reason-preserved g c = more_of (λ r. node (recorded_view c.args.recorded.now) (reason_of {Z = g.row.A.Denot} r)) c.args.reasons.now _ _ _ c.loop-reason.reason-index c.reason-item.result c.loop-reason-test.true c.reason-item.is c.in_ok-put_node.ensures c.loop-reason.invariant

pub returns : goal.returns
returns g c =
    all_of (λ r. node (recorded_view c.args.recorded.now) (reason_of {Z = g.row.A.Denot} r)) c.args.reasons.now c.args.out.now.items c.loop-reason.out.items c.loop-reason.reason-index c.loop-reason-test.false c.loop-reason.invariant
    ∙ ap (λ (w : List ℕ). c.args.out.now.items ++ w) (sym (flat_map-map (node (recorded_view c.args.recorded.now)) (reason_of {Z = g.row.A.Denot}) c.args.reasons.now))
