use Rattle.std.proofs.Common.{◌∙◌, ap, sym, List, [], ◌∷◌, ℕ, ◌++◌, append_assoc, arith}
use Rattle.std.proofs.lemmas.List.Folds.{flat_map-map}
use Rattle.chr_explain.specs.Reasons.{Reason, reason_of}
use Rattle.chr_explain.specs.Lines.{recorded_view, cause_line}
use Rattle.chr_explain.proofs.Lists.{more_of, all_of}
use Rattle.chr_explain.proofs.explanation.put_lines.Goals as goal

pub loop-reason-preserved : goal.loop-reason-preserved
loop-reason-preserved g c =
    let line = cause_line (recorded_view c.args.recorded.now) (reason_of {Z = g.row.A.Denot} c.reason-item.result) in
    let both = c.in_ok-push.ensures.items ∙ ap (λ (w : List ℕ). w ++ 10 ∷ []) c.in_ok-put_cause.ensures ∙ append_assoc c.loop-reason.out.items line (10 ∷ []) in
    more_of (λ r. cause_line (recorded_view c.args.recorded.now) (reason_of {Z = g.row.A.Denot} r) ++ 10 ∷ []) c.args.reasons.now _ _ _ c.loop-reason.reason-index c.reason-item.result c.loop-reason-test.true c.reason-item.is both c.loop-reason.invariant

pub returns : goal.returns
returns g c =
    all_of (λ r. cause_line (recorded_view c.args.recorded.now) (reason_of {Z = g.row.A.Denot} r) ++ 10 ∷ []) c.args.reasons.now c.args.out.now.items c.loop-reason.out.items c.loop-reason.reason-index c.loop-reason-test.false c.loop-reason.invariant
    ∙ ap (λ (w : List ℕ). c.args.out.now.items ++ w) (sym (flat_map-map (λ (reason : Reason). cause_line (recorded_view c.args.recorded.now) reason ++ 10 ∷ []) (reason_of {Z = g.row.A.Denot}) c.args.reasons.now))
