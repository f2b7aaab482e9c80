use Rattle.std.proofs.Common.{◌≡◌, ◌++◌, ◌∙◌, ℕ, List, codes, slice_get, ap, arith}
use Rattle.std.specs.Fmt.{decimal}
use Rattle.chr_explain.specs.Reasons.{reason_of}
use Rattle.chr_explain.specs.Lines.{recorded_view, cause_line}
use Rattle.chr_explain.specs.Graphs.{quoted, arrows}
use Rattle.chr_explain.proofs.Known.{on_ok_from}
use Rattle.chr_explain.proofs.Lists.{after_two}
use Rattle.chr_explain.proofs.dot.put_node.Goals as goal

pub returns : goal.returns
returns g c =
    let view = recorded_view c.args.recorded.now in
    let words = cause_line view (reason_of {Z = g.row.A.Denot} c.args.reason.now) in
    let line : c.deref.result.now ≡ words = c.deref.ensures.value ∙ (c.in_ok-put_cause.ensures ∙ ap (λ (l : List ℕ). l ++ words) c.clear.ensures.items) in
    let label = c.args.reason.now.cause.label in
    let heads = arrows label (slice_get view.log c.args.reason.now.cause.origin.made) in
    let new = c.put_head_arrows.new.out.items in
    on_ok_from c.put_head_arrows.result c.put_head_arrows.ensures (λ is.
    after_two c.args.out.now.items c.extend_from_slice.new.self.items new (codes "  ") _ c.in_ok-extend_from_slice.ensures.items
    (after_two c.extend_from_slice.new.self.items c.put_number.new.out.items new (decimal label) _ c.in_ok-put_number.ensures.writes
    (after_two c.put_number.new.out.items c.extend_from_slice-2.new.self.items new (codes " [label=") _ c.in_ok-extend_from_slice-2.ensures.items
    (after_two c.extend_from_slice-2.new.self.items c.put_quoted.new.out.items new (quoted words) _ (c.in_ok-put_quoted.ensures ∙ ap (λ (l : List ℕ). c.extend_from_slice-2.new.self.items ++ quoted l) line)
    (after_two c.put_quoted.new.out.items c.extend_from_slice-3.new.self.items new (codes "];\n") heads c.in_ok-extend_from_slice-3.ensures.items is)))))
