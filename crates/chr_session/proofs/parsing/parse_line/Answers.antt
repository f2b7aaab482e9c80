use Rattle.std.proofs.Common.{inl, inr, codes, sym, ◌∙◌}
use Rattle.chr_session.proofs.Words.{parsed_quit, parsed_unknown, compared}
use Rattle.chr_session.proofs.parsing.parse_line.Goals as goal
use Rattle.chr_session.proofs.parsing.parse_line.Goals.{else-eq-6-via-then-eq-6+else-is_empty-3, else-eq-6-via-else-eq-6}

pub returns-then-is_empty-3 : goal.returns-then-is_empty-3
returns-then-is_empty-3 c =
    parsed_quit c.args.word.now (sym c.is_empty.ensures ∙ c.if-is_empty.false) (compared c.args.word.now c.as_slice.result.now (codes "load") c.eq.ensures c.as_slice.ensures c.if-eq.false) (compared c.args.word.now c.as_slice-2.result.now (codes "post") c.eq-2.ensures c.as_slice-2.ensures c.if-eq-2.false) (compared c.args.word.now c.as_slice-3.result.now (codes "wait") c.eq-3.ensures c.as_slice-3.ensures c.if-eq-3.false) (compared c.args.word.now c.as_slice-4.result.now (codes "store") c.eq-4.ensures c.as_slice-4.ensures c.if-eq-4.false) (compared c.args.word.now c.as_slice-5.result.now (codes "log") c.eq-5.ensures c.as_slice-5.ensures c.if-eq-5.false)
    c.args.rest.now (compared c.args.word.now c.as_slice-6.result.now (codes "quit") c.eq-6.ensures c.as_slice-6.ensures c.if-eq-6.true) (sym c.is_empty-then-eq-6.ensures ∙ c.if-is_empty-3.true)

pub returns : goal.returns
returns c =
    parsed_unknown c.args.word.now (sym c.is_empty.ensures ∙ c.if-is_empty.false) (compared c.args.word.now c.as_slice.result.now (codes "load") c.eq.ensures c.as_slice.ensures c.if-eq.false) (compared c.args.word.now c.as_slice-2.result.now (codes "post") c.eq-2.ensures c.as_slice-2.ensures c.if-eq-2.false) (compared c.args.word.now c.as_slice-3.result.now (codes "wait") c.eq-3.ensures c.as_slice-3.ensures c.if-eq-3.false) (compared c.args.word.now c.as_slice-4.result.now (codes "store") c.eq-4.ensures c.as_slice-4.ensures c.if-eq-4.false) (compared c.args.word.now c.as_slice-5.result.now (codes "log") c.eq-5.ensures c.as_slice-5.ensures c.if-eq-5.false)
    c.args.rest.now (elim c.else-eq-6.branch [
      | else-eq-6-via-then-eq-6+else-is_empty-3 w ↦ inr (sym w.is_empty-then-eq-6.ensures ∙ w.if-is_empty-3.false)
      | else-eq-6-via-else-eq-6 w ↦ inl (compared c.args.word.now c.as_slice-6.result.now (codes "quit") c.eq-6.ensures c.as_slice-6.ensures w.if-eq-6.false)
    ])
