use Rattle.std.proofs.Common.{◌-◌, length, arith, ◌∙◌, refl}
use Rattle.chr_lex.proofs.Cutting.{item_last, item_inner}
use Rattle.chr_lex.proofs.item.item_at.Goals as goal

pub returns-in-empty-clause-same : goal.returns-in-empty-clause-same
returns-in-empty-clause-same c =
    item_last c.args.line c.item_len.result c.args.text.now c.split_at.result.0.now c.split_at.result.1.now c.requires.some c.requires.first c.item_len.ensures.within c.item_len.ensures.taken c.item_len.ensures.ended.0 c.split_at.ensures.front c.split_at.ensures.back c.in-empty.len_below
    ∙ rw c.lines_after-next_line.ensures.same refl

pub returns-in-len1-up-clause-same : goal.returns-in-len1-up-clause-same
returns-in-len1-up-clause-same c =
    item_inner c.args.line c.item_len.result (length c.split_at.result.1.now - 1) c.args.text.now c.split_at.result.0.now c.split_at.result.1.now c.requires.some c.requires.first c.item_len.ensures.within c.item_len.ensures.taken c.item_len.ensures.ended.1 c.split_at.ensures.front c.split_at.ensures.back c.in-len1-up.len_at_least (omega arith)
    ∙ rw c.lines_after-next_line.ensures.same refl
