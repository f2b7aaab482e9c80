use Rattle.std.proofs.Common.{ap}
use Rattle.std.proofs.lemmas.Result.{err_from_is_err_and}
use Rattle.chr_grammar.specs.Views as by_texts
use Rattle.chr_limits.specs.Views.{names as texts}
use Rattle.chr_text.specs.Numbering.{or_full}
use Rattle.chr_text.specs.Translation as raw
use Rattle.chr_text.proofs.InScope.{first_room}
use Rattle.chr_text.proofs.Lists.{numbered_is, first_fails, second_fails, pair_numbered}
use Rattle.chr_text.proofs.build.number_pair.Goals as goal

pub number_term-requires-clause-room : goal.number_term-requires-clause-room
number_term-requires-clause-room g c = first_room (texts c.args.seen.now.items) (by_texts.term {Z = g.row.A.Denot} c.args.left.now) (by_texts.term {Z = g.row.A.Denot} c.args.right.now) c.requires.room

pub returns-in_err-left-clause-gives : goal.returns-in_err-left-clause-gives
returns-in_err-left-clause-gives g c =
    let p = err_from_is_err_and c.from_residual.result c.from_residual.ensures.1 in
    let left = raw.argument (texts c.args.seen.now.items) (by_texts.term {Z = g.row.A.Denot} c.args.left.now) in
    rw (p.1, p.2) (first_fails c.in_err-left.field-0.0 c.args.names.now left.0 (raw.argument left.1 (by_texts.term {Z = g.row.A.Denot} c.args.right.now)).0 c.in_err-left.ensures.gives)

pub returns-in_err-right-clause-gives : goal.returns-in_err-right-clause-gives
returns-in_err-right-clause-gives g c =
    let p = err_from_is_err_and c.from_residual-in_err-right.result c.from_residual-in_err-right.ensures.1 in
    let left = raw.argument (texts c.args.seen.now.items) (by_texts.term {Z = g.row.A.Denot} c.args.left.now) in
    rw (p.1, p.2) (second_fails c.in_err-right.field-0.0 c.args.names.now c.number_term.new.names left.0 (raw.argument left.1 (by_texts.term {Z = g.row.A.Denot} c.args.right.now)).0 _ c.in_ok-left.ensures.gives (rw (← c.in_ok-left.ensures.seen) c.in_err-right.ensures.gives))

pub returns-clause-gives : goal.returns-clause-gives
returns-clause-gives g c =
    let left = raw.argument (texts c.args.seen.now.items) (by_texts.term {Z = g.row.A.Denot} c.args.left.now) in
    ap or_full (pair_numbered c.args.names.now c.number_term.new.names c.number_term-2.new.names left.0 (raw.argument left.1 (by_texts.term {Z = g.row.A.Denot} c.args.right.now)).0 _ _ (numbered_is _ _ c.in_ok-left.ensures.gives) (numbered_is _ _ (rw (← c.in_ok-left.ensures.seen) c.in_ok-right.ensures.gives)))
