use Rattle.std.proofs.Common.{ap}
use Rattle.std.proofs.lemmas.Result.{err_from_is_err_and}
use Rattle.chr_grammar.specs.Views as by_texts
use Rattle.chr_limits.specs.Views.{names as texts}
use Rattle.chr_text.proofs.Writable.{value_room, value_fails, never_functor}
use Rattle.chr_text.proofs.posts.number_value.Goals as goal

pub number_term-requires-clause-room : goal.number_term-requires-clause-room
number_term-requires-clause-room g c = value_room (texts c.new-seen.result.items) (by_texts.term {Z = g.row.A.Denot} c.args.term.now) (ap texts c.new-seen.ensures) c.requires

pub returns-in_err-value-clause-gives : goal.returns-in_err-value-clause-gives
returns-in_err-value-clause-gives g c =
    let p = err_from_is_err_and c.from_residual.result c.from_residual.ensures.1 in
    rw (p.1, p.2) (value_fails c.in_err-value.field-0.0 c.args.names.now (texts c.new-seen.result.items) (by_texts.term {Z = g.row.A.Denot} c.args.term.now) (ap texts c.new-seen.ensures) c.requires c.in_err-value.ensures.gives)

pub unreachable-requires-in-Open : goal.unreachable-requires-in-Open
unreachable-requires-in-Open g c =
    never_functor c.args.names.now _ (texts c.new-seen.result.items) (by_texts.term {Z = g.row.A.Denot} c.args.term.now) c.in_ok-value.field-0 c.in-Open.field-0 (ap texts c.new-seen.ensures) c.requires c.in-Open.is c.in_ok-value.ensures.gives
