use Rattle.chr_guard.proofs.Whole.{is_body, no_body, no_arguments, carried_on, if_ok_as}
use Rattle.chr_guard.proofs.body.body.Goals as goal

pub returns : goal.returns
returns g c =
    if_ok_as c.added_atoms.result
    (λ made. carried_on made
    (no_arguments c.args.rule.now c.args.binding.now c.widened-all.result c.widened-all.ensures.same c.bind_body.new.binding c.if-not-bind_body.ensures.completed)
    (λ atoms is. is_body c.args.rule.now c.args.binding.now c.widened-all.result c.widened-all.ensures.same c.bind_body.new.binding atoms.items c.if-not-bind_body.ensures.completed is))
    c.added_atoms.ensures

pub returns-then-not-bind_body : goal.returns-then-not-bind_body
returns-then-not-bind_body g c = no_body c.args.rule.now c.args.binding.now c.widened-all.result c.widened-all.ensures.same c.if-not-bind_body.ensures.completed
