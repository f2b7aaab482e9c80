use Rattle.std.proofs.Common.{sym, arith, ◌∙◌}
use Rattle.chr_search.proofs.Judging.{labels_of_view, count_of_view, last_small}
use Rattle.chr_search.proofs.position.Position.become_past.Goals as goal

pub overflow_add-last : goal.overflow_add-last
overflow_add-last g c =
    omega (arith, last_small c.args.trial.now c.become_of.ensures.formed c.pop.new.self.items c.in-Some.last (sym c.in-Some.ensures.items ∙ labels_of_view c.self.inside.rule c.self.inside.head c.self.inside.labels.items c.args.trial.now c.become_of.new.self c.self.view_is c.become_of.ensures.position))

pub returns-in_default : goal.returns-in_default
returns-in_default g c =
    let count = count_of_view c.self.inside.rule c.self.inside.head c.self.inside.labels.items c.args.trial.now c.become_of.new.self c.self.view_is c.become_of.ensures.position in
    absurd (let z = c.in_default.ensures.variant.1 (omega (arith, count, c.become_of.ensures.formed.some)) in cc)
