use Rattle.std.proofs.Common.{length, ap, arith}
use Rattle.std.proofs.lemmas.List.{length-map}
use Rattle.chr_search.specs.Placed.{placed_as}
use Rattle.chr_search.proofs.Judging.{few_labels, count_of_view}
use Rattle.chr_search.proofs.position.Position.become_after.Goals as goal

pub push-requires : goal.push-requires
push-requires g c =
    let t = c.args.trial.now in
    let count = count_of_view c.self.inside.rule c.self.inside.head c.self.inside.labels.items t c.become_of.new.self c.self.view_is c.become_of.ensures.position in
    (omega arith, omega (arith, count, few_labels t c.become_of.ensures.formed, length-map c.placed.result.now placed_as, ap length c.placed.ensures.placed))
