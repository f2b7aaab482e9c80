use Rattle.std.proofs.Common.{arith}
use Rattle.chr_search.proofs.Judging.{few_heads, count_of_view}
use Rattle.chr_search.proofs.position.Position.become_just_after.Goals as goal

pub push-requires : goal.push-requires
push-requires g c =
    let t = c.args.trial.now in
    let count = count_of_view c.self.inside.rule c.self.inside.head c.self.inside.labels.items t c.become_of.new.self c.self.view_is c.become_of.ensures.position in
    (omega arith, omega (arith, count, c.requires.left, few_heads t.rule c.become_of.ensures.formed.scoped))
