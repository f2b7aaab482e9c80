use Rattle.std.proofs.Common.{◌+◌, ◌*◌}
use Rattle.chr_grammar.proofs.Lists.{rank}
use Rattle.chr_grammar.proofs.expression.+expression.Given as goal

abbrev pub decreases-sum : goal.decreases-sum
decreases-sum g l = 100 * l.room

abbrev pub decreases-sides : goal.decreases-sides
decreases-sides g l = 100 * l.room + 19 + rank l.level

abbrev pub decreases-side : goal.decreases-side
decreases-side g l = 100 * l.room + 2 + rank l.level

abbrev pub decreases-factor : goal.decreases-factor
decreases-factor g l = 100 * l.room + 1

abbrev pub decreases-more_sides : goal.decreases-more_sides
decreases-more_sides g l = 100 * l.room + 3 + rank l.level + l.count
