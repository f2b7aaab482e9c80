use Rattle.std.proofs.Common.{sym, rules}
use Rattle.chr_index.proofs.Slots.{below_last}
use Rattle.chr_index.proofs.bucket.is_below.Goals as goal

pub returns-in-Some : goal.returns-in-Some
returns-in-Some c = λ t. below_last c.args.slots.now c.in-Some.last.now c.args.label c.requires (sym c.in-Some.ensures.value) (search rules)
