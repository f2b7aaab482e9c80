use Rattle.std.proofs.Common.{Some, None, ◌∙◌}
use Rattle.chr_index.proofs.Slots.{get_none, jump_got}
use Rattle.chr_index.proofs.Slots.{get_there}
use Rattle.chr_index.proofs.bucket.jump_at.Goals as goal

pub returns-in-None-clause-is : goal.returns-in-None-clause-is
returns-in-None-clause-is c = jump_got c.args.slots.now c.args.place None (get_none c.args.slots.now c.args.place c.in-None.ensures.lookup.0)

pub returns-in-Some-clause-is : goal.returns-in-Some-clause-is
returns-in-Some-clause-is c = c.jump.ensures.is ∙ jump_got c.args.slots.now c.args.place (Some c.in-Some.slot.now) (get_there c.args.slots.now c.args.place c.in-Some.slot.now c.in-Some.ensures.lookup.0 c.in-Some.ensures.lookup.1)
