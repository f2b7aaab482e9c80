use Rattle.std.proofs.Common.{◌∙◌}
use Rattle.chr_value.proofs.ArgumentLaws.{among-first}
use Rattle.chr_value.proofs.slots.Front.at.Goals as goal

pub returns : goal.returns
returns c = c.slot_at.ensures ∙ among-first c.args.self.now.kinds c.args.self.now.words c.args.self.now.arity c.args.index c.requires.within
