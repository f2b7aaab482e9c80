use Rattle.std.proofs.Math.Seq.{take-length}
use Rattle.chr_text.proofs.Lists.{keeps_back}
use Rattle.chr_text.proofs.reading.read_text.Goals as goal

pub returns-in-Ok-clause-keeps : goal.returns-in-Ok-clause-keeps
returns-in-Ok-clause-keeps g c = keeps_back c.args.names.now c.add_items.new.names c.in-Ok.ensures.keeps

pub returns-clause-unchanged : goal.returns-clause-unchanged
returns-clause-unchanged g c = rw (c.truncate.ensures, c.len-before.ensures.value) (keeps_back c.args.names.now c.add_items.new.names c.in-Err.ensures.keeps)

pub returns-clause-keeps : goal.returns-clause-keeps
returns-clause-keeps g c = rw (returns-clause-unchanged g c) (take-length c.args.names.now)
