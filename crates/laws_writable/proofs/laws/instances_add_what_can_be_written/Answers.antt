use Rattle.laws_writable.proofs.Rules.{added_writable}
use Rattle.laws_writable.proofs.laws.instances_add_what_can_be_written.Goals as goal

pub returns : goal.returns
returns c = added_writable
