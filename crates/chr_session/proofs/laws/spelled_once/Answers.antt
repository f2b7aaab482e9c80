use Rattle.chr_session.proofs.FirstSpelled.{spells_once}
use Rattle.chr_session.proofs.laws.spelled_once.Goals as goal

pub returns : goal.returns
returns c = spells_once
