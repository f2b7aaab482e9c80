use Rattle.chr_session.proofs.LaidOut.{log_read}
use Rattle.chr_session.proofs.laws.log_is_read.Goals as goal

pub returns : goal.returns
returns c = log_read
