use Rattle.laws_accepts.proofs.Checked.{accepted, strict_accepted}
use Rattle.laws_accepts.proofs.Seats.{seats_readable}
use Rattle.laws_accepts.proofs.laws.what_seats_write_is_accepted.Goals as goal

pub returns-clause-whole_log : goal.returns-clause-whole_log
returns-clause-whole_log g c = λ program limit end b le made. let r = seats_readable program limit b le made in accepted program r.0 b r.1 end c.args.answer.now

pub returns-clause-strict_log : goal.returns-clause-strict_log
returns-clause-strict_log g c = λ program limit b le made. let r = seats_readable program limit b le made in strict_accepted program r.0 b r.1 c.args.answer.now
