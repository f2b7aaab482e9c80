use Rattle.laws_accepts.proofs.Fixed.{calls_accepted, strict_calls_accepted}
use Rattle.laws_accepts.proofs.laws.what_a_run_writes_is_accepted.Goals as goal

pub returns-clause-whole_log : goal.returns-clause-whole_log
returns-clause-whole_log g c = λ program posts steps limit. calls_accepted program posts steps limit c.args.log.now c.args.store.now c.args.answer.now

pub returns-clause-strict_log : goal.returns-clause-strict_log
returns-clause-strict_log g c = λ program posts steps limit. strict_calls_accepted program posts steps limit c.args.log.now c.args.store.now c.args.answer.now
