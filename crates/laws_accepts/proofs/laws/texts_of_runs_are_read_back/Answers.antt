use Rattle.std.proofs.Common.{refl}
use Rattle.chr_solo.specs.declared.solo.End.TheVariants.{Quiet}
use Rattle.laws_accepts.proofs.Checked.{text_run_readable, log_is_read, strict_log_is_read, store_is_read}
use Rattle.laws_accepts.proofs.laws.texts_of_runs_are_read_back.Goals as goal

pub returns-clause-log : goal.returns-clause-log
returns-clause-log c = λ program posts steps limit end b le run. log_is_read program run.read b (text_run_readable program posts steps limit end b le run) end

pub returns-clause-strict_log : goal.returns-clause-strict_log
returns-clause-strict_log c = λ program posts steps limit b le run. strict_log_is_read program run.read b (text_run_readable program posts steps limit Quiet b le run) (run.quiet.0 refl)

pub returns-clause-store : goal.returns-clause-store
returns-clause-store c = λ program posts steps limit end b le run. store_is_read program run.read b (text_run_readable program posts steps limit end b le run) end
