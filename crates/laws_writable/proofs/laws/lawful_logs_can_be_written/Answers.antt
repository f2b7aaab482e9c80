use Rattle.laws_writable.proofs.Entries.{log_writable, store_writable}
use Rattle.laws_writable.proofs.laws.lawful_logs_can_be_written.Goals as goal

pub returns-clause-log : goal.returns-clause-log
returns-clause-log c = log_writable

pub returns-clause-store : goal.returns-clause-store
returns-clause-store c = store_writable
