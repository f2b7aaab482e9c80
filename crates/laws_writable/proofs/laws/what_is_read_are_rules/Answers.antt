use Rattle.laws_writable.proofs.Rules.{program_held, rules_whole}
use Rattle.laws_writable.proofs.laws.what_is_read_are_rules.Goals as goal

pub returns-clause-rules : goal.returns-clause-rules
returns-clause-rules c = λ table bytes p h. rules_whole p.1 p.0 (program_held table bytes p h).0

pub returns-clause-few : goal.returns-clause-few
returns-clause-few c = λ table bytes p h. (program_held table bytes p h).1
