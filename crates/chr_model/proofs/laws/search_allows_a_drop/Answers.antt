use Rattle.chr_model.specs.Programs.{Instances}
use Rattle.chr_model.proofs.Once.{Lawful-once}
use Rattle.chr_model.proofs.Older.{Run-none, search_done}
use Rattle.chr_model.proofs.laws.search_allows_a_drop.Goals as goal

pub returns-clause-later : goal.returns-clause-later
returns-clause-later c = λ v rules. Run-none v (Instances rules)

pub returns-clause-drop : goal.returns-clause-drop
returns-clause-drop c = λ v rules log last run l. search_done (Instances rules) last l (Lawful-once v (Instances rules) log last run)
