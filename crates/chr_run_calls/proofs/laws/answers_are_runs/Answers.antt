use Rattle.chr_run_calls.proofs.Runs.{answers_run}
use Rattle.chr_run_calls.proofs.laws.answers_are_runs.Goals as goal

pub returns : goal.returns
returns c = answers_run
