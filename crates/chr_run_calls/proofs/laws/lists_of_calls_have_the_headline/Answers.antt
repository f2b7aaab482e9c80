use Rattle.chr_run_calls.proofs.Runs.{list_headline}
use Rattle.chr_run_calls.proofs.laws.lists_of_calls_have_the_headline.Goals as goal

pub returns : goal.returns
returns c = list_headline c.runs_have_the_headline.ensures
