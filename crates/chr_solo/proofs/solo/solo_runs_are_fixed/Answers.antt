use Rattle.chr_solo.specs.Solo.{Nothing}
use Rattle.chr_solo.proofs.SoloRuns.{run_same, solo_same, cut_begins}
use Rattle.chr_solo.proofs.solo.solo_runs_are_fixed.Goals as goal

pub returns-clause-runs : goal.returns-clause-runs
returns-clause-runs c = λ seat calls b m n known other. run_same seat calls b Nothing m n known other

pub returns-clause-solos : goal.returns-clause-solos
returns-clause-solos c = solo_same

pub returns-clause-beginnings : goal.returns-clause-beginnings
returns-clause-beginnings c = cut_begins
