use Rattle.chr_model.specs.Programs.{Instances}
use Rattle.chr_model.proofs.Once.{Lawful-once}
use Rattle.chr_model.proofs.Older.{store_once, store_below, store_given, store_from_one}
use Rattle.chr_model.proofs.laws.stores_have_given_labels.Goals as goal

pub returns-clause-once : goal.returns-clause-once
returns-clause-once c = λ v rules log last run. store_once last (Lawful-once v (Instances rules) log last run)

pub returns-clause-given : goal.returns-clause-given
returns-clause-given c = λ v rules. store_given v (Instances rules)

pub returns-clause-below : goal.returns-clause-below
returns-clause-below c = λ v rules log last run l a h.
    (store_from_one v (Instances rules) log last run l a h, store_below last (Lawful-once v (Instances rules) log last run) l a h)
