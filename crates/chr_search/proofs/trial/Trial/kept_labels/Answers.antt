use Rattle.std.proofs.Common.{inl}
use Rattle.chr_rule.specs.Parts.{shape}
use Rattle.chr_search.proofs.Judging.{read_few}
use Rattle.chr_search.proofs.trial.Trial.kept_labels.Goals as goal

pub labels_from-requires-clause-count : goal.labels_from-requires-clause-count
labels_from-requires-clause-count g c = read_few _ c.kept.ensures.valid shape c.kept.result.now (inl c.kept.ensures.heads)
