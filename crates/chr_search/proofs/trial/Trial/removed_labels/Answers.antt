use Rattle.std.proofs.Common.{arith, inl, inr}
use Rattle.chr_rule.specs.Parts.{shape}
use Rattle.chr_search.proofs.Judging.{read_few}
use Rattle.chr_search.proofs.trial.Trial.removed_labels.Goals as goal

pub overflow_add-kept : goal.overflow_add-kept
overflow_add-kept g c = omega (arith, read_few _ c.kept.ensures.valid shape c.kept.result.now (inl c.kept.ensures.heads))

pub labels_from-requires-clause-first : goal.labels_from-requires-clause-first
labels_from-requires-clause-first g c = omega (arith, read_few _ c.kept.ensures.valid shape c.kept.result.now (inl c.kept.ensures.heads))

pub labels_from-requires-clause-count : goal.labels_from-requires-clause-count
labels_from-requires-clause-count g c = read_few _ c.removed.ensures.valid shape c.removed.result.now (inr c.removed.ensures.heads)
