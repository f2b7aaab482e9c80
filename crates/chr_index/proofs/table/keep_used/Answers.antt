use Rattle.std.proofs.Common.{rules}
use Rattle.std.proofs.lemmas.List.Elements.{filter_from_retain}
use Rattle.chr_index.specs.Chains.{has_labels}
use Rattle.chr_index.proofs.table.keep_used.Goals as goal

pub returns-clause-used : goal.returns-clause-used
returns-clause-used g c = filter_from_retain _ has_labels (λ p x b q r. search rules) _ _ _ c.retain.ensures.filtered
