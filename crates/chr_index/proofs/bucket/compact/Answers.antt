use Rattle.std.proofs.Common.{rules}
use Rattle.chr_index.specs.Buckets.{is_live}
use Rattle.chr_index.proofs.bucket.compact.Goals as goal
use Rattle.std.proofs.lemmas.List.Elements.{filter_from_retain}

pub returns : goal.returns
returns g c = filter_from_retain _ is_live (λ p x b q r. search rules) _ _ _ c.retain.ensures.filtered
