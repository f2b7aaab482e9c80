-- The labels of a key, in each way that they are kept.
use Rattle.std.specs.Prelude.{ℕ, List, [], ◌∷◌}
use Rattle.chr_store.specs.declared.labels.Kept.{Kept}
use Rattle.chr_store.specs.declared.labels.Kept.TheVariants as ways

abbrev pub kept_labels : {A : Type 0} → Kept A → List ℕ
kept_labels ways.None = []
kept_labels (ways.One label) = label ∷ []
kept_labels (ways.Many bucket) = bucket.value
