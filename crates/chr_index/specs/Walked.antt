-- The labels of a key, in each way that they are gone through.
use Rattle.std.specs.Prelude.{ℕ, List, [], ◌∷◌}
use Rattle.chr_index.specs.declared.matches.Walk.{Walk}
use Rattle.chr_index.specs.declared.matches.Walk.TheVariants as walks

abbrev pub walked_labels : Walk → List ℕ
walked_labels (walks.One label) = label ∷ []
walked_labels (walks.Many run) = run
