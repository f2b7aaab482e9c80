-- What is read of the files of a command.
use Rattle.std.specs.Prelude.{ℕ, List, map}
use Rattle.chr_value.specs.Bounds.{most_text_bytes}
use Rattle.chr_commands.specs.declared.message.Text.{Text}
use Rattle.chr_commands.specs.declared.message.Text.TheVariants as texts

-- the most bytes of a text
abbrev pub most_bytes : Text → ℕ
most_bytes texts.Program = most_text_bytes
most_bytes texts.Posts = most_text_bytes
most_bytes texts.Log = 67108864
most_bytes texts.Store = 67108864

-- each path as one of a text of this kind
abbrev pub of_kind : {P : Type 0} → Text → List P → List (Text × P)
of_kind text paths = map (λ path. (text, path)) paths
