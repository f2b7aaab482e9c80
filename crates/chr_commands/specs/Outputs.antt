-- Whether two places are one file.
use Rattle.std.specs.Prelude.{◌≡◌, string_bytes}
use Rattle.chr_commands.specs.declared.outputs.Place.{Place}
use Rattle.chr_commands.specs.declared.outputs.Place.TheVariants.{There, New}

-- a file that is there is the one with its numbers, and a file to come the one with its name in its
-- directory
abbrev pub AreOneFile : Place → Place → Type 0
AreOneFile (There a) (There b) = a ≡ b
AreOneFile (New a name) (New b same) = (a ≡ b) × (string_bytes name ≡ string_bytes same)
AreOneFile a b = ⊥
