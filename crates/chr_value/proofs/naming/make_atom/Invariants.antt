use Rattle.std.proofs.Common.{◌≡◌, map, take}
use Rattle.chr_value.specs.Names.{number_of}
use Rattle.chr_value.specs.Atoms.{renamed}
use Rattle.chr_value.specs.TextAtoms.{text_values}
use Rattle.chr_value.proofs.naming.make_atom.Given as goal

abbrev pub invariant-loop-value : goal.invariant-loop-value
invariant-loop-value g l = l.atom ≡ record { name = number_of l.names l.text.name.now; args = map (renamed (number_of l.names)) (text_values (take l.value-index l.value-items)) }
