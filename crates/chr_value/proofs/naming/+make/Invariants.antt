use Rattle.std.proofs.Common.{◌≡◌, ◌≤◌, ◌+◌, ◌*◌, length, map, take, vec_len, vec_capacity}
use Rattle.chr_value.specs.Names.{number_of}
use Rattle.chr_value.specs.Atoms.{args_of, grounds, renamed}
use Rattle.chr_value.specs.Limits.{size, args_size}
use Rattle.chr_value.specs.TextAtoms.{text_value, text_values}
use Rattle.chr_value.proofs.naming.+make.Given as goal

abbrev pub invariant-make_values-loop-text : goal.invariant-make_values-loop-text
invariant-make_values-loop-text g l = record {
  made : grounds l.made.items ≡ map (renamed (number_of l.names)) (text_values (take l.text-index l.texts));
  filled : vec_len l.made ≡ l.text-index;
  room : length l.texts ≤ vec_capacity l.made;
}

abbrev pub decreases-make_value : goal.decreases-make_value
decreases-make_value g l = 2 * size (text_value l.text.now)

abbrev pub decreases-make_values : goal.decreases-make_values
decreases-make_values g l = 2 * args_size (args_of (text_values l.texts.now)) + 1
