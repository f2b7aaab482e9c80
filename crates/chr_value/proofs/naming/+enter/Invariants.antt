use Rattle.std.proofs.Common.{◌≡◌, ◌≤◌, ◌+◌, ◌*◌, length, take, drop}
use Rattle.chr_value.specs.Atoms.{args_of}
use Rattle.chr_value.specs.Limits.{size, args_size}
use Rattle.chr_value.specs.Naming.{number_terms, table_after}
use Rattle.chr_value.specs.TextAtoms.{text_value, text_values}
use Rattle.chr_value.proofs.naming.+enter.Given as goal

abbrev pub invariant-enter_values-loop-text : goal.invariant-enter_values-loop-text
invariant-enter_values-loop-text g l = record {
  so_far : table_after (number_terms l.names (text_values (drop l.text-index l.texts))) ≡ table_after (number_terms l.fn.names (text_values l.texts));
  keeps : take (length l.fn.names) l.names ≡ l.fn.names;
  fits : length l.fn.names ≤ 65536 → length l.names ≤ 65536;
}

abbrev pub decreases-enter_value : goal.decreases-enter_value
decreases-enter_value g l = 2 * size (text_value l.text.now)

abbrev pub decreases-enter_values : goal.decreases-enter_values
decreases-enter_values g l = 2 * args_size (args_of (text_values l.texts.now)) + 1
