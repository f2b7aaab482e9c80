use Rattle.std.proofs.Common.{◌≡◌, ◌≤◌, length, map, take, vec_len, vec_capacity}
use Rattle.chr_value.specs.Atoms.{ground_comp}
use Rattle.chr_value.proofs.beside.copy_comps.Given as goal

abbrev pub invariant-loop-comp : goal.invariant-loop-comp
invariant-loop-comp g l = record {
  copied : map ground_comp l.copies.items ≡ map ground_comp (take l.comp-index l.comp-items);
  filled : vec_len l.copies ≡ l.comp-index;
  room : length l.comp-items ≤ vec_capacity l.copies;
}
