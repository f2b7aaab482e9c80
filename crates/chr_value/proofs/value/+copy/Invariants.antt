use Rattle.std.proofs.Common.{◌≡◌, ◌≤◌, length, take, vec_len, vec_capacity}
use Rattle.chr_value.specs.Atoms.{grounds}
use Rattle.chr_value.proofs.value.+copy.Given as goal

abbrev pub invariant-Comp::copy-loop-value : goal.invariant-Comp::copy-loop-value
invariant-Comp::copy-loop-value g l = record {
  copied : grounds l.args.items ≡ grounds (take l.value-index l.value-items);
  filled : vec_len l.args ≡ l.value-index;
  room : length l.value-items ≤ vec_capacity l.args;
}
