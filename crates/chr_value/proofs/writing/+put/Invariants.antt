use Rattle.std.proofs.Common.{◌≡◌, ◌+◌, ◌*◌, ◌++◌, length, take}
use Rattle.chr_value.specs.Atoms.{text_of, grounds, ground_comp, said}
use Rattle.chr_value.specs.Limits.{size}
use Rattle.chr_value.specs.Spelling.{opened}
use Rattle.chr_value.proofs.Written.{texts}
use Rattle.chr_value.proofs.writing.+put.Given as goal

abbrev pub invariant-put_comp-loop-i : goal.invariant-put_comp-loop-i
invariant-put_comp-loop-i g l = record {
  written : l.out.items ≡ l.fn.out.items ++ (text_of l.names l.comp.functor.number ++ opened (texts l.names (grounds (take l.i l.value-items))));
  keeps : take (length l.fn.out.items) l.out.items ≡ l.fn.out.items;
}

abbrev pub decreases-write_value : goal.decreases-write_value
decreases-write_value g l = 2 * size (said l.value.now) + 1

abbrev pub decreases-put_comp : goal.decreases-put_comp
decreases-put_comp g l = 2 * size (ground_comp l.comp.now)
