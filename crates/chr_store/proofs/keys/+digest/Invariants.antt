use Rattle.std.proofs.Common.{◌≡◌, drop}
use Rattle.chr_value.specs.Atoms.{args_of, grounds, ground_comp}
use Rattle.chr_store.specs.Digests.{digest_after, digest_after_all}
use Rattle.chr_store.proofs.keys.+digest.Given as goal

abbrev pub invariant-with_comp-loop-value : goal.invariant-with_comp-loop-value
invariant-with_comp-loop-value g l = digest_after_all l.all (args_of (grounds (drop l.value-index l.value-items))) ≡ digest_after l.digest (ground_comp l.comp)
