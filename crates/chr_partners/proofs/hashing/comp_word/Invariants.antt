use Rattle.std.proofs.Common.{◌≡◌, drop}
use Rattle.chr_value.specs.Atoms.{args_of, grounds, ground_comp}
use Rattle.chr_partners.specs.Hashes.{args_word, value_word}
use Rattle.chr_partners.proofs.hashing.comp_word.Given as goal

-- the word so far, with the arguments that are left
abbrev pub invariant-loop-value : goal.invariant-loop-value
invariant-loop-value g l = args_word l.word (args_of (grounds (drop l.value-index l.value-items))) ≡ value_word (ground_comp l.comp)
