use Rattle.std.proofs.Common.{◌≡◌, ◌++◌, length, map}
use Rattle.std.specs.Vec.Iter.{into_iter_items, into_iter_len}
use Rattle.chr_value.specs.Atoms.{grounds}
use Rattle.chr_rule.specs.Parts.{argument}
use Rattle.chr_text.specs.Terms.{values}
use Rattle.chr_text.proofs.trees.values.Given as goal

abbrev pub invariant-loop-term : goal.invariant-loop-term
invariant-loop-term g l =
    (goal.iterator-loop-term g).can_next l.term-iterator
    × (goal.iterator-loop-term g).is_finite l.term-iterator
    × (into_iter_len l.term-iterator ≡ length (into_iter_items l.term-iterator))
    × (grounds l.made.items ++ values (map argument (into_iter_items l.term-iterator)) ≡ values (map argument (into_iter_items l.initial.term-iterator)))
