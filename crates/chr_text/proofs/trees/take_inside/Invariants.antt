use Rattle.std.proofs.Common.{◌≡◌, ◌++◌, map, vec_len}
use Rattle.chr_rule.specs.Parts.{argument}
use Rattle.chr_text.specs.Terms.{inside, behind}
use Rattle.chr_text.specs.Trees.{from_top}
use Rattle.chr_text.proofs.trees.take_inside.Given as goal

abbrev pub invariant-loop-stack : goal.invariant-loop-stack
invariant-loop-stack g l = record {
  taken : map argument l.terms.items ++ inside l.depth (from_top l.stack.items) ≡ inside l.depth (from_top l.fn.stack.items);
  left : behind l.depth (from_top l.stack.items) ≡ behind l.depth (from_top l.fn.stack.items);
}

abbrev pub decreases-loop-stack : goal.decreases-loop-stack
decreases-loop-stack g l = vec_len l.stack
