use Rattle.std.proofs.Common.{◌≡◌, drop, map}
use Rattle.chr_text.specs.Terms.{terms_of_words}
use Rattle.chr_text.specs.Trees.{from_top}
use Rattle.chr_text.specs.Words.{placed_word}
use Rattle.chr_text.proofs.trees.build_term.Given as goal

abbrev pub invariant-loop-place : goal.invariant-loop-place
invariant-loop-place g l = from_top l.stack.items ≡ terms_of_words (map placed_word (drop l.place l.words))
