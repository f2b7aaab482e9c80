use Rattle.std.proofs.Common.{◌≡◌, map, drop}
use Rattle.chr_rule.specs.Parts.{argument}
use Rattle.chr_rule.specs.Terms.{left_after_terms}
use Rattle.chr_rule.proofs.term.+left.Given as goal

abbrev pub invariant-left_behind-loop-term : goal.invariant-left_behind-loop-term
invariant-left_behind-loop-term g l = left_after_terms l.depth l.rest (map argument (drop l.term-index l.terms)) ≡ left_after_terms l.depth l.room (map argument l.terms)
