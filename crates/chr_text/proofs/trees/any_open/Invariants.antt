use Rattle.std.proofs.Common.{◌≡◌, map, drop}
use Rattle.std.specs.List.{list_any}
use Rattle.chr_rule.specs.Parts.{argument}
use Rattle.chr_rule.specs.Terms.{is_open}
use Rattle.chr_text.proofs.trees.any_open.Given as goal

abbrev pub invariant-loop-term : goal.invariant-loop-term
invariant-loop-term g l = list_any is_open (map argument (drop l.term-index l.terms)) ≡ list_any is_open (map argument l.terms)
