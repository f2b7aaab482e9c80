use Rattle.std.proofs.Common.{◌≡◌, map, drop}
use Rattle.chr_rule.specs.Parts.{argument}
use Rattle.chr_rule.specs.Rules.{terms_of}
use Rattle.chr_guard.specs.Values.{terms_under}
use Rattle.chr_guard.specs.Bindings.{bound_at}
use Rattle.chr_guard.specs.Terms.{left_under_all}
use Rattle.chr_guard.proofs.binding.Binding.+left.Given as goal

abbrev pub invariant-left_behind-loop-term : goal.invariant-left_behind-loop-term
invariant-left_behind-loop-term g l =
    left_under_all l.depth l.rest (terms_under (bound_at l.self) (terms_of (map argument (drop l.term-index l.terms)))) ≡ left_under_all l.depth l.room (terms_under (bound_at l.self) (terms_of (map argument l.terms)))
