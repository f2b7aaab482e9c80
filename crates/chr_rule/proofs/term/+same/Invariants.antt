use Rattle.std.proofs.Common.{◌≡◌, ◌+◌, ◌*◌, map, take}
use Rattle.chr_rule.specs.Parts.{argument}
use Rattle.chr_rule.specs.Rules.{terms_of}
use Rattle.chr_rule.specs.Terms.{term_size, terms_size}
use Rattle.chr_rule.proofs.term.+same.Given as goal

abbrev pub invariant-same_terms-loop-i : goal.invariant-same_terms-loop-i
invariant-same_terms-loop-i g l = map argument (take l.i l.terms) ≡ map argument (take l.i l.others)

abbrev pub decreases-Term::same : goal.decreases-Term::same
decreases-Term::same g l = 2 * term_size (argument l.self.now)

abbrev pub decreases-same_terms : goal.decreases-same_terms
decreases-same_terms g l = 2 * terms_size (terms_of (map argument l.terms.now)) + 1
