use Rattle.chr_search.proofs.Judging.{distinct_first, repeated_first}
use Rattle.chr_search.proofs.judged.+are_distinct.Goals as goal

pub returns-then-not-has_label : goal.returns-then-not-has_label
returns-then-not-has_label g t c =
    distinct_first (λ p. p.label) c.args.placed.now c.in-Some.rest.now c.in-Some.first.now c.has_label.result c.are_distinct.result c.in-Some.ensures.cases.0 c.has_label.ensures c.if-not-has_label.true c.are_distinct.ensures

pub returns-else-not-has_label : goal.returns-else-not-has_label
returns-else-not-has_label g t c =
    repeated_first (λ p. p.label) c.args.placed.now c.in-Some.rest.now c.in-Some.first.now c.has_label.result c.in-Some.ensures.cases.0 c.has_label.ensures c.if-not-has_label.false
