use Rattle.std.proofs.Common.{List, ℕ, sym, subst, ◌∙◌}
use Rattle.chr_search.specs.Joined.{join_of}
use Rattle.chr_search.specs.Passing.{PassesPlan}
use Rattle.chr_search.proofs.Below.{passed_ahead}
use Rattle.chr_search.proofs.search.Search.pass_in_plan.Goals as goal

-- the search is at the beginning of the plan
pub returns-then-is_ahead-clause-passes : goal.returns-then-is_ahead-clause-passes
returns-then-is_ahead-clause-passes g c =
    let j = join_of c.args.join.now in
    let labels = c.pass_first.new.instance.labels.items in
    subst (λ (p : List ℕ). PassesPlan j p c.pass_first.result labels c.pass_first.new.binding) c.labels_in-place.ensures
    (passed_ahead j c.labels_in-place.result.now (sym c.is_ahead.ensures ∙ c.if-is_ahead.true) c.args.most c.pass_first.result labels c.pass_first.new.binding c.requires.some c.pass_first.ensures.counted c.pass_first.ensures.passes)

-- or further on
pub returns-clause-passes : goal.returns-clause-passes
returns-clause-passes g c =
    subst (λ (p : List ℕ). PassesPlan (join_of c.args.join.now) p c.pass_from.result c.pass_from.new.instance.labels.items c.pass_from.new.binding) c.labels_in-place.ensures c.pass_from.ensures.passes
