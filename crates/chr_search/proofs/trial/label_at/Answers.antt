use Rattle.std.proofs.Common.{map, sym, ◌∙◌, arith}
use Rattle.std.proofs.lemmas.Bool.Decides.{nat_tests}
use Rattle.std.proofs.lemmas.List.{at_drop_more, at_drop_all}
use Rattle.chr_search.specs.Placed.{placed_as}
use Rattle.chr_search.specs.Verdicts.{label_at}
use Rattle.chr_search.proofs.trial.label_at.Goals as goal

pub returns-then-from-head : goal.returns-then-from-head
returns-then-from-head g c =
    let step = at_drop_more (λ ps. label_at (map placed_as ps) c.args.head) c.args.placed.now c.loop-one.one-index c.one-item.result c.loop-one-test.true in
    grind (arith, nat_tests)

pub loop-one-preserved : goal.loop-one-preserved
loop-one-preserved g c =
    let step = at_drop_more (λ ps. label_at (map placed_as ps) c.args.head) c.args.placed.now c.loop-one.one-index c.one-item.result c.loop-one-test.true in
    grind (arith, nat_tests)

pub returns : goal.returns
returns g c = sym (c.loop-one.invariant ∙ at_drop_all (λ ps. label_at (map placed_as ps) c.args.head) c.args.placed.now c.loop-one.one-index c.loop-one-test.false)
