use Rattle.std.proofs.Common.{map, ap, ◌∙◌}
use Rattle.std.proofs.lemmas.List.{take_all}
use Rattle.std.proofs.lemmas.List.{map_push}
use Rattle.chr_search.specs.Placed.{placed_as}
use Rattle.chr_search.proofs.Making.{map_next}
use Rattle.chr_search.proofs.trial.copy_placed.Goals as goal

pub loop-one-preserved : goal.loop-one-preserved
loop-one-preserved g c =
    let made = c.loop-one.made.items in
    map_next placed_as c.args.placed.now c.loop-one.one-index c.one-item.result (map placed_as made) (map placed_as c.push_placed.new.placed.items) c.loop-one.invariant
    (ap (map placed_as) c.in_ok-push_placed.ensures ∙ map_push placed_as made c.one-item.result) c.loop-one-test.true c.one-item.is

pub returns : goal.returns
returns g c = c.loop-one.invariant ∙ ap (map placed_as) (take_all c.loop-one.one-index c.args.placed.now c.loop-one-test.false)
