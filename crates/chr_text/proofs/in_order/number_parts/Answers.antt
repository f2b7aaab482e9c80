use Rattle.std.proofs.Common.{ap, map}
use Rattle.std.proofs.lemmas.Result.{err_from_is_err_and}
use Rattle.chr_text.proofs.Lists.{map_from, map_end, all_from, turned_first, turn_room, turned_fails, turned_next, turned_last}
use Rattle.chr_text.proofs.in_order.number_parts.Goals as goal

pub loop-part-init : goal.loop-part-init
loop-part-init g c = turned_first g.X.Part.way.numbered g.X.Part.way.raw _ _ _ _ (ap (map g.X.Part.way.made) c.new-made.ensures.items)

pub number-requires-clause-fits : goal.number-requires-clause-fits
number-requires-clause-fits g c = all_from g.X.Part.way.fits g.X.Part.way.said c.args.parts.now c.loop-part.part-index c.part-item.result c.requires.fits c.loop-part-test.true c.part-item.is

pub number-requires-clause-room : goal.number-requires-clause-room
number-requires-clause-room g c = turn_room g.X.Part.way.raw c.requires.grows _ _ _ _ _ (map_from g.X.Part.way.said c.args.parts.now c.loop-part.part-index c.part-item.result c.loop-part-test.true c.part-item.is) c.loop-part.invariant.seen c.requires.room

pub returns-in_err-one-clause-gives : goal.returns-in_err-one-clause-gives
returns-in_err-one-clause-gives g c =
    let p = err_from_is_err_and c.from_residual.result c.from_residual.ensures.1 in
    rw (p.1, p.2) (turned_fails g.X.Part.way.numbered g.X.Part.way.raw c.in_err-one.field-0.0 (map_from g.X.Part.way.said c.args.parts.now c.loop-part.part-index c.part-item.result c.loop-part-test.true c.part-item.is) c.in_err-one.ensures.gives c.loop-part.invariant)

pub loop-part-preserved : goal.loop-part-preserved
loop-part-preserved g c = turned_next g.X.Part.way.made g.X.Part.way.numbered g.X.Part.way.raw c.loop-part.made.items c.in_ok-one.one (map_from g.X.Part.way.said c.args.parts.now c.loop-part.part-index c.part-item.result c.loop-part-test.true c.part-item.is) c.in_ok-push_some.ensures c.in_ok-one.ensures.gives c.in_ok-one.ensures.seen c.in_ok-one.ensures.keeps c.loop-part.invariant

pub returns-clause-gives : goal.returns-clause-gives
returns-clause-gives g c = (turned_last g.X.Part.way.numbered g.X.Part.way.raw (map_end g.X.Part.way.said c.args.parts.now c.loop-part.part-index c.loop-part-test.false) c.loop-part.invariant).0

pub returns-clause-seen : goal.returns-clause-seen
returns-clause-seen g c = (turned_last g.X.Part.way.numbered g.X.Part.way.raw (map_end g.X.Part.way.said c.args.parts.now c.loop-part.part-index c.loop-part-test.false) c.loop-part.invariant).1
