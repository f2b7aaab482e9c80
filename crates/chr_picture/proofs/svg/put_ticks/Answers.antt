use Rattle.chr_picture.proofs.Texts.{tick_more, ticks_end}
use Rattle.chr_picture.proofs.svg.put_ticks.Goals as goal

pub loop-column-preserved : goal.loop-column-preserved
loop-column-preserved g c =
    tick_more c.args.layout.now c.args.every c.args.bottom c.loop-column.column c.args.layout.now.count _ c.loop-column.out.items c.put_tick_or_none.new.out.items c.loop-column-test.true c.in_ok-put_tick_or_none.ensures c.loop-column.invariant

pub returns : goal.returns
returns g c = ticks_end c.args.layout.now c.args.every c.args.bottom c.loop-column.column c.args.layout.now.count _ c.loop-column.out.items c.loop-column-test.false c.loop-column.invariant
