use Rattle.std.proofs.Common.{refl}
use Rattle.chr_picture.specs.Layouts.{pairs_of}
use Rattle.chr_picture.specs.Svg.{row_text, rows_text}
use Rattle.chr_picture.proofs.Texts.{text_more, text_ends}
use Rattle.chr_picture.proofs.svg.put_rows.Goals as goal

pub loop-place-preserved : goal.loop-place-preserved
loop-place-preserved g c =
    text_more (λ k ys. rows_text c.args.names.now c.args.layout.now (pairs_of c.args.preds.now) c.args.firings.now k ys) (λ k y. row_text c.args.names.now c.args.layout.now (pairs_of c.args.preds.now) c.args.firings.now k y) (λ k y ys. refl) c.args.rows.now _ c.loop-place.out.items c.put_row.new.out.items c.loop-place.place c.index-rows-place.result c.loop-place-test.true c.index-rows-place.is c.in_ok-put_row.ensures c.loop-place.invariant

pub returns : goal.returns
returns g c = text_ends (λ k ys. rows_text c.args.names.now c.args.layout.now (pairs_of c.args.preds.now) c.args.firings.now k ys) (λ k. refl) c.args.rows.now _ c.loop-place.out.items c.loop-place.place c.loop-place-test.false c.loop-place.invariant
