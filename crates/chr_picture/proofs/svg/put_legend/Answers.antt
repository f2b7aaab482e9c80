use Rattle.std.proofs.Common.{refl}
use Rattle.chr_picture.specs.Layouts.{pair_of, pairs_of}
use Rattle.chr_picture.specs.Svg.{legend_line, legend}
use Rattle.chr_picture.proofs.Texts.{text_more_at, text_ends}
use Rattle.chr_picture.proofs.svg.put_legend.Goals as goal

pub loop-place-preserved : goal.loop-place-preserved
loop-place-preserved g c =
    text_more_at (λ k ys. legend c.args.names.now c.args.layout.now c.args.top k (pairs_of ys)) (λ k y. legend_line c.args.names.now c.args.layout.now c.args.top k (pair_of y)) (λ k y ys. refl) c.args.preds.now _ c.loop-place.out.items c.put_legend_line.new.out.items c.loop-place.place _ c.loop-place-test.true c.in_ok-put_legend_line.ensures c.loop-place.invariant

pub returns : goal.returns
returns g c = text_ends (λ k ys. legend c.args.names.now c.args.layout.now c.args.top k (pairs_of ys)) (λ k. refl) c.args.preds.now _ c.loop-place.out.items c.loop-place.place c.loop-place-test.false c.loop-place.invariant
