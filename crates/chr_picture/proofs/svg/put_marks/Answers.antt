use Rattle.std.proofs.Common.{refl}
use Rattle.chr_picture.specs.Svg.{mark, marks}
use Rattle.chr_picture.proofs.Texts.{text_more_at, text_ends}
use Rattle.chr_picture.proofs.svg.put_marks.Goals as goal

pub loop-label-preserved : goal.loop-label-preserved
loop-label-preserved g c =
    text_more_at (λ k ys. marks c.args.rows.now c.args.fill c.args.x ys) (λ k y. mark c.args.rows.now c.args.fill c.args.x y) (λ k y ys. refl) c.args.labels.now _ c.loop-label.out.items c.put_mark.new.out.items c.loop-label.label-index 0 c.loop-label-test.true c.in_ok-put_mark.ensures c.loop-label.invariant

pub returns : goal.returns
returns g c = text_ends (λ k ys. marks c.args.rows.now c.args.fill c.args.x ys) (λ k. refl) c.args.labels.now _ c.loop-label.out.items c.loop-label.label-index c.loop-label-test.false c.loop-label.invariant
