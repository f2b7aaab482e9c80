use Rattle.std.proofs.Common.{refl}
use Rattle.chr_picture.specs.Svg.{firing_text, firings_text}
use Rattle.chr_picture.proofs.Texts.{text_more, text_ends}
use Rattle.chr_picture.proofs.svg.put_firings.Goals as goal

pub loop-firing-preserved : goal.loop-firing-preserved
loop-firing-preserved g c =
    text_more (λ k ys. firings_text c.args.rows.now c.args.layout.now ys) (λ k y. firing_text c.args.rows.now c.args.layout.now y) (λ k y ys. refl) c.args.firings.now _ c.loop-firing.out.items c.put_firing.new.out.items c.loop-firing.firing-index c.firing-item.result c.loop-firing-test.true c.firing-item.is c.in_ok-put_firing.ensures c.loop-firing.invariant

pub returns : goal.returns
returns g c = text_ends (λ k ys. firings_text c.args.rows.now c.args.layout.now ys) (λ k. refl) c.args.firings.now _ c.loop-firing.out.items c.loop-firing.firing-index c.loop-firing-test.false c.loop-firing.invariant
