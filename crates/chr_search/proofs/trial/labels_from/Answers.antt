use Rattle.std.proofs.Common.{◌≡◌, ◌<◌, map, length, ap, ◌∙◌, arith, refl}
use Rattle.chr_search.specs.Placed.{placed_as}
use Rattle.chr_search.specs.Verdicts.{label_at, labels_from}
use Rattle.chr_search.proofs.Making.{each_count, each_push}
use Rattle.chr_search.proofs.trial.labels_from.Goals as goal

pub push-requires : goal.push-requires
push-requires g c =
    let count : length c.loop-i.labels.items ≡ c.loop-i.i = ap length c.loop-i.invariant ∙ each_count (label_at (map placed_as c.args.placed.now)) (labels_from (map placed_as c.args.placed.now)) (λ h. refl) (λ h n. refl) c.args.first c.loop-i.i in
    let less : c.loop-i.i < c.args.count = c.loop-i-test.true in
    (omega arith, omega (arith, c.requires.count))

pub loop-i-preserved : goal.loop-i-preserved
loop-i-preserved g c = each_push (label_at (map placed_as c.args.placed.now)) (labels_from (map placed_as c.args.placed.now)) (λ h. refl) (λ h n. refl) c.args.first c.loop-i.i c.label_at.result c.loop-i.labels.items c.push.new.self.items c.loop-i.invariant c.label_at.ensures c.push.ensures.items
