use Rattle.std.proofs.Common.{◌∷◌, take, length, ap, ap₂, ℕ, List, arith}
use Rattle.std.proofs.lemmas.List.{length-map, length-take}
use Rattle.chr_search.specs.Placed.{placed_as}
use Rattle.chr_search.proofs.Judging.{labels_read, few_labels}
use Rattle.chr_search.proofs.Making.{map_next}
use Rattle.chr_search.proofs.position.Position.become_of.Goals as goal

pub returns-clause-position : goal.returns-clause-position
returns-clause-position g c =
    ap₂ (λ (r : ℕ) (xs : List ℕ). r ∷ xs) c.number-self-inside.ensures
    (ap₂ (λ (h : ℕ) (xs : List ℕ). h ∷ xs) c.head-self-inside.ensures (labels_read placed_as c.args.trial.now c.placed-all.result.now c.loop-placed.placed-index c.loop-placed.self-inside.labels.items c.placed-all.ensures.placed c.loop-placed-test.false c.loop-placed.invariant))

pub push-requires : goal.push-requires
push-requires g c =
    let all = c.placed-all.result.now in
    let i = c.loop-placed.placed-index in
    (omega arith, omega (arith, few_labels c.args.trial.now c.placed-all.ensures.formed, length-map all placed_as, ap length c.placed-all.ensures.placed, ap length c.loop-placed.invariant, length-map (take i all) (λ p. p.label), length-take i all))

pub loop-placed-preserved : goal.loop-placed-preserved
loop-placed-preserved g c = map_next (λ p. p.label) _ _ _ _ _ c.loop-placed.invariant c.push.ensures.items c.loop-placed-test.true c.placed-item.is
