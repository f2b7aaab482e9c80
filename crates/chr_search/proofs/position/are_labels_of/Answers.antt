use Rattle.std.proofs.Common.{◌+◌, [], ◌∷◌, ◌++◌, map, take, get_or, refl, sym, ap, ◌∙◌, arith}
use Rattle.std.proofs.lemmas.List.{take_all}
use Rattle.std.proofs.lemmas.Option.{slice_get-get_or}
use Rattle.chr_search.proofs.Making.{take_next, map_next}
use Rattle.chr_search.proofs.position.are_labels_of.Goals as goal

pub loop-i-preserved : goal.loop-i-preserved
loop-i-preserved g c =
    let ls = c.args.labels.now in
    let i = c.loop-i.i in
    map_next (λ p. p.label) c.args.placed.now i c.index-placed-i.result (take i ls) (take (i + 1) ls) c.loop-i.invariant
    (take_next ls i (get_or ls i 0) (slice_get-get_or ls i 0 (omega arith)) ∙ ap (λ l. take i ls ++ l ∷ []) (c.if-labels-i.false ∙ ap (λ p. p.label) (sym c.index-placed-i.is))) (omega arith) c.index-placed-i.is

pub returns : goal.returns
returns g c = (λ t. sym (take_all c.loop-i.i c.args.labels.now (omega arith)) ∙ c.loop-i.invariant ∙ ap (map (λ p. p.label)) (take_all c.loop-i.i c.args.placed.now (omega arith)), λ e. refl)
