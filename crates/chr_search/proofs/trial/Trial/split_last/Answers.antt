use Rattle.std.proofs.Common.{◌≡◌, ◌≤◌, ◌∷◌, [], ◌++◌, map, length, ap, ◌∙◌, arith}
use Rattle.std.specs.Arc.{arc_value}
use Rattle.std.proofs.lemmas.List.{length-map}
use Rattle.std.proofs.lemmas.List.{map_push}
use Rattle.chr_search.specs.Placed.{placed_as}
use Rattle.chr_search.specs.Verdicts.{Trial}
use Rattle.chr_search.proofs.Fitting.{formed_less}
use Rattle.chr_search.proofs.trial.Trial.split_last.Goals as goal

pub invariant_of-part : goal.invariant_of-part
invariant_of-part g c =
    let i = c.part.inside in
    let t : Trial = record { rule = arc_value i.rule; number = i.number; head = i.head; placed = map placed_as i.placed.items } in
    let left = c.pop.new.self.items in
    let same : map placed_as i.placed.items ≡ map placed_as left ++ placed_as c.in-Some.last ∷ [] = ap (map placed_as) c.in-Some.ensures.items ∙ map_push placed_as left c.in-Some.last in
    let all : length (map placed_as i.placed.items) ≡ length c.args.self.placed = ap (λ (x : Trial). length x.placed) c.part.view_is in
    let many : 2 ≤ length c.args.self.placed = c.requires in
    formed_less t (map placed_as left) (placed_as c.in-Some.last) c.part.invariant same
    (omega (arith, all, length-map i.placed.items placed_as, length-map left placed_as, c.in-Some.ensures.len))
