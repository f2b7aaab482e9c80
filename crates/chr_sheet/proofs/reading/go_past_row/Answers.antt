use Rattle.std.proofs.Common.{◌≡◌, ◌≤◌, ◌-◌, ◌∷◌, [], ◌++◌, get_or, length, map, sym, ap, subst, ◌∙◌, arith, ◌<◌}
use Rattle.chr_sheet.proofs.Words.{length-map, length_push, heads_of, lengthened, placed_as, past, Trial, position, last_of, Row}
use Rattle.chr_search.proofs.Making.{map_twice}
use Rattle.chr_sheet.proofs.Rows.{formed_there, label_low, part_few}
use Rattle.chr_sheet.proofs.NextBeside.{last_read}
use Rattle.chr_sheet.proofs.OneNext.{longer_position}
use Rattle.chr_sheet.proofs.reading.go_past_row.Goals as goal

pub go_past-requires-clause-few : goal.go_past-requires-clause-few
go_past-requires-clause-few g c = subst (λ t. length t.placed ≤ 5) (sym c.part.ensures.part) (part_few c.args.row.now c.part.ensures.row)

pub go_past-requires-clause-last : goal.go_past-requires-clause-last
go_past-requires-clause-last g c =
    let row = c.part.ensures.row in
    let x = c.index-lasts-lasts.result in
    let xs = c.lasts-lasts.result.now in
    let here : length xs - 1 < length xs = omega (arith, ap length c.lasts-lasts.ensures.lasts, length-map xs placed_as, row.some) in
    subst (λ y. y.label ≤ 4294967295) c.index-lasts-lasts.is (label_low c.args.row.now.part (placed_as x) (formed_there placed_as c.args.row.now xs (length xs - 1) x row c.lasts-lasts.ensures.lasts here c.index-lasts-lasts.is))

-- the last trial has the last of the labels
pub returns-clause-place : goal.returns-clause-place
returns-clause-place g c = λ t more e.
    let r : Row = c.args.row.now in
    let xs = c.lasts-lasts.result.now in
    let x = c.index-lasts-lasts.result in
    let some : 1 ≤ length r.lasts = c.part.ensures.row.some in
    let count : length xs ≡ length r.lasts = sym (length-map xs placed_as) ∙ ap length c.lasts-lasts.ensures.lasts in
    let trials : map (λ y. lengthened r.part (placed_as y)) xs ≡ t ∷ more = sym (map_twice placed_as (lengthened r.part) xs) ∙ ap (map (lengthened r.part)) c.lasts-lasts.ensures.lasts ∙ e in
    let last : last_of t more ≡ lengthened r.part (placed_as x) = last_read (λ y. lengthened r.part (placed_as y)) xs (length xs - 1) x t more trials (omega arith) c.index-lasts-lasts.is in (
      ap (λ q. q.place) c.go_past.ensures
          ∙ ap (λ part. past (position part ++ (get_or xs (length xs - 1) x).label ∷ [])) c.part.ensures.part
          ∙ ap (λ y. past (position r.part ++ y.label ∷ [])) (sym c.index-lasts-lasts.is)
          ∙ ap past (sym (longer_position r.part (placed_as x)))
          ∙ ap (λ u. past (position u)) (sym last),
      subst (λ (u : Trial). length u.placed ≡ length (heads_of u.rule)) (sym last) (length_push r.part.placed (placed_as x) ∙ c.part.ensures.row.full),
    )
