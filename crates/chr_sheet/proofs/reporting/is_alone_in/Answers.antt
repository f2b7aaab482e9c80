use Rattle.std.proofs.Common.{◌≡◌, sym, rules}
use Rattle.chr_sheet.proofs.Words.{placed_as, Placed}
use Rattle.chr_sheet.proofs.Rows.{only_read}
use Rattle.chr_sheet.proofs.Turns.{alone_told, alone_label}
use Rattle.chr_sheet.proofs.reporting.is_alone_in.Goals as goal

pub returns-then-one-active : goal.returns-then-one-active
returns-then-one-active g c =
    let p : Placed = placed_as c.index-placed-0.result in
    let one = only_read placed_as _ _ _ c.placed.ensures.placed c.requires c.index-placed-0.is in
    let label : p.label ≡ c.args.active = search rules in
    alone_told _ _ _ p _ c.same.result one (sym c.in-Some.ensures) label c.same.ensures

pub returns-else-one-active : goal.returns-else-one-active
returns-else-one-active g c =
    let p : Placed = placed_as c.index-placed-0.result in
    let one = only_read placed_as _ _ _ c.placed.ensures.placed c.requires c.index-placed-0.is in
    (λ h. absurd (search rules), λ a. let label : p.label ≡ c.args.active = alone_label _ _ _ p one a in absurd (search rules))
