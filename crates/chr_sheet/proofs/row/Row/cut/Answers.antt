use Rattle.std.proofs.Common.{Some, map, sym, ap, ◌∙◌}
use Rattle.chr_sheet.proofs.Words.{placed_as, Row}
use Rattle.chr_sheet.proofs.Rows.{IsCut, cut}
use Rattle.chr_sheet.proofs.row.Row.cut.Goals as goal
use Rattle.chr_sheet.proofs.row.Row.cut.Goals.{In-Some}

parted : (g : _) (c : In-Some g) → IsCut c.self.inside.part c.args.self c.args.index (map placed_as c.pop.new.self.items) (placed_as c.in-Some.last)
parted g c = cut placed_as c.self.inside.part c.self.inside.lasts.items c.pop.new.self.items c.args.index c.in-Some.last c.args.self c.self.view_is c.self.invariant c.requires (sym c.truncate.ensures.items ∙ c.in-Some.ensures.items)

pub lengthened-requires : goal.lengthened-requires
lengthened-requires g c = (parted g (goal.at.lengthened-requires g c).In-Some).formed

pub returns : goal.returns
returns g c =
    let k = parted g (goal.at.returns g c).In-Some in
    record {
      part_is = ap (λ (r : Row). r.part) c.self.view_is;
      split = (k.trials, k.trial ∙ ap (λ t. Some t) (sym c.in_ok-trial.ensures));
      row = k.row;
    }
