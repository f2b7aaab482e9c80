use Rattle.std.proofs.Common.{◌<◌, ◌∙◌, arith}
use Rattle.chr_value.proofs.ArgumentLaws.{among-first, first-within}
use Rattle.chr_value.proofs.slots.Further.at.Goals as goal

pub slot_at-requires : goal.slot_at-requires
slot_at-requires c =
    let f = c.args.self.now in
    let h = first-within f.kinds f.words f.count c.args.index c.requires in
    let within : c.args.index < 5 = omega (arith, h.1) in
    (omega arith, (omega arith, within))

pub returns : goal.returns
returns c =
    let f = c.args.self.now in
    let h = first-within f.kinds f.words f.count c.args.index c.requires in
    c.slot_at.ensures ∙ among-first f.kinds f.words f.count c.args.index h.0
