use Rattle.std.proofs.Common.{◌<◌, Some, length, ap, ◌∙◌, arith}
use Rattle.chr_value.specs.declared.slots.Slot.{Slot}
use Rattle.chr_value.specs.declared.slots.Kind.TheVariants as kinds
use Rattle.chr_value.proofs.ArgumentLaws.{packed-at}
use Rattle.chr_value.proofs.slots.slot_at.Goals as goal

pub returns : goal.returns
returns g c =
    let ks = c.args.kinds.now in
    let ws = c.args.words.now in
    let lk : c.args.index < length ks = omega (arith, c.requires, c.told-kinds) in
    let lw : c.args.index < length ws = omega (arith, c.requires, c.told-words) in
    ap (λ (s : Slot). Some s) c.slot_of.ensures ∙ packed-at ks ws c.args.index kinds.Int 0 lk lw
