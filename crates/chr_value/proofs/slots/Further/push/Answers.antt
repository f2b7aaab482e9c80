use Rattle.std.proofs.Common.{◌<◌, arith}
use Rattle.chr_value.proofs.ArgumentLaws.{room-behind}
use Rattle.chr_value.proofs.slots.Further.push.Goals as goal

pub put_slot-requires : goal.put_slot-requires
put_slot-requires c =
    let f = c.args.self.now in
    let few = room-behind f.kinds f.words f.count 5 (omega arith) (omega arith) c.requires in
    let within : c.from-index.result < 5 = omega (arith, few, c.from-index.ensures) in
    (omega arith, (omega arith, within))

pub overflow_add-self : goal.overflow_add-self
overflow_add-self c =
    let f = c.args.self.now in
    let few = room-behind f.kinds f.words f.count 5 (omega arith) (omega arith) c.requires in
    omega (arith, few)
