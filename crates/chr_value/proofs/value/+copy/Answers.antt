use Rattle.std.proofs.Common.{arith}
use Rattle.chr_value.specs.Atoms.{ground}
use Rattle.chr_value.proofs.Places.{map-more}
use Rattle.chr_value.proofs.value.+copy.Goals as goal

pub Comp::copy-loop-value-preserved : goal.Comp::copy-loop-value-preserved
Comp::copy-loop-value-preserved g t c = record {
  copied = map-more ground ground c.loop-value.args.items c.push_reserved.new.self.items c.deref-value-items.result.now c.loop-value.value-index _ _ c.loop-value-test.true c.value-item.is c.push_reserved.ensures.items c.in_ok-copy.ensures c.loop-value.invariant.copied;
  filled = omega (arith, c.push_reserved.ensures.len, c.loop-value.invariant.filled);
  room = omega (arith, c.push_reserved.ensures.capacity, c.loop-value.invariant.room);
}
