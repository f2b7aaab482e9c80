use Rattle.std.proofs.Common.{◌-◌, ◌*◌, ◌≤◌, sym, subst, arith}
use Rattle.std.proofs.Math.Nat.{min-le_left}
use Rattle.chr_store.proofs.Table.{left_empty, left_same}
use Rattle.chr_store.proofs.atoms.past_empty.Goals as goal

pub returns-clause-empty : goal.returns-clause-empty
returns-clause-empty c held h = left_empty held c.args.slots.now c.min-empty.result c.args.label c.args.counts.now h

pub returns-clause-same : goal.returns-clause-same
returns-clause-same c held h =
    let least : c.min-empty.result ≤ c.saturating_sub.result = subst (λ n. n ≤ c.saturating_sub.result) (sym c.min-empty.ensures) (min-le_left _ _) in
    let within : c.min-empty.result ≤ c.next_block-block.result * 64 - c.args.label = omega (arith, subst (λ n. n ≤ c.next_block-block.result * 64) (sym c.saturating_mul.ensures) (min-le_left _ _), least, c.saturating_sub.ensures) in
    left_same held c.args.slots.now c.min-empty.result c.args.label c.args.counts.now c.next_block-block.result h c.next_block-block.ensures.empty within
