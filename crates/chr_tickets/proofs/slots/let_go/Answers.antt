use Rattle.std.proofs.Common.{◌∙◌, arith}
use Rattle.chr_tickets.proofs.Ends.{moves_more}
use Rattle.chr_tickets.proofs.slots.let_go.Goals as goal

pub loop-at-preserved : goal.loop-at-preserved
loop-at-preserved g c =
    let ok = c.loop-at.slots.ok in
    record {
      moves = moves_more c.loop-at.invariant.moves (omega arith) c.swap.ensures.items c.swap.ensures.by_index;
      capacity = c.swap.ensures.capacity ∙ c.loop-at.invariant.capacity;
    }
