use Rattle.std.proofs.Common.{◌≡◌, ◌+◌, ◌≤◌, ◌-◌, ℕ, length, drop}
use Rattle.chr_tickets.specs.Listed.{listed}
use Rattle.chr_tickets.proofs.slots.next_open.Given as goal

abbrev pub invariant-loop-gone : goal.invariant-loop-gone
invariant-loop-gone g l = record {
  listed : (first : ℕ) → listed (first + l.gone) (drop l.gone l.slots.items) ≡ listed (first + l.fn.gone) (drop l.fn.gone l.slots.items);
  on : l.fn.gone ≤ l.gone;
  within : l.gone ≤ length l.slots.items;
}

abbrev pub decreases-loop-gone : goal.decreases-loop-gone
decreases-loop-gone g l = length l.slots.items - l.gone
