use Rattle.std.specs.Prelude.{◌≡◌, ◌+◌, ◌<◌, ℕ, map, length, take}
use Rattle.std.specs.List.{sum_by, flat_map}
use Rattle.chr_pool.specs.Hands.{hand_id, hand_pushed}
use Rattle.chr_crew.proofs.Dealing.{HaveParts}
use Rattle.chr_crew.proofs.crew.deal.Given as goal

abbrev pub invariant-loop-k : goal.invariant-loop-k
invariant-loop-k l = record {
  same : map hand_id l.hands.items ≡ map hand_id l.initial.hands.items;
  count : length l.hands.items ≡ length l.initial.hands.items;
  some : 0 < length l.hands.items;
  pushed : (h : ℕ → ℕ) → sum_by h (flat_map hand_pushed l.hands.items) ≡ sum_by h (flat_map hand_pushed l.initial.hands.items) + sum_by h (take l.k l.tickets);
  parts : HaveParts l.hands.items l.k;
}
