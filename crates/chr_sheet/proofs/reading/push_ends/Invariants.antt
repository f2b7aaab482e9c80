use Rattle.std.proofs.Common.{◌≡◌, ℕ, ◌<◌, ◌≤◌, ◌-◌, List, ◌∷◌, length, map, None}
use Rattle.chr_sheet.proofs.Words.{MayEnd, IsFront, placed_as, Space}
use Rattle.chr_search.specs.Tree.{LeastFrom}
use Rattle.chr_sheet.proofs.NextBeside.{ArePushed}
use Rattle.chr_sheet.proofs.reading.push_ends.Given as goal

abbrev pub invariant-ends : goal.invariant-ends
invariant-ends g l = record {
  few : length l.lasts.items ≤ l.most;
  kept : length l.fn.lasts.items ≤ length l.lasts.items;
  some : l.next ≡ None → length l.fn.lasts.items < length l.lasts.items;
  pushed : (s : Space) (r h : ℕ) (ls : List ℕ) (from : ℕ) → IsFront s r h ls l.fn.front → LeastFrom (MayEnd s (r ∷ h ∷ ls)) from l.fn.first → ArePushed s r h ls from (map placed_as l.fn.lasts.items) (map placed_as l.lasts.items) l.front l.next;
}

abbrev pub decreases-ends : goal.decreases-ends
decreases-ends g l = l.most - length l.lasts.items
