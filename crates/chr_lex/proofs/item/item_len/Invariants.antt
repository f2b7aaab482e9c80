use Rattle.std.proofs.Common.{◌≡◌, ◌-◌, ◌≤◌, ◌++◌, length, take, drop}
use Rattle.chr_lex.specs.Items.{before_end, has_end}
use Rattle.chr_lex.proofs.item.item_len.Given as goal

abbrev pub invariant-loop-len : goal.invariant-loop-len
invariant-loop-len l = (l.len ≤ length l.text) × (take l.len l.text ++ before_end (drop l.len l.text) ≡ before_end l.text) × (has_end (drop l.len l.text) ≡ has_end l.text)

abbrev pub decreases-loop-len : goal.decreases-loop-len
decreases-loop-len l = length l.text - l.len
