use Rattle.std.proofs.Common.{◌≡◌, ◌-◌, ◌≤◌, ◌++◌, length, take, drop}
use Rattle.chr_lex.specs.Plain.{before_close, closes}
use Rattle.chr_lex.proofs.plain.comment_len.Given as goal

abbrev pub invariant-loop-len : goal.invariant-loop-len
invariant-loop-len l = (l.len ≤ length l.text) × (take l.len l.text ++ before_close (drop l.len l.text) ≡ before_close l.text) × (closes (drop l.len l.text) ≡ closes l.text)

abbrev pub decreases-loop-len : goal.decreases-loop-len
decreases-loop-len l = length l.text - l.len
