use Rattle.std.proofs.Common.{◌≡◌, take}
use Rattle.chr_search.proofs.position.set_past.Given as goal

abbrev pub invariant-loop-i : goal.invariant-loop-i
invariant-loop-i l = take l.i l.after.items ≡ take l.i l.before
