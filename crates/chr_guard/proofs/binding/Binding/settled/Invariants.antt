use Rattle.std.proofs.Common.{◌≡◌, map, take, length}
use Rattle.chr_guard.specs.Settled.{mark_of, mark_view}
use Rattle.chr_guard.proofs.binding.Binding.settled.Given as goal

abbrev pub invariant-loop-variable : goal.invariant-loop-variable
invariant-loop-variable g l = record { marks : map mark_view l.marks.items ≡ map mark_of (take l.variable l.self); count : length l.marks.items ≡ l.variable }
