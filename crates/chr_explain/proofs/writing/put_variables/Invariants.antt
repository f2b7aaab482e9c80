use Rattle.std.proofs.Common.{◌≡◌, ◌++◌, drop}
use Rattle.chr_limits.specs.Views.{names}
use Rattle.chr_explain.specs.Lines.{values_from}
use Rattle.chr_explain.proofs.writing.put_variables.Given as goal

abbrev pub invariant-loop-number : goal.invariant-loop-number
invariant-loop-number g l = l.out.items ++ values_from l.names l.values l.number (names (drop l.number l.variables)) ≡ l.fn.out.items ++ values_from l.names l.values 0 (names l.variables)
