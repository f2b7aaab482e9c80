use Rattle.std.proofs.Common.{length, ◌≡◌, ◌≤◌}
use Rattle.chr_session.proofs.Words.{number_from}
use Rattle.chr_session.proofs.parsing.number.Given as goal

abbrev pub invariant-loop-rest : goal.invariant-loop-rest
invariant-loop-rest l = record { same : number_from 0 l.fn.text ≡ number_from l.n l.rest; fits : l.n ≤ 4294967295 }

abbrev pub decreases-loop-rest : goal.decreases-loop-rest
decreases-loop-rest l = length l.rest
