use Rattle.std.proofs.Common.{length, ◌≡◌}
use Rattle.chr_session.specs.Parsing.{before_blanks}
use Rattle.chr_session.proofs.parsing.before_blanks.Given as goal

abbrev pub invariant-loop-rest : goal.invariant-loop-rest
invariant-loop-rest l = before_blanks l.fn.text ≡ before_blanks l.rest

abbrev pub decreases-loop-rest : goal.decreases-loop-rest
decreases-loop-rest l = length l.rest
