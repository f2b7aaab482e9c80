use Rattle.std.proofs.Common.{length, ◌≡◌}
use Rattle.chr_session.specs.Parsing.{after_blanks}
use Rattle.chr_session.proofs.parsing.after_blanks.Given as goal

abbrev pub invariant-loop-rest : goal.invariant-loop-rest
invariant-loop-rest l = after_blanks l.fn.text ≡ after_blanks l.rest

abbrev pub decreases-loop-rest : goal.decreases-loop-rest
decreases-loop-rest l = length l.rest
