use Rattle.std.proofs.Common.{length, ap, ◌∙◌, rules}
use Rattle.chr_seats.proofs.Accounts.{grown, in_memory}
use Rattle.chr_seats.proofs.kept.make.Goals as goal

pub returns-clause-count : goal.returns-clause-count
returns-clause-count g c = grown _ _ _ _ _ _ c.make-answer.ensures.goes_on (c.len-before.ensures ∙ ap (λ es. length es) c.log.ensures) (c.len.ensures ∙ ap (λ es. length es) c.log-2.ensures)

pub returns-clause-room : goal.returns-clause-room
returns-clause-room g c = in_memory c.make-answer.new.book _ (c.len.ensures ∙ ap (λ es. length es) c.log-2.ensures) (search rules)
