use Rattle.chr_sheet.specs.Kept.{trials_in}
use Rattle.chr_sheet.specs.Rows.{judgements_of}
use Rattle.chr_seats.proofs.Alike.{all_judged}
use Rattle.chr_seats.proofs.known.KnownTrials.judge.Goals as goal

pub invariant_of-result : goal.invariant_of-result
invariant_of-result g c = all_judged (λ k. k.version) (λ k. k.search) c.self.inside.known (trials_in c.self.inside.trials.items) (judgements_of c.in_ok-judgements.judgements) c.self.invariant c.in_ok-judgements.ensures
