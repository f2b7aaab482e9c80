use Rattle.std.proofs.Common.{ℕ, List, subst}
use Rattle.chr_log.specs.Events.{Entry}
use Rattle.chr_seats.specs.Accounts.{AreCounts}
use Rattle.chr_seats.proofs.kept.Kept.with.Goals as goal

pub seated-requires-clause-counts : goal.seated-requires-clause-counts
seated-requires-clause-counts g c = subst (λ (log : List (Entry ℕ)). AreCounts log c.tally-counts.result) c.log.ensures c.tally-counts.ensures
