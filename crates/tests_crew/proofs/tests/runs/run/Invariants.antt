use Rattle.std.specs.Prelude.{true}
use Rattle.tests_crew.proofs.tests.runs.run.Given as goal

abbrev pub ghosts-run_crew-L1-Ledger : goal.ghosts-run_crew-L1-Ledger
ghosts-run_crew-L1-Ledger g a = record { name = a.blanks.posts.name; parts = a.blanks.posts.parts }

abbrev pub ghosts-run_crew-L2-Ledger : goal.ghosts-run_crew-L2-Ledger
ghosts-run_crew-L2-Ledger g a = record { name = a.blanks.others.name; parts = a.blanks.others.parts }

abbrev pub ghosts-run_crew-L1-PostLedger : goal.ghosts-run_crew-L1-PostLedger
ghosts-run_crew-L1-PostLedger g a = record { loaded = true }

abbrev pub ghosts-run_crew-L1-Naming : goal.ghosts-run_crew-L1-Naming
ghosts-run_crew-L1-Naming g a = record { history = a.blanks.versions.seen.book }
