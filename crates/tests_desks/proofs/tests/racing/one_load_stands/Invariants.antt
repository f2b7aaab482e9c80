use Rattle.std.specs.Prelude.{false}
use Rattle.tests_desks.proofs.tests.racing.one_load_stands.Given as goal

abbrev pub ghosts-race-L1-Ledger : goal.ghosts-race-L1-Ledger
ghosts-race-L1-Ledger g a = record { name = a.blanks.posts.name; parts = a.blanks.posts.parts }

abbrev pub ghosts-race-L2-Ledger : goal.ghosts-race-L2-Ledger
ghosts-race-L2-Ledger g a = record { name = a.blanks.others.name; parts = a.blanks.others.parts }

abbrev pub ghosts-race-L1-PostLedger : goal.ghosts-race-L1-PostLedger
ghosts-race-L1-PostLedger g a = record { loaded = false }

abbrev pub ghosts-race-L1-Naming : goal.ghosts-race-L1-Naming
ghosts-race-L1-Naming g a = record { history = a.blanks.versions.seen.book }
