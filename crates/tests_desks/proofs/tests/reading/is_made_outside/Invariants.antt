use Rattle.std.specs.Prelude.{false}
use Rattle.tests_desks.proofs.tests.reading.is_made_outside.Given as goal

abbrev pub ghosts-read_beside-L1-Ledger : goal.ghosts-read_beside-L1-Ledger
ghosts-read_beside-L1-Ledger g a = record { name = a.blanks.posts.name; parts = a.blanks.posts.parts }

abbrev pub ghosts-read_beside-L2-Ledger : goal.ghosts-read_beside-L2-Ledger
ghosts-read_beside-L2-Ledger g a = record { name = a.blanks.others.name; parts = a.blanks.others.parts }

abbrev pub ghosts-read_beside-L1-PostLedger : goal.ghosts-read_beside-L1-PostLedger
ghosts-read_beside-L1-PostLedger g a = record { loaded = false }

abbrev pub ghosts-read_beside-L1-Naming : goal.ghosts-read_beside-L1-Naming
ghosts-read_beside-L1-Naming g a = record { history = a.blanks.versions.seen.book }
