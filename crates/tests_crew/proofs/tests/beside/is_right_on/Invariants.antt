use Rattle.std.specs.Prelude.{true}
use Rattle.tests_crew.proofs.tests.beside.is_right_on.Given as goal

abbrev pub ghosts-is_right_by-L1-Ledger : goal.ghosts-is_right_by-L1-Ledger
ghosts-is_right_by-L1-Ledger g a = record { name = a.blanks.posts.name; parts = a.blanks.posts.parts }

abbrev pub ghosts-is_right_by-L2-Ledger : goal.ghosts-is_right_by-L2-Ledger
ghosts-is_right_by-L2-Ledger g a = record { name = a.blanks.others.name; parts = a.blanks.others.parts }

abbrev pub ghosts-is_right_by-L1-PostLedger : goal.ghosts-is_right_by-L1-PostLedger
ghosts-is_right_by-L1-PostLedger g a = record { loaded = true }

abbrev pub ghosts-is_right_by-L1-Naming : goal.ghosts-is_right_by-L1-Naming
ghosts-is_right_by-L1-Naming g a = record { history = a.blanks.versions.seen.book }
