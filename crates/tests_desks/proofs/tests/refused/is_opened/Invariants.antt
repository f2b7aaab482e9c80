use Rattle.std.specs.Prelude.{false}
use Rattle.tests_desks.proofs.tests.refused.is_opened.Given as goal

abbrev pub ghosts-lock_is_opened-L1-Ledger : goal.ghosts-lock_is_opened-L1-Ledger
ghosts-lock_is_opened-L1-Ledger g a = record { name = a.blanks.posts.name; parts = a.blanks.posts.parts }

abbrev pub ghosts-lock_is_opened-L2-Ledger : goal.ghosts-lock_is_opened-L2-Ledger
ghosts-lock_is_opened-L2-Ledger g a = record { name = a.blanks.others.name; parts = a.blanks.others.parts }

abbrev pub ghosts-lock_is_opened-L1-PostLedger : goal.ghosts-lock_is_opened-L1-PostLedger
ghosts-lock_is_opened-L1-PostLedger g a = record { loaded = false }

abbrev pub ghosts-lock_is_opened-L1-Naming : goal.ghosts-lock_is_opened-L1-Naming
ghosts-lock_is_opened-L1-Naming g a = record { history = a.blanks.versions.seen.book }

abbrev pub ghosts-rack_is_opened-L1-Ledger : goal.ghosts-rack_is_opened-L1-Ledger
ghosts-rack_is_opened-L1-Ledger g a = record { name = a.blanks.posts.name; parts = a.blanks.posts.parts }

abbrev pub ghosts-rack_is_opened-L2-Ledger : goal.ghosts-rack_is_opened-L2-Ledger
ghosts-rack_is_opened-L2-Ledger g a = record { name = a.blanks.others.name; parts = a.blanks.others.parts }

abbrev pub ghosts-rack_is_opened-L1-PostLedger : goal.ghosts-rack_is_opened-L1-PostLedger
ghosts-rack_is_opened-L1-PostLedger g a = record { loaded = false }

abbrev pub ghosts-rack_is_opened-L1-Naming : goal.ghosts-rack_is_opened-L1-Naming
ghosts-rack_is_opened-L1-Naming g a = record { history = a.blanks.versions.seen.book }
