use Rattle.std.specs.Prelude.{false}
use Rattle.tests_desks.proofs.tests.hall.visited.Given as goal

abbrev pub ghosts-visit_hall-L1-Ledger : goal.ghosts-visit_hall-L1-Ledger
ghosts-visit_hall-L1-Ledger g a = record { name = a.blanks.posts.name; parts = a.blanks.posts.parts }

abbrev pub ghosts-visit_hall-L2-Ledger : goal.ghosts-visit_hall-L2-Ledger
ghosts-visit_hall-L2-Ledger g a = record { name = a.blanks.others.name; parts = a.blanks.others.parts }

abbrev pub ghosts-visit_hall-L1-PostLedger : goal.ghosts-visit_hall-L1-PostLedger
ghosts-visit_hall-L1-PostLedger g a = record { loaded = false }

abbrev pub ghosts-visit_hall-L1-Naming : goal.ghosts-visit_hall-L1-Naming
ghosts-visit_hall-L1-Naming g a = record { history = a.blanks.versions.seen.book }
