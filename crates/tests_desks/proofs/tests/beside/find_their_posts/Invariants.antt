use Rattle.std.specs.Prelude.{false}
use Rattle.tests_desks.proofs.tests.beside.find_their_posts.Given as goal

abbrev pub ghosts-talk_beside_workers-L1-Ledger : goal.ghosts-talk_beside_workers-L1-Ledger
ghosts-talk_beside_workers-L1-Ledger g a = record { name = a.blanks.posts.name; parts = a.blanks.posts.parts }

abbrev pub ghosts-talk_beside_workers-L2-Ledger : goal.ghosts-talk_beside_workers-L2-Ledger
ghosts-talk_beside_workers-L2-Ledger g a = record { name = a.blanks.others.name; parts = a.blanks.others.parts }

abbrev pub ghosts-talk_beside_workers-L1-PostLedger : goal.ghosts-talk_beside_workers-L1-PostLedger
ghosts-talk_beside_workers-L1-PostLedger g a = record { loaded = false }

abbrev pub ghosts-talk_beside_workers-L1-Naming : goal.ghosts-talk_beside_workers-L1-Naming
ghosts-talk_beside_workers-L1-Naming g a = record { history = a.blanks.versions.seen.book }
