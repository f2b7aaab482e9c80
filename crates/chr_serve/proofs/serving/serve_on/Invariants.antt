use Rattle.std.specs.Prelude.{false}
use Rattle.chr_serve.proofs.serving.serve_on.Given as goal

abbrev pub ghosts-serve_by-L1-Ledger : goal.ghosts-serve_by-L1-Ledger
ghosts-serve_by-L1-Ledger g a = record { name = a.blanks.posts.name; parts = a.blanks.posts.parts }

abbrev pub ghosts-serve_by-L2-Ledger : goal.ghosts-serve_by-L2-Ledger
ghosts-serve_by-L2-Ledger g a = record { name = a.blanks.others.name; parts = a.blanks.others.parts }

abbrev pub ghosts-serve_by-L1-PostLedger : goal.ghosts-serve_by-L1-PostLedger
ghosts-serve_by-L1-PostLedger g a = record { loaded = false }

abbrev pub ghosts-serve_by-L1-Naming : goal.ghosts-serve_by-L1-Naming
ghosts-serve_by-L1-Naming g a = record { history = a.blanks.versions.seen.book }
