use Rattle.std.proofs.Common.{rules}
use Rattle.chr_shared.proofs.shared.Shared.quiet.Goals as goal

pub returns-in_err-book_for-clause-read : goal.returns-in_err-book_for-clause-read
returns-in_err-book_for-clause-read g c = (c.deref.result.now.kept, search (rules, c.book_for.ensures, c.in_err-book_for.ensures, c.from_residual.ensures))

pub returns-clause-read : goal.returns-clause-read
returns-clause-read g c = (c.deref.result.now.kept, search (rules, c.book_for.ensures, c.in_ok-book_for.ensures, c.quiet.ensures.quiet))
