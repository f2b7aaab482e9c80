use Rattle.chr_calls.proofs.Headlines.{opened_kept}
use Rattle.chr_calls.proofs.laws.opened_books_are_kept.Goals as goal

pub returns : goal.returns
returns c = opened_kept
