use Rattle.std.proofs.Common.{◌-◌, length}
use Rattle.chr_calls.specs.Books.{space_of}
use Rattle.chr_calls.specs.Batches.{IsNextBeside, NoneBeside}
use Rattle.chr_book.proofs.Sheets.{TogetherSoFar}
use Rattle.chr_book.proofs.book.Book.with_those_behind.Given as goal

abbrev pub invariant-loop-program : goal.invariant-loop-program
invariant-loop-program g l = TogetherSoFar (IsNextBeside (space_of l.fn.self l.fn.search.label)) (NoneBeside (space_of l.fn.self l.fn.search.label)) 16 l.fn.first l.trials.items (16 - length l.trials.items)

abbrev pub decreases-loop-program : goal.decreases-loop-program
decreases-loop-program g l = 16 - length l.trials.items
