use Rattle.std.proofs.Common.{◌≤◌, drop}
use Rattle.chr_book.proofs.Sheets.{Completes}
use Rattle.chr_book.proofs.book.Book.report_batch.Given as goal

abbrev pub invariant-loop-judged : goal.invariant-loop-judged
invariant-loop-judged g l = record {
  few : l.reported ≤ l.judged-index;
  completes : Completes l.seat l.ticket l.fn.self l.judgements l.self (drop l.judged-index l.judgements) l.reported;
}
