use Rattle.std.proofs.Common.{◌≡◌, ◌≤◌, length, take, map, vec_capacity}
use Rattle.chr_run_calls.specs.CallLists.{AnswersAre}
use Rattle.chr_run_calls.specs.Code.{seat_call_of, answer_of}
use Rattle.chr_run_calls.proofs.run.make_calls.Given as goal

abbrev pub invariant-loop-by : goal.invariant-loop-by
invariant-loop-by g l = record {
  made : AnswersAre l.fn.book (map seat_call_of (take l.by-index l.calls)) (map answer_of l.answers.items) l.book;
  many : length l.answers.items ≡ l.by-index;
  room : length l.calls ≤ vec_capacity l.answers;
}
