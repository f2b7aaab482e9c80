use Rattle.std.proofs.Common.{◌≡◌, ◌≤◌, length, take}
use Rattle.chr_run_calls.specs.Told.{last_answer}
use Rattle.chr_run_calls.specs.Code.{said_by}
use Rattle.chr_run_calls.proofs.own.last_answer.Given as goal

abbrev pub invariant-loop-left : goal.invariant-loop-left
invariant-loop-left g l = record {
  within : l.left ≤ length l.answers;
  rest : last_answer l.batches l.seat l.ticket (said_by l.calls (take l.left l.answers)) ≡ last_answer l.batches l.seat l.ticket (said_by l.calls l.answers);
}

abbrev pub decreases-loop-left : goal.decreases-loop-left
decreases-loop-left g l = l.left
