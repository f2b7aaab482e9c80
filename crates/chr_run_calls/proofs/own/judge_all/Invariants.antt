use Rattle.std.proofs.Common.{◌≡◌, ◌≤◌, length, take, vec_capacity}
use Rattle.chr_run_calls.specs.Told.{AreJudged}
use Rattle.chr_run_calls.proofs.own.judge_all.Given as goal

abbrev pub invariant-loop-trial : goal.invariant-loop-trial
invariant-loop-trial g l = record {
  all : AreJudged (take l.trial-index l.trials) l.judgements.items;
  many : length l.judgements.items ≡ l.trial-index;
  room : length l.trials ≤ vec_capacity l.judgements;
}
