use Rattle.std.proofs.Common.{◌+◌, ℕ, List, [], ◌∷◌, length, ap, subst, sym, ◌∙◌, arith}
use Rattle.std.proofs.lemmas.List.{length-append}
use Rattle.chr_search.specs.Verdicts.{Trial}
use Rattle.chr_run_calls.specs.Told.{AreJudged}
use Rattle.chr_run_calls.proofs.Said.{one_taken, judged_more}
use Rattle.chr_run_calls.proofs.own.judge_all.Goals as goal

pub loop-trial-preserved : goal.loop-trial-preserved
loop-trial-preserved g c =
    let at = c.loop-trial.invariant in
    let items = c.push_reserved.ensures.items in
    record {
      all = subst (λ (trials : List Trial). AreJudged trials c.push_reserved.new.self.items) (sym (one_taken c.args.trials.now c.loop-trial.trial-index c.trial-item.result c.loop-trial-test.true c.trial-item.is))
          (subst (AreJudged _) (sym items)
          (judged_more _ _ c.trial-item.result c.judge-judged.result at.all (c.judge-judged.ensures ∙ c.in_ok-copy.ensures) c.verdict-right.ensures.right));
      many = ap length items ∙ length-append c.loop-trial.judgements.items (c.judge-judged.result ∷ []) ∙ ap (λ (k : ℕ). k + 1) at.many;
      room = omega (arith, at.room, c.push_reserved.ensures.capacity);
    }
