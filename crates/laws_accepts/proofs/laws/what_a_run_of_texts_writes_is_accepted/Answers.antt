use Rattle.std.proofs.Common.{◌≤◌, length, subst}
use Rattle.chr_log_text.specs.Writable.{most_bytes}
use Rattle.chr_run_text.specs.Output.{shown}
use Rattle.chr_run_text.specs.declared.output.Show.TheVariants as show
use Rattle.chr_solo.specs.declared.solo.End.{End}
use Rattle.chr_check_text.specs.CheckTexts.{IsCheckText}
use Rattle.laws_accepts.proofs.Checked.{accepted, strict_accepted, texts_run_readable}
use Rattle.laws_accepts.proofs.laws.what_a_run_of_texts_writes_is_accepted.Goals as goal

pub returns-clause-whole_log : goal.returns-clause-whole_log
returns-clause-whole_log g c = λ program posts steps limit le run.
    let b = c.args.ran.now.book in
    accepted program run.read b (texts_run_readable program posts steps limit c.args.ran.now.end b le run) c.args.ran.now.end c.args.answer.now run.quiet

pub returns-clause-strict_log : goal.returns-clause-strict_log
returns-clause-strict_log g c = λ program posts steps limit le run quiet log_short store_short is.
    let b = c.args.ran.now.book in
    let short = subst (λ (e : End). length (shown show.Strict e b) ≤ most_bytes) quiet log_short in
    let checks = subst (λ (e : End). IsCheckText program (shown show.Strict e b) (shown show.Store c.args.ran.now.end b) c.args.answer.now) quiet is in
    strict_accepted program run.read b (texts_run_readable program posts steps limit c.args.ran.now.end b le run) c.args.answer.now (run.quiet.0 quiet) short store_short checks
