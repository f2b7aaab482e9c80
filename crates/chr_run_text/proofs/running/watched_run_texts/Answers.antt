use Rattle.chr_run_text.proofs.Texts.{texts}
use Rattle.chr_run_text.proofs.running.watched_run_texts.Goals as goal

pub returns-in-Err : goal.returns-in-Err
returns-in-Err g c = c.in-Err.ensures.err (texts c.args.posts.now)

pub returns-in-Ok-run_on : goal.returns-in-Ok-run_on
returns-in-Ok-run_on g c = c.in-Ok-run_on.ensures.run c.args.program.now c.args.labels c.in-Ok.ensures.ok

pub returns-in-Err-run_on : goal.returns-in-Err-run_on
returns-in-Err-run_on g c = c.in-Err-run_on.ensures.run c.args.program.now c.args.labels c.in-Ok.ensures.ok
