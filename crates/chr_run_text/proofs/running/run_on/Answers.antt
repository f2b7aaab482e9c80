use Rattle.chr_run_text.proofs.Texts.{texts, is_made, posts_refused}
use Rattle.chr_run_text.proofs.running.run_on.Goals as goal

pub returns-in-Ok-run_posted-clause-run : goal.returns-in-Ok-run_posted-clause-run
returns-in-Ok-run_posted-clause-run g c = λ program labels open_text.
    is_made program (texts c.args.posts.now) c.args.steps labels c.in-Ok-run_posted.end c.args.book.now c.post_all.new.book c.run_posted.new.book open_text c.in-Ok.ensures c.in-Ok-run_posted.ensures

pub returns-in-Ok-run_posted-clause-quiet : goal.returns-in-Ok-run_posted-clause-quiet
returns-in-Ok-run_posted-clause-quiet g c = c.in-Ok-run_posted.ensures.quiet.0

pub returns-in-Err-clause-run : goal.returns-in-Err-clause-run
returns-in-Err-clause-run g c = λ program labels open_text. posts_refused program (texts c.args.posts.now) labels c.args.book.now c.in-Err.fault open_text c.in-Err.ensures
