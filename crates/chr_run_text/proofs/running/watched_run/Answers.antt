use Rattle.std.proofs.Common.{subst, sym}
use Rattle.chr_run_text.specs.RunText.{IsRefused}
use Rattle.chr_run_text.proofs.Texts.{one_run, one_refused}
use Rattle.chr_run_text.proofs.running.watched_run.Goals as goal

pub returns-in-Ok : goal.returns-in-Ok
returns-in-Ok g c = one_run c.args.program.now c.args.posts.now c.args.steps c.args.labels c.args.show c.in-Ok.ran.end c.in-Ok.ran.book c.run_out.result c.in-Ok.ensures c.run_out.ensures

pub returns-in-Err : goal.returns-in-Err
returns-in-Err g c = subst (IsRefused c.args.program.now c.args.posts.now) (sym c.whole_fault.ensures) (one_refused c.args.program.now c.args.posts.now c.in-Err.fault c.in-Err.ensures)
