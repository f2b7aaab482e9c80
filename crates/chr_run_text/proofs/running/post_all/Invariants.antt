use Rattle.std.proofs.Common.{take}
use Rattle.chr_run_text.specs.RunTexts.{PostsTexts}
use Rattle.chr_run_text.proofs.Texts.{texts}
use Rattle.chr_run_text.proofs.running.post_all.Given as goal

abbrev pub invariant-loop-place : goal.invariant-loop-place
invariant-loop-place g l = PostsTexts l.fn.book (take l.place (texts l.posts)) l.book
