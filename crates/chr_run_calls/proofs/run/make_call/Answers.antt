use Rattle.std.proofs.Common.{subst, sym}
use Rattle.chr_run_calls.specs.declared.calls.Call.{Call}
use Rattle.chr_run_calls.specs.CallLists.{Answers}
use Rattle.chr_run_calls.specs.Code.{call_of, answer_of, said_by}
use Rattle.chr_run_calls.proofs.run.make_call.Goals as goal

pub returns-in-Report : goal.returns-in-Report
returns-in-Report g c =
    subst (λ (x : Call g.row.A.Denot). Answers c.args.book.now (said_by c.args.calls.now c.args.answers.now) c.args.seat (call_of x) (answer_of c.act_by_word.result) c.act_by_word.new.book) (sym c.in-Report.is) c.act_by_word.ensures

pub returns-in-Fire : goal.returns-in-Fire
returns-in-Fire g c =
    subst (λ (x : Call g.row.A.Denot). Answers c.args.book.now (said_by c.args.calls.now c.args.answers.now) c.args.seat (call_of x) (answer_of c.act_by_word-in-Fire.result) c.act_by_word-in-Fire.new.book) (sym c.in-Fire.is) c.act_by_word-in-Fire.ensures

pub returns-in-ReportBatch : goal.returns-in-ReportBatch
returns-in-ReportBatch g c =
    subst (λ (x : Call g.row.A.Denot). Answers c.args.book.now (said_by c.args.calls.now c.args.answers.now) c.args.seat (call_of x) (answer_of c.report_by_words.result) c.report_by_words.new.book) (sym c.in-ReportBatch.is) c.report_by_words.ensures
