use Rattle.chr_seats.proofs.Lines.{reports_go_on}
use Rattle.chr_seats.proofs.calls.ReportAllCallBatchReport.make.Goals as goal

pub returns-clause-goes_on : goal.returns-clause-goes_on
returns-clause-goes_on g c = reports_go_on _ _ _ _ _ _ c.report_all.ensures
