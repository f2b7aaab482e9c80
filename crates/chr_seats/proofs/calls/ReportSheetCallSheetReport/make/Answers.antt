use Rattle.chr_seats.proofs.Lines.{reports_sheet_goes_on}
use Rattle.chr_seats.proofs.calls.ReportSheetCallSheetReport.make.Goals as goal

pub returns-clause-goes_on : goal.returns-clause-goes_on
returns-clause-goes_on g c = reports_sheet_goes_on _ _ _ _ _ _ _ _ c.report_sheet.ensures
