use Rattle.std.proofs.Common.{◌≡◌, take}
use Rattle.chr_sheet.proofs.Words.{older, judged_in, Reports}
use Rattle.chr_sheet.proofs.reporting.report.Given as goal

-- those so far are reported
abbrev pub invariant-loop-some : goal.invariant-loop-some
invariant-loop-some g l = record {
  all : judged_in l.some-items ≡ l.judgements.others;
  label : l.search.label ≡ l.fn.search.label;
  reports : Reports (older l.program l.plans l.store.entries l.fn.search.label) l.fn.search.place (judged_in (take l.some-index l.some-items)) l.count l.search.place;
}
