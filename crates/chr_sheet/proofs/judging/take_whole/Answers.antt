use Rattle.std.proofs.Common.{◌++◌, ◌∙◌, sym, ap}
use Rattle.chr_sheet.proofs.Words.{append-nil, judged_at, judged_in, kept_before}
use Rattle.chr_sheet.proofs.Keeping.{judged_pushed}
use Rattle.chr_sheet.proofs.judging.take_whole.Goals.{in-Some+in_ok-push, in_default}
use Rattle.chr_sheet.proofs.judging.take_whole.Goals as goal

pub returns-clause-others : goal.returns-clause-others
returns-clause-others g c =
    let old = c.args.others.now.items in
    let kept = c.in_ok-before.ensures.0 in
    elim c.match-before.branch [
      | in-Some+in_ok-push w ↦ ap (λ v. judged_in v.items) w.others-is ∙ judged_pushed old w.push.new.self.items w.in-Some.before w.in_ok-push.ensures.items ∙ ap (λ js. judged_in old ++ js) (ap (kept_before judged_at) (sym w.in-Some.is) ∙ kept)
      | in_default w ↦ ap (λ v. judged_in v.items) w.others-is ∙ sym (append-nil (judged_in old)) ∙ ap (λ js. judged_in old ++ js) (ap (kept_before judged_at) (sym w.in_default.is) ∙ kept)
    ]
