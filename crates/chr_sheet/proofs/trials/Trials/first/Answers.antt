use Rattle.std.proofs.Common.{Some, slice_get, sym, ap, ◌∙◌}
use Rattle.std.proofs.lemmas.Result.{IfOk-weaker}
use Rattle.chr_sheet.proofs.Words.{placed_as, lengthened, trials_at}
use Rattle.chr_sheet.proofs.Rows.{first_of}
use Rattle.chr_sheet.proofs.trials.Trials.first.Goals as goal

pub returns-in_ok-copy-in-Row : goal.returns-in_ok-copy-in-Row
returns-in_ok-copy-in-Row g c =
    let row = c.in-Row.row in
    IfOk-weaker c.lengthened.result _ _ (λ made e.
    ap (λ ts. slice_get (trials_at ts) 0) c.in-Row.is ∙ first_of placed_as row c.lasts.result.now c.index-lasts-0.result c.lasts.ensures.lasts c.lasts.ensures.row.some c.index-lasts-0.is
    ∙ ap (λ t. Some (lengthened t (placed_as c.index-lasts-0.result))) (sym c.part-in-Row.ensures.part)
    ∙ ap (λ p. Some (lengthened c.part-in-Row.result.now p)) (sym c.in_ok-copy-in-Row.ensures)
    ∙ ap (λ t. Some t) (sym e)) c.lengthened.ensures
