use Rattle.std.proofs.Common.{◌≡◌, ◌∷◌, [], length, length-append, subst, ◌∙◌, arith}
use Rattle.chr_sheet.proofs.Words.{Misfit, Placed, Trial, IsFormed, IsVerdict, lengthened, placed_as, Row, trials_of}
use Rattle.chr_sheet.proofs.Rows.{image_at, trials_count, formed_there, all_up_to, taken_up_to, IsTold, told_up_to, told_settled, told_more, all_unfit}
use Rattle.chr_sheet.proofs.row.Row.count_misfits.Goals as goal
use Rattle.chr_sheet.proofs.row.Row.count_misfits.Goals.{After-is_misfit}

pub returns-in_default-clause-misfits : goal.returns-in_default-clause-misfits
returns-in_default-clause-misfits g c =
    let r : Row = c.args.self.now in
    let none = subst (λ (part : Trial). (p : Placed) → IsFormed (lengthened part p) → IsVerdict (lengthened part p) Misfit) c.part.ensures.part c.in_default.ensures in
    all_up_to (trials_of r) (length c.lasts.result.now) (trials_count placed_as r c.lasts.result.now c.lasts.ensures.lasts) (all_unfit r.part r.lasts none c.part.ensures.row.formed)

pub is_misfit-requires : goal.is_misfit-requires
is_misfit-requires g c =
    let r : Row = c.args.self.now in
    (omega arith, (r.part, c.loop-i.invariant.fitted, formed_there placed_as r c.lasts-last-items.result.now c.loop-i.i c.last-item.result c.part.ensures.row c.lasts-last-items.ensures.lasts c.loop-i-test.true c.last-item.is))

-- what is told of a trial
told : (g : _) (c : After-is_misfit g) → IsTold (trials_of c.args.self.now) c.loop-i.i (lengthened c.args.self.now.part (placed_as c.last-item.result)) c.is_misfit.result c.is_misfit.new.binding
told g c =
    let r : Row = c.args.self.now in
    let at = image_at placed_as (lengthened r.part) c.lasts-last-items.result.now r.lasts c.loop-i.i c.last-item.result c.lasts-last-items.ensures.lasts c.loop-i-test.true c.last-item.is in
    record {
      within = at.0;
      there = at.1;
      full = length-append r.part.placed (placed_as c.last-item.result ∷ []) ∙ c.part.ensures.row.full;
      means = c.is_misfit.ensures.misfit r.part c.loop-i.invariant.fitted;
      whole = λ no. c.is_misfit.ensures.whole no r.part c.loop-i.invariant.fitted;
    }

pub returns-then-not-is_misfit-clause-misfits : goal.returns-then-not-is_misfit-clause-misfits
returns-then-not-is_misfit-clause-misfits g c = told_up_to (told g (goal.at.returns-then-not-is_misfit-clause-misfits g c).After-is_misfit) c.if-not-is_misfit.true c.loop-i.invariant.misfits

pub returns-then-not-is_misfit-clause-settled : goal.returns-then-not-is_misfit-clause-settled
returns-then-not-is_misfit-clause-settled g c = told_settled _ c.settled.result (told g (goal.at.returns-then-not-is_misfit-clause-settled g c).After-is_misfit) c.if-not-is_misfit.true c.settled.ensures c.ok.ensures.value

pub loop-i-preserved : goal.loop-i-preserved
loop-i-preserved g c = record {
  fitted = c.is_misfit.ensures.fitted c.if-not-is_misfit.false c.args.self.now.part c.loop-i.invariant.fitted;
  lasts = c.loop-i.invariant.lasts;
  misfits = told_more (told g (goal.at.loop-i-preserved g c).After-is_misfit) c.if-not-is_misfit.false c.loop-i.invariant.misfits;
}

pub returns-clause-misfits : goal.returns-clause-misfits
returns-clause-misfits g c =
    let r : Row = c.args.self.now in
    let looked : length (trials_of r) ≡ length c.lasts-last-items.result.now = trials_count placed_as r c.lasts-last-items.result.now c.lasts-last-items.ensures.lasts in
    taken_up_to (trials_of r) c.loop-i.i (length c.lasts-2.result.now) (omega arith) (trials_count placed_as r c.lasts-2.result.now c.lasts-2.ensures.lasts) c.loop-i.invariant.misfits
