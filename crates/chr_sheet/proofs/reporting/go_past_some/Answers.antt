use Rattle.std.proofs.Common.{sym, ap, subst, ◌∙◌}
use Rattle.chr_sheet.proofs.Words.{judged_at, after_all, AllByRecursion, AreRight, IsTrial, IsVerdict, Judgement, Part, position}
use Rattle.chr_sheet.proofs.reporting.go_past_some.Goals as goal

pub advance_by-requires : goal.advance_by-requires
advance_by-requires g c = λ part.
    let right = (subst (λ x. AreRight (judged_at x)) c.in-One.is c.requires.right).0 in
    subst (λ t. IsVerdict t Part) (sym c.trial.ensures) (subst (λ v. IsVerdict c.in-One.one.trial v) (sym c.verdict.ensures.verdict ∙ part) right)

pub go_past_column-requires : goal.go_past_column-requires
go_past_column-requires g c = (c.requires.trials.0, c.requires.trials.1, (subst (λ x. AllByRecursion (λ (j : Judgement). IsTrial c.requires.trials.0 (position j.trial)) (judged_at x)) c.in-Column.is c.requires.trials.2).0)

pub returns-in-Column-clause-place : goal.returns-in-Column-clause-place
returns-in-Column-clause-place g c place = c.go_past_column.ensures.place place ∙ ap (λ x. after_all place (judged_at x)) (sym c.in-Column.is)
