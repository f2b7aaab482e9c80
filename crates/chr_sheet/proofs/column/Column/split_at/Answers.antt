use Rattle.std.proofs.Common.{◌≡◌, Some, map, length, sym, ap, subst, ◌∙◌}
use Rattle.chr_sheet.proofs.Words.{arc_value, heads_of, IsFormed, at_head, column_trials, head_in}
use Rattle.chr_sheet.proofs.Rows.{IsCutAt, cut_column}
use Rattle.chr_sheet.proofs.column.Column.split_at.Goals as goal
use Rattle.chr_sheet.proofs.column.Column.split_at.Goals.{In-Some}

parted : (g : _) (c : In-Some g) → IsCutAt c.self.inside.first c.args.self c.args.index (map (head_in (arc_value c.self.inside.program)) c.pop.new.self.items) (head_in (arc_value c.self.inside.program) c.in-Some.last)
parted g c = cut_column (head_in (arc_value c.self.inside.program)) c.self.inside.first c.self.inside.more.items c.pop.new.self.items c.args.index c.in-Some.last c.args.self c.self.view_is c.self.invariant c.requires (sym c.truncate.ensures.items ∙ c.in-Some.ensures.items)

pub at_other_head-requires-clause-formed : goal.at_other_head-requires-clause-formed
at_other_head-requires-clause-formed g c = subst (λ rules. IsFormed (at_head c.self.inside.first (head_in rules c.in-Some.last))) (sym c.deref.ensures) (parted g (goal.at.at_other_head-requires-clause-formed g c).In-Some).formed

pub at_other_head-requires-clause-full : goal.at_other_head-requires-clause-full
at_other_head-requires-clause-full g c = subst (λ rules. length (heads_of (head_in rules c.in-Some.last).rule) ≡ 1) (sym c.deref.ensures) (parted g (goal.at.at_other_head-requires-clause-full g c).In-Some).full

pub new-requires : goal.new-requires
new-requires g c = (parted g (goal.at.new-requires g c).In-Some).column

pub returns : goal.returns
returns g c =
    let k = parted g (goal.at.returns g c).In-Some in
    (ap column_trials c.new.ensures ∙ k.trials, k.trial ∙ ap (λ rules. Some (at_head c.self.inside.first (head_in rules c.in-Some.last))) (sym c.deref.ensures) ∙ ap (λ t. Some t) (sym c.in_ok-trial.ensures))
