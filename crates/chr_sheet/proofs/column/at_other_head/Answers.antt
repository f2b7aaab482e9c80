use Rattle.std.proofs.Common.{◌≡◌, ℕ, IfOk, sym, ap, subst, ◌∙◌}
use Rattle.chr_sheet.proofs.Words.{arc_value, Simpagation, trial_alone, placed_as, Trial, IsFormed, at_head, head_in}
use Rattle.chr_sheet.proofs.Rows.{only_read, at_head_alone}
use Rattle.chr_sheet.proofs.column.at_other_head.Goals as goal
use Rattle.chr_sheet.proofs.column.at_other_head.Goals.{In_ok-rule}

-- it is the trial of one label
alone : (g : _) (c : In_ok-rule g) → let other = head_in c.args.program.now c.args.other in at_head c.args.first.now other ≡ trial_alone (arc_value c.in_ok-rule.rule) other.number (record { head = other.head; label = c.index-placed-0.result.label; atom = c.in_ok-copy.field-0 })
alone g c =
    let other = head_in c.args.program.now c.args.other in
    let one = only_read placed_as c.placed.result.now c.index-placed-0.result c.args.first.now.placed c.placed.ensures.placed c.requires.alone c.index-placed-0.is in
    at_head_alone c.args.first.now other (placed_as c.index-placed-0.result) c.in_ok-copy.field-0 one c.in_ok-copy.ensures
    ∙ ap (λ (r : Simpagation ℕ). trial_alone r other.number (record { head = other.head; label = c.index-placed-0.result.label; atom = c.in_ok-copy.field-0 })) (sym (c.in_ok-rule.ensures ∙ c.rule_of.ensures))

pub alone-requires : goal.alone-requires
alone-requires g c = subst IsFormed (alone g (goal.at.alone-requires g c).In_ok-rule) c.requires.formed

pub returns : goal.returns
returns g c = subst (λ (t : Trial). IfOk c.alone.result (λ made. made ≡ t)) (sym (alone g (goal.at.returns g c).In_ok-rule)) c.alone.ensures
