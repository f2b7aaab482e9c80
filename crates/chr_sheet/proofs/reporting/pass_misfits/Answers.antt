use Rattle.std.proofs.Common.{◌≤◌, ℕ, ◌∷◌, ◌++◌, [], length, refl, sym, subst, arith}
use Rattle.chr_sheet.proofs.Words.{MayEnd, Space, IsNext, space_in, Trial, position, IsTrialOf, IsFrontOf}
use Rattle.chr_sheet.proofs.Rows.{part_few}
use Rattle.chr_sheet.proofs.Turns.{none_reported, none_beside, none_stands, none_ends, row_reported}
use Rattle.chr_sheet.proofs.reporting.pass_misfits.Goals as goal

pub returns-in_default-clause-reports : goal.returns-in_default-clause-reports
returns-in_default-clause-reports g c =
    let none = subst (λ part. (l : ℕ) → IsNext (space_in c.args.setting.now c.args.search.now.label) c.args.search.now.place (position part ++ l ∷ []) → ⊥) c.part-part.ensures.part c.in_default.ensures in
    none_reported _ _ _ c.args.row.now.lasts (none_beside _ _ _ none)

pub returns-then-not-stands_in-clause-reports : goal.returns-then-not-stands_in-clause-reports
returns-then-not-stands_in-clause-reports g c =
    let s = space_in c.args.setting.now c.args.search.now.label in
    none_reported s _ _ c.args.row.now.lasts (none_stands s _ _ (λ i. let told = c.stands_in.ensures.1 (subst (IsTrialOf s.rules s.plans s.store) (sym c.part-part.ensures.part) i) in absurd (cc)))

pub front_of-requires : goal.front_of-requires
front_of-requires g c =
    let few = subst (λ (part : Trial). length part.placed ≤ 5) (sym c.part-part.ensures.part) (part_few c.args.row.now c.part-part.ensures.row) in
    (omega arith, (c.requires, few))

pub returns-in_default-front_of-clause-reports : goal.returns-in_default-front_of-clause-reports
returns-in_default-front_of-clause-reports g c =
    let none = subst (λ a. (l : ℕ) → MayEnd (space_in c.args.setting.now a) (position c.part-part.result.now) l → ⊥) c.label.ensures c.in_default-front_of.ensures in
    none_reported _ _ _ c.args.row.now.lasts (none_ends _ _ _ (subst (λ part. (l : ℕ) → MayEnd (space_in c.args.setting.now c.args.search.now.label) (position part) l → ⊥) c.part-part.ensures.part none))

pub pass_met-requires : goal.pass_met-requires
pass_met-requires g c =
    let s : Space = space_in c.args.setting.now c.label.result in
    (s, subst (λ part. IsFrontOf s part c.in-Some-front_of.front) c.part-part.ensures.part c.in-Some-front_of.ensures)

pub returns-clause-reports : goal.returns-clause-reports
returns-clause-reports g c =
    row_reported _ _ _ c.label.result _ _ c.part-part.result.now c.args.row.now _ _ _ c.in-Some-front_of.front c.label.ensures c.part-part.ensures.part (c.if-not-stands_in.ensures.0 refl) c.in-Some.ensures c.in-Some-front_of.ensures c.pass_met.ensures.reports
