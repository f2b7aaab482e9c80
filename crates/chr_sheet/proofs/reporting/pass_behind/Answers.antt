use Rattle.std.proofs.Common.{◌≤◌, ℕ, length, sym, subst, arith}
use Rattle.chr_sheet.proofs.Words.{MayEnd, IsEndFrom, space_in, Trial, labels, position, IsFrontOf}
use Rattle.chr_sheet.proofs.Rows.{part_few}
use Rattle.chr_sheet.proofs.Turns.{none_reported, none_ends, next_behind}
use Rattle.chr_sheet.proofs.reporting.pass_behind.Goals as goal
use Rattle.chr_sheet.proofs.reporting.pass_behind.Goals.{In-Some}

pub front_of-requires : goal.front_of-requires
front_of-requires g c =
    let few = subst (λ (part : Trial). length part.placed ≤ 5) (sym c.part.ensures.part) (part_few c.args.row.now c.part.ensures.row) in
    (omega arith, (c.requires.plans, few))

pub returns-in_default-clause-reports : goal.returns-in_default-clause-reports
returns-in_default-clause-reports g c =
    let none = subst (λ a. (l : ℕ) → MayEnd (space_in c.args.setting.now a) (position c.part.result.now) l → ⊥) c.label.ensures c.in_default.ensures in
    none_reported _ _ _ c.args.row.now.lasts (none_ends _ _ _ (subst (λ part. (l : ℕ) → MayEnd (space_in c.args.setting.now c.args.search.now.label) (position part) l → ⊥) c.part.ensures.part none))

-- the front of the row's part, for the search's label
front : (g : _) (c : In-Some g) → IsFrontOf (space_in c.args.setting.now c.args.search.now.label) c.args.row.now.part c.in-Some.front
front g c =
    subst (λ a. IsFrontOf (space_in c.args.setting.now a) c.args.row.now.part c.in-Some.front) c.label.ensures
    (subst (λ part. IsFrontOf (space_in c.args.setting.now c.label.result) part c.in-Some.front) c.part.ensures.part c.in-Some.ensures)

pub next-requires : goal.next-requires
next-requires g c =
    (space_in c.args.setting.now c.args.search.now.label, c.args.row.now.part.number, c.args.row.now.part.head, labels c.args.row.now.part, front g (goal.at.next-requires g c).In-Some)

pub returns-in_default-next-clause-reports : goal.returns-in_default-next-clause-reports
returns-in_default-next-clause-reports g c =
    let part = c.args.row.now.part in
    let ends = (c.next.ensures _ part.number part.head (labels part) (front g (goal.at.returns-in_default-next-clause-reports g c).In-Some)).0 in
    let none = subst (IsEndFrom (space_in c.args.setting.now c.args.search.now.label) (position part) 0) c.in_default-next.is ends in
    none_reported _ _ _ c.args.row.now.lasts (none_ends _ _ _ (λ l m. none l m (omega arith)))

pub pass_met-requires : goal.pass_met-requires
pass_met-requires g c =
    let part = c.args.row.now.part in
    (space_in c.args.setting.now c.args.search.now.label, (c.next.ensures _ part.number part.head (labels part) (front g (goal.at.pass_met-requires g c).In-Some)).1)

pub returns-clause-reports : goal.returns-clause-reports
returns-clause-reports g c =
    let s = space_in c.args.setting.now c.args.search.now.label in
    let part = c.args.row.now.part in
    let there = front g (goal.at.returns-clause-reports g c).In-Some in
    let next = c.next.ensures s part.number part.head (labels part) there in
    c.pass_met.ensures.reports s next.1 c.requires.stands (next_behind s _ part _ c.requires.place there.some (subst (IsEndFrom s (position part) 0) c.in-Some-next.is next.0))
