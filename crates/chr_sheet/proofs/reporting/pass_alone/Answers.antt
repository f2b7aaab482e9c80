use Rattle.std.proofs.Common.{map, refl, sym, ap, subst, ◌∙◌}
use Rattle.chr_sheet.proofs.Words.{Space, space_in, SearchState, Column, column_trials, misfit, Reports}
use Rattle.chr_sheet.specs.Alone.{IsAloneOf, place_past}
use Rattle.chr_sheet.proofs.Rows.{only_placed}
use Rattle.chr_sheet.proofs.Turns.{alone_as, none_alone_in, none_next_alone}
use Rattle.chr_sheet.proofs.reporting.pass_alone.Goals.{In-Some}
use Rattle.chr_sheet.proofs.reporting.pass_alone.Goals as goal

pub returns-then-not-is_alone_in-clause-reports : goal.returns-then-not-is_alone_in-clause-reports
returns-then-not-is_alone_in-clause-reports g c =
    let s : Space = space_in c.args.setting.now c.args.search.now.label in
    let k : Column = c.args.column.now in
    let one = only_placed k.first.placed c.first.ensures.column.alone in
    none_alone_in s c.args.search.now.place k one.0 one.1
    (λ a. let yes = c.if-not-is_alone_in.ensures.1 (alone_as s.store s.active c.label.result k.first c.first.result.now (sym c.label.ensures) (sym c.first.ensures.first) a) in absurd (cc))

pub returns-in_default-clause-reports : goal.returns-in_default-clause-reports
returns-in_default-clause-reports g c =
    let s : Space = space_in c.args.setting.now c.args.search.now.label in
    let k : Column = c.args.column.now in
    let a = alone_as s.store c.label.result s.active c.first.result.now k.first c.label.ensures c.first.ensures.first (c.if-not-is_alone_in.ensures.0 refl) in
    none_next_alone s c.args.search.now.place k a c.in_default.ensures

-- it has the active label alone
alone : (g : _) (c : In-Some g) → IsAloneOf (space_in c.args.setting.now c.args.search.now.label) c.args.setting.now.program.now c.args.column.now.first
alone g c =
    let a = alone_as c.args.setting.now.store.now.entries c.label.result c.args.search.now.label c.first.result.now c.args.column.now.first c.label.ensures c.first.ensures.first (c.if-not-is_alone_in.ensures.0 refl) in
    record { rules_are = refl; plans = c.requires; alone = a }

pub meet_alone-count-requires : goal.meet_alone-count-requires
meet_alone-count-requires g c = (space_in c.args.setting.now c.args.search.now.label, c.args.search.now.place, alone g (goal.at.meet_alone-count-requires g c).In-Some, c.in-Some.ensures)

pub returns-in-Some-met-clause-reports : goal.returns-in-Some-met-clause-reports
returns-in-Some-met-clause-reports g c =
    let s : Space = space_in c.args.setting.now c.args.search.now.label in
    let k : Column = c.args.column.now in
    let reports = c.meet_alone-count.ensures.reports s c.args.search.now.place (alone g (goal.at.returns-in-Some-met-clause-reports g c).In-Some) c.in-Some.ensures in
    subst (Reports s c.args.search.now.place (map misfit (column_trials k)) c.meet_alone-count.result.0) (ap (place_past c.args.search.now.place s.active) c.in-Some-met.is ∙ sym (ap (λ (z : SearchState). z.place) c.go_past_alone.ensures)) reports

pub returns-in_default-met-clause-reports : goal.returns-in_default-met-clause-reports
returns-in_default-met-clause-reports g c =
    let s : Space = space_in c.args.setting.now c.args.search.now.label in
    let k : Column = c.args.column.now in
    let reports = c.meet_alone-count.ensures.reports s c.args.search.now.place (alone g (goal.at.returns-in_default-met-clause-reports g c).In-Some) c.in-Some.ensures in
    subst (Reports s c.args.search.now.place (map misfit (column_trials k)) c.meet_alone-count.result.0) (ap (place_past c.args.search.now.place s.active) c.in_default-met.is) reports
