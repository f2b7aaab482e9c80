use Rattle.std.proofs.Common.{◌≡◌, ◌≤◌, ◌∷◌, [], length, map, sym, ap, ap₂, subst, ◌∙◌, arith}
use Rattle.chr_sheet.proofs.Words.{length-map, heads_of, lengthened, past, Space, space_in, Trial, position, trials_at, EndHead, last_of, Column, at_head, column_trials, Row, trials_of}
use Rattle.chr_sheet.proofs.NextBeside.{come_behind, last_behind, last_low, come_past_head, column_ends}
use Rattle.chr_sheet.proofs.reading.go_behind.Goals as goal

pub returns-in-Row-clause-place : goal.returns-in-Row-clause-place
returns-in-Row-clause-place g c = λ t more e here i.
    let s : Space = space_in c.args.setting.now c.args.search.now.label in
    let at = c.go_past_row.ensures.place t more (sym (ap trials_at c.in-Row.is) ∙ e) in
    come_behind s c.requires.plans c.rules-rules.ensures.valid c.go_past_row.new.search.place (last_of t more) at.0 at.1 here i

pub returns-in-Branch-clause-place : goal.returns-in-Branch-clause-place
returns-in-Branch-clause-place g c = λ t more e here i.
    let s : Space = space_in c.args.setting.now c.args.search.now.label in
    let r : Row = c.in-Branch.row in
    let some : 1 ≤ length r.lasts = c.go_past_row-in-Branch.ensures.some in
    let b = last_behind r.part (trials_of r) t more (omega (arith, length-map r.lasts (lengthened r.part))) (sym (ap trials_at c.in-Branch.is) ∙ e) in
    let at = c.go_past_row-in-Branch.ensures.place b.0 b.1 b.2 in
    come_behind s c.requires.plans c.rules-rules.ensures.valid c.go_past_row-in-Branch.new.search.place (last_of t more) (at.0 ∙ ap (λ u. past (position u)) (sym b.3)) (subst (λ (u : Trial). length u.placed ≡ length (heads_of u.rule)) (sym b.3) at.1) here i

pub go_past_alone-requires-in-Column-clause-number : goal.go_past_alone-requires-in-Column-clause-number
go_past_alone-requires-in-Column-clause-number g c = (last_low c.in-Column.column c.last-number.ensures.column c.last-number.result.0 c.last-number.result.1 c.last-number.ensures.number c.last-number.ensures.head).0

pub go_past_alone-requires-in-Column-clause-head : goal.go_past_alone-requires-in-Column-clause-head
go_past_alone-requires-in-Column-clause-head g c = (last_low c.in-Column.column c.last-number.ensures.column c.last-number.result.0 c.last-number.result.1 c.last-number.ensures.number c.last-number.ensures.head).1

pub returns-in-Column-clause-place : goal.returns-in-Column-clause-place
returns-in-Column-clause-place g c = λ t more e here i.
    let s : Space = space_in c.args.setting.now c.args.search.now.label in
    let k : Column = c.in-Column.column in
    let trials : column_trials k ≡ t ∷ more = sym (ap trials_at c.in-Column.is) ∙ e in
    let first : k.first ≡ t = cc in
    let rest : map (at_head k.first) k.more ≡ more = cc in
    let last = ap₂ last_of first rest in
    come_past_head s c.go_past_alone-in-Column.new.self.place (last_of t more)
    (ap (λ q. q.place) c.go_past_alone-in-Column.ensures ∙ ap₂ (λ r h. past (r ∷ h ∷ s.active ∷ [])) (c.last-number.ensures.number ∙ ap (λ u. u.number) last) (c.last-number.ensures.head ∙ ap (λ u. u.head) last))
    (column_ends s c.requires.plans c.rules-rules.ensures.valid k c.last-number.ensures.column t more trials here i)

pub returns-then-ends_head-clause-place : goal.returns-then-ends_head-clause-place
returns-then-ends_head-clause-place g c = λ t more e here i.
    let s : Space = space_in c.args.setting.now c.args.search.now.label in
    let is = c.last_head-number.ensures.is t more e in
    come_past_head s c.go_past_alone.new.self.place (last_of t more)
    (ap (λ q. q.place) c.go_past_alone.ensures ∙ ap₂ (λ r h. past (r ∷ h ∷ s.active ∷ [])) is.0 is.1)
    (subst (EndHead s) e (c.requires.last c.if-ends_head.true))
