use Rattle.std.proofs.Common.{◌≡◌, ◌≤◌, ◌-◌, suc, ◌∷◌, [], length, map, refl, sym, ap, subst, ◌∙◌, arith}
use Rattle.chr_sheet.proofs.Words.{arc_value, length-map, placed_as, Space, space_in, ComeNext, EndHead, AreNextHeads, Column, IsColumn, at_head, column_trials, head_in}
use Rattle.chr_sheet.proofs.Rows.{column_of}
use Rattle.chr_sheet.proofs.NextBeside.{alone_ends, column_ends, IsAlone, is_alone, first_low, column_next, column_made, last_trial}
use Rattle.chr_sheet.proofs.reading.in_column.Goals as goal
use Rattle.chr_sheet.proofs.reading.in_column.Goals.{After-pred-pred, In_ok-more, In_ok-program}

-- what is known of the first trial
known : (g : _) (c : After-pred-pred g) → IsAlone (space_in c.args.setting.now c.args.active) c.args.first (placed_as c.index-placed-0.result)
known g c = is_alone placed_as (space_in c.args.setting.now c.args.active) c.args.first c.placed.result.now c.index-placed-0.result c.requires.plans c.rules-rules.ensures.valid c.requires.first c.requires.full c.placed.ensures.formed c.placed.ensures.placed c.index-placed-0.is

-- the column of it and the heads that come next
made : (g : _) (c : In_ok-more g) → IsAlone (space_in c.args.setting.now c.args.active) c.args.first (placed_as c.index-placed-0.result) → let os = map (head_in c.args.setting.now.program.now) c.in_ok-more.more.items in IsColumn (column_of c.args.first os) × ComeNext (space_in c.args.setting.now c.args.active) c.args.first (map (at_head c.args.first) os)
made g c k =
    let s : Space = space_in c.args.setting.now c.args.active in
    let t = c.args.first in
    let p = placed_as c.index-placed-0.result in
    let os = map (head_in c.args.setting.now.program.now) c.in_ok-more.more.items in
    let pred = c.pred-pred.result in
    let name = c.pred-pred.ensures.name ∙ ap (λ y. y.atom.name) (sym c.index-placed-0.is) in
    let arity = c.pred-pred.ensures.arity ∙ ap (λ y. length y.atom.args) (sym c.index-placed-0.is) in
    let next = subst (λ r. AreNextHeads s.rules pred r t.head os) c.number.ensures (subst (λ h. AreNextHeads s.rules pred c.number.result h os) c.head.ensures (subst (λ rules. AreNextHeads rules pred c.number.result c.head.result (map (head_in rules) c.in_ok-more.more.items)) (c.deref.ensures ∙ c.requires.program) c.in_ok-more.ensures.next)) in
    (column_made s c.args.setting.now.store.now refl c.next_label-given.ensures.labelled t p pred os k name arity next, column_next s t p pred os k name arity next)

pub next_heads-requires : goal.next_heads-requires
next_heads-requires g c =
    let s : Space = space_in c.args.setting.now c.args.active in
    let low : c.args.first.head ≤ 1 = first_low s c.args.first (placed_as c.index-placed-0.result) (known g (goal.at.next_heads-requires g c).After-pred-pred) c.placed.ensures.formed in
    omega (arith, c.head.ensures)

pub new-requires : goal.new-requires
new-requires g c =
    let at = goal.at.new-requires g c in
    subst (λ rules. IsColumn (column_of c.args.first (map (head_in rules) c.in_ok-more.more.items))) (sym (c.in_ok-program.ensures ∙ c.requires.program)) (made g at.In_ok-more (known g at.After-pred-pred)).0

-- the column that is returned
column : (g : _) (c : In_ok-program g) → column_of c.args.first (map (head_in (arc_value c.in_ok-program.program)) c.in_ok-more.more.items) ≡ column_of c.args.first (map (head_in c.args.setting.now.program.now) c.in_ok-more.more.items)
column g c = ap (λ rules. column_of c.args.first (map (head_in rules) c.in_ok-more.more.items)) (c.in_ok-program.ensures ∙ c.requires.program)

pub returns-then-is_empty-clause-last : goal.returns-then-is_empty-clause-last
returns-then-is_empty-clause-last g c =
    let k = known g (goal.at.returns-then-is_empty-clause-last g c).After-pred-pred in
    subst (λ s. EndHead (space_in c.args.setting.now c.args.active) (s.trial ∷ [])) (sym c.of.ensures)
    (alone_ends (space_in c.args.setting.now c.args.active) k.plans k.scoped c.args.first k.here k.trial_of (ap length k.placed) k.full)

pub returns-clause-last : goal.returns-clause-last
returns-clause-last g c =
    let s : Space = space_in c.args.setting.now c.args.active in
    let at = goal.at.returns-clause-last g c in
    let k = known g at.After-pred-pred in
    let made = made g at.In_ok-more k in
    let os = map (head_in c.args.setting.now.program.now) c.in_ok-more.more.items in
    let us = map (at_head c.args.first) os in
    let last = last_trial s c.args.first us k.here k.trial_of made.1 in
    subst (λ (z : Column). EndHead s (column_trials z)) (sym (c.new.ensures ∙ column g at.In_ok-program)) (column_ends s k.plans k.scoped (column_of c.args.first os) made.0 c.args.first us refl last.0 last.1)

pub returns-clause-turn : goal.returns-clause-turn
returns-clause-turn g c =
    let at = goal.at.returns-clause-turn g c in
    let os = map (head_in c.args.setting.now.program.now) c.in_ok-more.more.items in
    let us = map (at_head c.args.first) os in
    let few : length c.in_ok-more.more.items ≤ c.args.most - 1 = c.in_ok-more.ensures.few in
    let some : 1 ≤ c.args.most = c.requires.some in
    let count : length us ≡ length c.in_ok-more.more.items = length-map os (at_head c.args.first) ∙ length-map c.in_ok-more.more.items (head_in c.args.setting.now.program.now) in
    let all : length (column_trials c.new.result) ≡ suc (length us) = ap (λ z. length (column_trials z)) (c.new.ensures ∙ column g at.In_ok-program) in
    (us, ap column_trials (c.new.ensures ∙ column g at.In_ok-program), omega arith, (made g at.In_ok-more (known g at.After-pred-pred)).1)
