use Rattle.std.proofs.Common.{◌≡◌, ◌<◌, ◌≤◌, ◌-◌, ◌∷◌, [], ◌++◌, map, length, refl, sym, ap, subst, ◌∙◌, arith, true-eqb}
use Rattle.std.proofs.lemmas.Bool.{ltb-true}
use Rattle.chr_sheet.proofs.Words.{length-map, placed_as, MayEnd, IsEndFrom, IsFront, Space, space_in, labels, position, AreEnds, ComeNext, EndHead, next_from, Row, branch_trials, trials_of}
use Rattle.chr_search.specs.Tree.{NoneFrom}
use Rattle.chr_sheet.proofs.Rows.{trials_count}
use Rattle.chr_sheet.proofs.NextBeside.{HasEnd, LacksOne, IsMadeBranch, branch_made, begins_others, front_as, none_as, labels_read, small_end, branch_ends, part_ends}
use Rattle.chr_sheet.proofs.reading.in_branch.Goals as goal
use Rattle.chr_sheet.proofs.reading.in_branch.Goals.{After-placed-placed, In-Some, In-Some-next, In_ok-push_ends, then-is_alone, else-is_alone}

-- how many labels the part has
count : (g : _) (c : After-placed-placed g) → length c.placed-placed.result.now ≡ length c.args.part.placed
count g c = sym (length-map c.placed-placed.result.now placed_as) ∙ ap length c.placed-placed.ensures.placed

lacks : (g : _) (c : In-Some g) → LacksOne (space_in c.args.setting.now c.args.active) c.args.part
lacks g c = record { plans = c.requires.plans; scoped = c.rules-rules.ensures.valid; trial_of = c.requires.first.1; some = c.placed-placed.ensures.formed.some; full = c.requires.left }

front : (g : _) (c : In-Some g) → let t = c.args.part in IsFront (space_in c.args.setting.now c.args.active) t.number t.head (labels t) c.in-Some.front
front g c =
    let t = c.args.part in
    front_as (space_in c.args.setting.now c.args.active) c.number.result t.number c.head.result t.head (map (λ p. p.label) c.placed-placed.result.now) (labels t) c.in-Some.front c.number.ensures c.head.ensures (labels_read placed_as c.placed-placed.result.now t c.placed-placed.ensures.placed) c.in-Some.ensures

-- the first label with which it ends
end : (g : _) (c : In-Some-next g) → let t = c.args.part in HasEnd (space_in c.args.setting.now c.args.active) t.number t.head (labels t) 0 c.next.new.self c.in-Some-next.first
end g c =
    let t = c.args.part in
    let next = c.next.ensures (space_in c.args.setting.now c.args.active) t.number t.head (labels t) (front g (goal.at.In-Some-next g c).In-Some) in
    record { front = next.1; least = subst (IsEndFrom (space_in c.args.setting.now c.args.active) (position t) 0) c.in-Some-next.is next.0 }

pub push_ends-requires : goal.push_ends-requires
push_ends-requires g c =
    let s : Space = space_in c.args.setting.now c.args.active in
    let t = c.args.part in
    let at = goal.at.push_ends-requires g c in
    let e = end g at.In-Some-next in
    let none : length c.in_ok-lasts.lasts.items ≡ 0 = ap length c.in_ok-lasts.ensures in
    record {
      front = (s, t.number, t.head, labels t, 0, e.front, e.least, small_end s c.args.setting.now.store.now refl c.next_label-given.ensures.labelled t (lacks g at.In-Some));
      few = omega arith;
    }

made : (g : _) (c : In_ok-push_ends g) → let s = space_in c.args.setting.now c.args.active in let t = c.args.part in LacksOne s t → HasEnd s t.number t.head (labels t) 0 c.next.new.self c.in-Some-next.first → let lasts = map placed_as c.push_ends.new.lasts.items in IsMadeBranch s t lasts × (length c.push_ends.new.lasts.items < c.args.most - 1 → NoneFrom (MayEnd s (position t)) (next_from 0 lasts))
made g c k e =
    let s : Space = space_in c.args.setting.now c.args.active in
    let t = c.args.part in
    let lasts = map placed_as c.push_ends.new.lasts.items in
    let ends = c.in_ok-push_ends.ensures.ends s t.number t.head (labels t) 0 e.front e.least in
    let more : lasts ≡ ends.0 = ends.1 ∙ ap (λ xs. map placed_as xs ++ ends.0) c.in_ok-lasts.ensures in
    let count : length lasts ≡ length c.push_ends.new.lasts.items = length-map c.push_ends.new.lasts.items placed_as in
    let some : length c.in_ok-lasts.lasts.items < length c.push_ends.new.lasts.items = c.in_ok-push_ends.ensures.some in
    (branch_made s c.args.setting.now.store.now refl c.next_label-given.ensures.labelled t k (begins_others s t c.next.new.self e.front c.requires.first.1 c.placed-placed.ensures.formed c.requires.left) lasts (omega arith) (subst (AreEnds s t.number t.head (labels t) 0) (sym more) ends.2), λ fewer. subst (λ ps. NoneFrom (MayEnd s (position t)) (next_from 0 ps)) (sym more) (ends.3 fewer))

pub new-requires : goal.new-requires
new-requires g c = let at = goal.at.new-requires g c in (made g at.In_ok-push_ends (lacks g at.In-Some) (end g at.In-Some-next)).0.row

pub returns-in_default-clause-last : goal.returns-in_default-clause-last
returns-in_default-clause-last g c = λ told.
    let s : Space = space_in c.args.setting.now c.args.active in
    let t = c.args.part in
    subst (λ z. EndHead s (z.trial ∷ [])) (sym c.of-in_default.ensures)
    (part_ends s t c.requires.first.0 (sym (count g (goal.at.returns-in_default-clause-last g c).After-placed-placed) ∙ true-eqb _ 1 (sym told))
    (none_as s c.number.result t.number c.head.result t.head (map (λ p. p.label) c.placed-placed.result.now) (labels t) 0 c.number.ensures c.head.ensures (labels_read placed_as c.placed-placed.result.now t c.placed-placed.ensures.placed) c.in_default.ensures))

pub returns-in_default-next-clause-last : goal.returns-in_default-next-clause-last
returns-in_default-next-clause-last g c = λ told.
    let s : Space = space_in c.args.setting.now c.args.active in
    let t = c.args.part in
    let at = goal.at.returns-in_default-next-clause-last g c in
    let next = c.next.ensures s t.number t.head (labels t) (front g at.In-Some) in
    subst (λ z. EndHead s (z.trial ∷ [])) (sym c.of-in_default-next.ensures)
    (part_ends s t c.requires.first.0 (sym (count g at.After-placed-placed) ∙ true-eqb _ 1 (sym told)) (subst (IsEndFrom s (position t) 0) c.in_default-next.is next.0))

pub returns-clause-last : goal.returns-clause-last
returns-clause-last g c = λ told.
    let s : Space = space_in c.args.setting.now c.args.active in
    let t = c.args.part in
    let at = goal.at.returns-clause-last g c in
    let k = lacks g at.In-Some in
    let b = made g at.In_ok-push_ends k (end g at.In-Some-next) in
    let lasts = map placed_as c.push_ends.new.lasts.items in
    let few : (length t.placed ≡ 1) × (length c.push_ends.new.lasts.items < c.args.most - 1) = elim c.if-is_alone.branch [
      | then-is_alone w ↦ (sym (count g at.After-placed-placed) ∙ w.if-is_alone.true, (let less : w.len.result < c.args.most - 1 = ltb-true _ _ (sym w.ends_head-is ∙ told) in omega (arith, w.len.ensures, c.push_ends.new.lasts.ok.0)))
      | else-is_alone w ↦ absurd (w.if-is_alone.false (true-eqb _ 1 (sym told ∙ w.ends_head-is)))
    ] in
    subst (λ (r : Row). EndHead s (branch_trials r)) (sym c.new.ensures) (branch_ends s t k few.0 lasts b.0.row.some b.0.next (b.1 few.1))

pub returns-clause-turn : goal.returns-clause-turn
returns-clause-turn g c =
    let at = goal.at.returns-clause-turn g c in
    let s : Space = space_in c.args.setting.now c.args.active in
    let t = c.args.part in
    let lasts = map placed_as c.push_ends.new.lasts.items in
    let b = (made g at.In_ok-push_ends (lacks g at.In-Some) (end g at.In-Some-next)).0 in
    let row = c.new.ensures in
    let few : length c.push_ends.new.lasts.items ≤ c.args.most - 1 = c.in_ok-push_ends.ensures.few in
    let two : 2 ≤ c.args.most = c.requires.some in
    let count : length (trials_of c.new.result) ≡ length c.push_ends.new.lasts.items = trials_count placed_as c.new.result c.push_ends.new.lasts.items (ap (λ (r : Row). r.lasts) (sym row)) in
    (trials_of c.new.result, ap (λ r. r.part ∷ trials_of c.new.result) row, omega arith, subst (λ r. ComeNext s t (trials_of r)) (sym row) b.next)
