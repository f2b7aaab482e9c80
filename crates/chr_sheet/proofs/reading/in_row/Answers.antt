use Rattle.std.proofs.Common.{◌≡◌, ◌≤◌, ◌+◌, List, [], ◌∷◌, ◌++◌, ◌<◌, map, length, refl, sym, ap, subst, ◌∙◌, arith, true-eqb}
use Rattle.std.proofs.lemmas.Bool.{ltb-true}
use Rattle.chr_sheet.proofs.Words.{length-map, heads_of, placed_as, Space, space_in, Placed, Trial, labels, position, lengthened, MayEnd, IsEndFrom, IsFront, Row, trials_of, ComeNext, EndHead, next_from}
use Rattle.chr_search.specs.Tree.{NoneFrom}
use Rattle.chr_search.proofs.Judging.{last_small}
use Rattle.chr_sheet.proofs.Rows.{trials_count}
use Rattle.chr_sheet.proofs.NextBeside.{HasEnd, front_as, none_as, labels_split, IsBegun, begun, begins_others, small_end, IsMadeRow, row_made, pair_ends, row_ends}
use Rattle.chr_sheet.proofs.reading.in_row.Goals as goal
use Rattle.chr_sheet.proofs.reading.in_row.Goals.{After-placed-placed, In-Some, In-Some-of, In-Some-next, In_ok-push, In_ok-push_ends, then-is_pair, else-is_pair}

-- the labels but the last, and the last
split : (g : _) (c : In-Some g) → labels c.args.first ≡ map (λ p. p.label) c.in-Some.before.now ++ c.in-Some.last.now.label ∷ []
split g c = labels_split placed_as c.placed-placed.result.now c.in-Some.before.now c.in-Some.last.now c.args.first c.in-Some.ensures.cases.0 c.placed-placed.ensures.placed

front : (g : _) (c : In-Some-of g) → let t = c.args.first in IsFront (space_in c.args.setting.now c.args.active) t.number t.head (map (λ p. p.label) c.in-Some.before.now) c.in-Some-of.front
front g c =
    let t = c.args.first in
    let ls = map (λ p. p.label) c.in-Some.before.now in
    front_as (space_in c.args.setting.now c.args.active) c.number.result t.number c.head.result t.head ls ls c.in-Some-of.front c.number.ensures c.head.ensures refl c.in-Some-of.ensures

-- the first label past the last with which another trial ends
end : (g : _) (c : In-Some-next g) → let t = c.args.first in HasEnd (space_in c.args.setting.now c.args.active) t.number t.head (map (λ p. p.label) c.in-Some.before.now) (c.in-Some.last.now.label + 1) c.next.new.self c.in-Some-next.second
end g c =
    let s : Space = space_in c.args.setting.now c.args.active in
    let t = c.args.first in
    let ls = map (λ p. p.label) c.in-Some.before.now in
    let next = c.next.ensures s t.number t.head ls (front g (goal.at.In-Some-next g c).In-Some-of) in
    record { front = next.1; least = subst (IsEndFrom s (t.number ∷ t.head ∷ ls) (c.in-Some.last.now.label + 1)) c.in-Some-next.is next.0 }

pub overflow_add-last : goal.overflow_add-last
overflow_add-last g c =
    let small : c.in-Some.last.now.label ≤ 4294967295 = last_small c.args.first c.placed-placed.ensures.formed (map (λ p. p.label) c.in-Some.before.now) c.in-Some.last.now.label (sym (split g (goal.at.overflow_add-last g c).In-Some)) in
    omega arith

parted : (g : _) (c : In_ok-push g) → IsBegun (space_in c.args.setting.now c.args.active) c.split_last-part.result.0 (placed_as c.split_last-part.result.1) c.next.new.self c.in-Some-next.second
parted g c =
    let at = goal.at.In_ok-push g c in
    begun (space_in c.args.setting.now c.args.active) c.requires.plans c.rules-rules.ensures.valid c.split_last-part.result.0 (placed_as c.split_last-part.result.1) c.args.first c.next.new.self c.in-Some-next.second c.split_last-part.ensures c.requires.first
    c.requires.full (map (λ p. p.label) c.in-Some.before.now) c.in-Some.last.now.label (split g at.In-Some) (end g at.In-Some-next)

-- the label that the pushed ones come after
one : (g : _) (c : In_ok-push g) → c.push.new.self.items ≡ c.split_last-part.result.1 ∷ []
one g c = c.in_ok-push.ensures.items ∙ ap (λ xs. xs ++ c.split_last-part.result.1 ∷ []) c.in_ok-lasts.ensures

pub push_ends-requires : goal.push_ends-requires
push_ends-requires g c =
    let s = space_in c.args.setting.now c.args.active in
    let part = c.split_last-part.result.0 in
    let at = (goal.at.push_ends-requires g c).In_ok-push in
    let b = parted g at in
    let count : length c.push.new.self.items ≡ 1 = ap length (one g at) in
    record {
      front = (s, part.number, part.head, labels part, c.split_last-part.result.1.label + 1, b.end.front, b.end.least, small_end s c.args.setting.now.store.now refl c.next_label-given.ensures.labelled part b.lacks);
      few = omega arith;
    }

-- those pushed after it, and the row of all
pushed : (g : _) (c : In_ok-push_ends g) → IsBegun (space_in c.args.setting.now c.args.active) c.split_last-part.result.0 (placed_as c.split_last-part.result.1) c.next.new.self c.in-Some-next.second → c.push.new.self.items ≡ c.split_last-part.result.1 ∷ [] → (more : List Placed) × IsMadeRow (space_in c.args.setting.now c.args.active) c.split_last-part.result.0 (placed_as c.split_last-part.result.1) more (map placed_as c.push_ends.new.lasts.items) × (length c.push_ends.new.lasts.items < c.args.most → NoneFrom (MayEnd (space_in c.args.setting.now c.args.active) (position c.split_last-part.result.0)) (next_from (c.split_last-part.result.1.label + 1) more))
pushed g c b one =
    let s = space_in c.args.setting.now c.args.active in
    let part = c.split_last-part.result.0 in
    let last = c.split_last-part.result.1 in
    let ends = c.in_ok-push_ends.ensures.ends s part.number part.head (labels part) (last.label + 1) b.end.front b.end.least in
    let all : map placed_as c.push_ends.new.lasts.items ≡ placed_as last ∷ ends.0 = ends.1 ∙ ap (λ xs. map placed_as xs ++ ends.0) one in
    (ends.0, row_made s c.args.setting.now.store.now refl c.next_label-given.ensures.labelled part b.lacks (begins_others s part c.next.new.self b.end.front b.lacks.trial_of c.placed-placed-2.ensures.formed b.lacks.full) (placed_as last) ends.0 (map placed_as c.push_ends.new.lasts.items) b.here b.trial_of all ends.2, ends.3)

pub new-requires : goal.new-requires
new-requires g c = let at = goal.at.new-requires g c in (pushed g at.In_ok-push_ends (parted g at.In_ok-push) (one g at.In_ok-push)).1.row

-- how many labels the trial has
count : (g : _) (c : After-placed-placed g) → length c.placed-placed.result.now ≡ length c.args.first.placed
count g c = sym (length-map c.placed-placed.result.now placed_as) ∙ ap length c.placed-placed.ensures.placed

pub returns-in_default-of-clause-last : goal.returns-in_default-of-clause-last
returns-in_default-of-clause-last g c = λ told.
    let s : Space = space_in c.args.setting.now c.args.active in
    let t = c.args.first in
    let at = goal.at.returns-in_default-of-clause-last g c in
    let ls = map (λ p. p.label) c.in-Some.before.now in
    subst (λ z. EndHead s (z.trial ∷ [])) (sym c.of-in_default-of.ensures)
    (pair_ends s c.requires.plans c.rules-rules.ensures.valid t c.requires.first.0 c.requires.first.1 (sym (count g at.After-placed-placed) ∙ true-eqb _ 2 (sym told)) c.requires.full ls c.in-Some.last.now.label (split g at.In-Some)
    (none_as s c.number.result t.number c.head.result t.head ls ls (c.in-Some.last.now.label + 1) c.number.ensures c.head.ensures refl c.in_default-of.ensures))

pub returns-in_default-next-clause-last : goal.returns-in_default-next-clause-last
returns-in_default-next-clause-last g c = λ told.
    let s : Space = space_in c.args.setting.now c.args.active in
    let t = c.args.first in
    let at = goal.at.returns-in_default-next-clause-last g c in
    let ls = map (λ p. p.label) c.in-Some.before.now in
    let next = c.next.ensures s t.number t.head ls (front g at.In-Some-of) in
    subst (λ z. EndHead s (z.trial ∷ [])) (sym c.of-in_default-next.ensures)
    (pair_ends s c.requires.plans c.rules-rules.ensures.valid t c.requires.first.0 c.requires.first.1 (sym (count g at.After-placed-placed) ∙ true-eqb _ 2 (sym told)) c.requires.full ls c.in-Some.last.now.label (split g at.In-Some)
    (subst (IsEndFrom s (t.number ∷ t.head ∷ ls) (c.in-Some.last.now.label + 1)) c.in_default-next.is next.0))

pub returns-clause-last : goal.returns-clause-last
returns-clause-last g c = λ told.
    let s = space_in c.args.setting.now c.args.active in
    let part = c.split_last-part.result.0 in
    let at = goal.at.returns-clause-last g c in
    let b = parted g at.In_ok-push in
    let made = pushed g at.In_ok-push_ends b (one g at.In_ok-push) in
    let few : (length c.args.first.placed ≡ 2) × (length c.push_ends.new.lasts.items < c.args.most) = elim c.if-is_pair.branch [
      | then-is_pair w ↦ (sym (count g at.After-placed-placed) ∙ w.if-is_pair.true, (let less : w.len.result < c.args.most = ltb-true _ _ (sym w.ends_head-is ∙ told) in omega (arith, w.len.ensures, c.push_ends.new.lasts.ok.0)))
      | else-is_pair w ↦ absurd (w.if-is_pair.false (true-eqb _ 2 (sym told ∙ w.ends_head-is)))
    ] in
    let rule : length (heads_of part.rule) ≡ length (heads_of c.args.first.rule) = ap (λ (t : Trial). length (heads_of t.rule)) c.split_last-part.ensures in
    let alone : length part.placed ≡ 1 = omega (arith, b.lacks.full, rule, c.requires.full, few.0) in
    subst (EndHead s) (sym (ap trials_of c.new.ensures ∙ made.1.trials)) (row_ends s part b.lacks alone (placed_as c.split_last-part.result.1) made.0 b.here b.trial_of made.1.next (made.2 few.1))

pub returns-clause-turn : goal.returns-clause-turn
returns-clause-turn g c =
    let at = goal.at.returns-clause-turn g c in
    let s = space_in c.args.setting.now c.args.active in
    let part = c.split_last-part.result.0 in
    let made = pushed g at.In_ok-push_ends (parted g at.In_ok-push) (one g at.In_ok-push) in
    let more = map (lengthened part) made.0 in
    let few : length c.push_ends.new.lasts.items ≤ c.args.most = c.in_ok-push_ends.ensures.few in
    let count : length (trials_of c.new.result) ≡ length c.push_ends.new.lasts.items = trials_count placed_as c.new.result c.push_ends.new.lasts.items (ap (λ (r : Row). r.lasts) (sym c.new.ensures)) in
    (more, ap trials_of c.new.ensures ∙ made.1.trials ∙ ap (λ t. t ∷ more) c.split_last-part.ensures, omega arith, subst (λ t. ComeNext s t more) c.split_last-part.ensures made.1.next)
