use Rattle.std.proofs.Common.{◌≤◌, ◌∷◌, map, Some, sym, subst, arith}
use Rattle.chr_sheet.proofs.Words.{MayEnd, IsEndFrom, placed_as, next_from}
use Rattle.chr_sheet.proofs.NextBeside.{ArePushed, one_pushed, one_more}
use Rattle.chr_sheet.proofs.reading.push_ends.Goals as goal
use Rattle.chr_sheet.proofs.reading.push_ends.Goals.{In-Some}

-- those that were pushed so far, by the premise
pushed : (g : _) (c : In-Some g) → let q = c.requires.front in ArePushed q.0 q.1 q.2 q.3 q.4 (map placed_as c.args.lasts.now.items) (map placed_as c.ends.lasts.items) c.ends.front (Some c.in-Some.label)
pushed g c =
    let q = c.requires.front in
    subst (ArePushed q.0 q.1 q.2 q.3 q.4 (map placed_as c.args.lasts.now.items) (map placed_as c.ends.lasts.items) c.ends.front) c.in-Some.is (c.ends.invariant.pushed q.0 q.1 q.2 q.3 q.4 q.5 q.6)

pub push_end-requires : goal.push_end-requires
push_end-requires g c =
    let q = c.requires.front in
    let a = pushed g (goal.at.push_end-requires g c).In-Some in
    (q.0, q.1, q.2, q.3, a.front, a.next_is.holds)

pub overflow_add-label : goal.overflow_add-label
overflow_add-label g c =
    let q = c.requires.front in
    let a = pushed g (goal.at.overflow_add-label g c).In-Some in
    let same = c.in_ok-push_end.ensures.2 in
    let small : c.in_ok-push_end.ensures.0.label ≤ 4294967295 = q.7 (placed_as c.in_ok-push_end.ensures.0) (subst (MayEnd q.0 (q.1 ∷ q.2 ∷ q.3)) (sym same) a.next_is.holds) (c.in_ok-push_end.ensures.3 q.0 q.1 q.2 q.3 a.front) in
    omega (arith, same)

pub next-next-requires : goal.next-next-requires
next-next-requires g c =
    let q = c.requires.front in
    (q.0, q.1, q.2, q.3, (pushed g (goal.at.next-next-requires g c).In-Some).front)

pub ends-preserved : goal.ends-preserved
ends-preserved g c = record {
  few = (let count = one_more c.ends.lasts.items c.push_end.new.placed.items c.in_ok-push_end.ensures.0 c.in_ok-push_end.ensures.1 in omega arith);
  kept = (let count = one_more c.ends.lasts.items c.push_end.new.placed.items c.in_ok-push_end.ensures.0 c.in_ok-push_end.ensures.1 in omega arith);
  some = (λ none. let count = one_more c.ends.lasts.items c.push_end.new.placed.items c.in_ok-push_end.ensures.0 c.in_ok-push_end.ensures.1 in omega arith);
  pushed = λ s r h ls from f least.
      let a = subst (ArePushed s r h ls from (map placed_as c.args.lasts.now.items) (map placed_as c.ends.lasts.items) c.ends.front) c.in-Some.is (c.ends.invariant.pushed s r h ls from f least) in
      one_pushed placed_as s r h ls from (map placed_as c.args.lasts.now.items) c.ends.lasts.items c.push_end.new.placed.items c.in_ok-push_end.ensures.0 c.ends.front c.next-next.new.self c.in-Some.label c.next-next.result
      a c.in_ok-push_end.ensures.1 c.in_ok-push_end.ensures.2 (c.in_ok-push_end.ensures.3 s r h ls a.front) (c.next-next.ensures s r h ls a.front);
}

pub returns-after-ends-clause-ends : goal.returns-after-ends-clause-ends
returns-after-ends-clause-ends g c = λ s r h ls from f least. let a = c.ends.invariant.pushed s r h ls from f least in (a.more, a.is, a.ends, λ fewer. absurd (let all = c.ends-test.false in omega arith))

pub returns-in_default-clause-ends : goal.returns-in_default-clause-ends
returns-in_default-clause-ends g c = λ s r h ls from f least.
    let a = c.ends.invariant.pushed s r h ls from f least in
    (a.more, a.is, a.ends, λ fewer. subst (IsEndFrom s (r ∷ h ∷ ls) (next_from from a.more)) c.in_default.is a.next_is)
