use Rattle.std.proofs.Common.{◌≡◌, ℕ, List, Some, map, subst, arith, rules}
use Rattle.chr_sheet.proofs.Words.{take_all, placed_as, lengthened, Space, Placed, labels, Row, misfit, trials_of, IsFrontOf, IsNextTrial, Reports, place_after}
use Rattle.chr_sheet.proofs.Rows.{trials_count, trials_step, formed_there, label_low}
use Rattle.chr_sheet.proofs.Turns.{ComesWith, met_none, met_other, met_one, next_is, told_other_label, other_label, other_atom}
use Rattle.chr_sheet.proofs.reporting.meet.Goals.{then-ne-via-then-ne, then-ne-via-else-ne+then-not-has}
use Rattle.chr_sheet.proofs.reporting.meet.Goals as goal

pub loop-last-init : goal.loop-last-init
loop-last-init g c = record {
  lasts = c.lasts-last-items.ensures.lasts;
  few = omega arith;
  front = λ s f. f;
  met = λ s place f stands next. met_none s place c.args.row.now.part c.args.first next;
  low = tt;
}

pub has-requires : goal.has-requires
has-requires g c = (c.requires.0, c.args.row.now.part.number, c.args.row.now.part.head, labels c.args.row.now.part, c.loop-last.invariant.front c.requires.0 c.requires.1)

pub loop-last-preserved-then-ne : goal.loop-last-preserved-then-ne
loop-last-preserved-then-ne g c =
    let r : Row = c.args.row.now in
    let p : Placed = placed_as c.last-item.result in
    let i = c.loop-last.invariant in
    let step = trials_step placed_as r c.lasts-last-items.result.now c.loop-last.last-index c.last-item.result i.lasts c.loop-last-test.true c.last-item.is in
    let not : (s : Space) (place : List ℕ) → IsFrontOf s r.part c.args.front.now → ComesWith s place r.part c.loop-last.next → IsNextTrial s place (lengthened r.part p) → ⊥ =
    elim c.then-ne.branch [
      | then-ne-via-then-ne w ↦ λ s place f comes. other_label s place r.part c.loop-last.next p comes (told_other_label c.loop-last.next p.label w.if-ne.ensures)
      | then-ne-via-else-ne+then-not-has w ↦ λ s place f comes. other_atom s place r.part p (λ a. let there = (w.has.ensures s r.part.number r.part.head (labels r.part) (i.front s f)).1 a in absurd (cc))
    ] in
    record {
      lasts = i.lasts;
      few = omega arith;
      front = i.front;
      met = λ s place f stands next. let so_far = i.met s place f stands next in met_other s place r.part p _ _ c.loop-last.count c.loop-last.met c.loop-last.next step so_far (not s (place_after place r.part c.loop-last.met) f so_far.1);
      low = i.low;
    }

pub overflow_add-last : goal.overflow_add-last
overflow_add-last g c =
    omega (arith, label_low c.args.row.now.part (placed_as c.last-item.result) (formed_there placed_as c.args.row.now c.lasts-last-items.result.now c.loop-last.last-index c.last-item.result c.lasts-last-items.ensures.row c.loop-last.invariant.lasts c.loop-last-test.true c.last-item.is))

pub next-next-requires : goal.next-next-requires
next-next-requires g c = (c.requires.0, c.args.row.now.part.number, c.args.row.now.part.head, labels c.args.row.now.part, c.loop-last.invariant.front c.requires.0 c.requires.1)

pub loop-last-preserved : goal.loop-last-preserved
loop-last-preserved g c =
    let r : Row = c.args.row.now in
    let p : Placed = placed_as c.last-item.result in
    let i = c.loop-last.invariant in
    let step = trials_step placed_as r c.lasts-last-items.result.now c.loop-last.last-index c.last-item.result i.lasts c.loop-last-test.true c.last-item.is in
    let is : c.loop-last.next ≡ Some p.label = next_is c.loop-last.next p.label c.if-ne.ensures in
    record {
      lasts = i.lasts;
      few = omega arith;
      front = λ s f. (c.next-next.ensures s r.part.number r.part.head (labels r.part) (i.front s f)).1;
      met = λ s place f stands next.
          let front = i.front s f in
          let there = (c.has.ensures s r.part.number r.part.head (labels r.part) front).0 (search rules) in
          met_one s place r.part p _ _ c.loop-last.count c.loop-last.met c.loop-last.next c.next-next.result step (i.met s place f stands next) stands is there front.some (c.next-next.ensures s r.part.number r.part.head (labels r.part) front).0;
      low = label_low r.part p (formed_there placed_as r c.lasts-last-items.result.now c.loop-last.last-index c.last-item.result c.lasts-last-items.ensures.row i.lasts c.loop-last-test.true c.last-item.is);
    }

pub returns : goal.returns
returns g c =
    let r : Row = c.args.row.now in
    let i = c.loop-last.invariant in
    let all = take_all c.loop-last.last-index (trials_of r) (omega (arith, trials_count placed_as r c.lasts-last-items.result.now i.lasts)) in
    record { reports = λ s place f stands next. subst (λ ts. Reports s place (map misfit ts) c.loop-last.count (place_after place r.part c.loop-last.met)) all (i.met s place f stands next).0; low = i.low }
