use Rattle.std.proofs.Common.{◌≡◌, ◌≤◌, None, Some, false, length, refl, sym, ap, ◌∙◌, arith, true≢false}
use Rattle.chr_search.specs.Placed.{placed_as}
use Rattle.chr_search.proofs.Placing.{placed_at, placed_more, placed_all}
use Rattle.chr_search.proofs.trial.are_placed_in.Goals as goal
use Rattle.chr_search.proofs.trial.are_placed_in.Goals.{then-one-order-via-then-one-order, then-one-order-via-else-one-order+then-not-same}

pub returns-in_default : goal.returns-in_default
returns-in_default g c = (
  λ t. absurd (cc),
  λ a.
      let at = placed_at placed_as c.args.order.now c.args.store.now.entries c.args.placed.now c.loop-i.i c.index-placed-i.result (record { head = 0; key = None; fresh = false }) a c.loop-i-test.true c.index-placed-i.is in
      let z : None ≡ Some c.index-placed-i.result.atom = c.in_default.ensures ∙ at.1 in
      absurd (cc),
)

pub returns-then-one-order : goal.returns-then-one-order
returns-then-one-order g c = (
  λ t. absurd (cc),
  λ a.
      let at = placed_at placed_as c.args.order.now c.args.store.now.entries c.args.placed.now c.loop-i.i c.index-placed-i.result (record { head = 0; key = None; fresh = false }) a c.loop-i-test.true c.index-placed-i.is in
      absurd (elim c.then-one-order.branch [
        | then-one-order-via-then-one-order w ↦ w.if-one-order.true at.0
        | then-one-order-via-else-one-order+then-not-same w ↦
            let z : Some c.in-Some.atom.now ≡ Some c.index-placed-i.result.atom = c.in-Some.ensures ∙ at.1 in
            true≢false (sym (w.same.ensures.1 (cc)) ∙ w.if-not-same.true)
      ]),
)

pub loop-i-preserved : goal.loop-i-preserved
loop-i-preserved g c =
    let few : length c.args.placed.now ≤ length c.args.order.now = c.if-placed-order.false in
    placed_more placed_as c.args.order.now c.args.store.now.entries c.args.placed.now c.loop-i.i c.index-placed-i.result (record { head = 0; key = None; fresh = false }) c.loop-i.invariant c.loop-i-test.true (omega arith) c.index-placed-i.is c.if-one-order.false
    (sym c.in-Some.ensures ∙ ap (λ a. Some a) (sym (c.same.ensures.0 c.if-not-same.false)))

pub returns : goal.returns
returns g c = (λ t. placed_all placed_as c.args.order.now c.args.store.now.entries c.args.placed.now c.loop-i.i c.loop-i.invariant c.loop-i-test.false c.loop-i.auto.i-end, λ a. refl)
