use Rattle.std.proofs.Common.{◌-◌, sym, ◌∙◌}
use Rattle.chr_value.proofs.Left.{left-next, left-stop}
use Rattle.chr_value.proofs.value.+left.Goals as goal

pub Comp::left-returns-in_err-rest-2 : goal.Comp::left-returns-in_err-rest-2
Comp::left-returns-in_err-rest-2 g t c =
    c.from_residual-in_err-rest-2.ensures ∙ sym (left-stop (c.args.depth - 1) c.loop-value.rest c.deref-value-items.result.now c.loop-value.value-index _ c.loop-value-test.true c.value-item.is (sym c.in_err-rest-2.ensures)) ∙ c.loop-value.invariant

pub Comp::left-loop-value-preserved : goal.Comp::left-loop-value-preserved
Comp::left-loop-value-preserved g t c =
    sym (left-next (c.args.depth - 1) c.loop-value.rest c.in_ok-rest-2.rest c.deref-value-items.result.now c.loop-value.value-index _ c.loop-value-test.true c.value-item.is (sym c.in_ok-rest-2.ensures)) ∙ c.loop-value.invariant
