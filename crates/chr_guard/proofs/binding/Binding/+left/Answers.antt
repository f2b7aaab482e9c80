use Rattle.std.proofs.Common.{sym, ◌∙◌}
use Rattle.chr_guard.specs.Bindings.{bound_at}
use Rattle.chr_guard.proofs.Under.{left-next, left-stop, left-end}
use Rattle.chr_guard.proofs.binding.Binding.+left.Goals as goal

pub left_behind-returns-in_err-rest : goal.left_behind-returns-in_err-rest
left_behind-returns-in_err-rest g t c =
    c.from_residual.ensures ∙ sym (left-stop (bound_at c.args.self.now) c.args.depth c.loop-term.rest c.args.terms.now c.loop-term.term-index _ c.loop-term-test.true c.term-item.is (sym c.in_err-rest.ensures)) ∙ c.loop-term.invariant

pub left_behind-loop-term-preserved : goal.left_behind-loop-term-preserved
left_behind-loop-term-preserved g t c =
    sym (left-next (bound_at c.args.self.now) c.args.depth c.loop-term.rest c.in_ok-rest.rest c.args.terms.now c.loop-term.term-index _ c.loop-term-test.true c.term-item.is (sym c.in_ok-rest.ensures)) ∙ c.loop-term.invariant

pub left_behind-returns : goal.left_behind-returns
left_behind-returns g t c = left-end (bound_at c.args.self.now) c.args.depth c.loop-term.rest c.args.terms.now c.loop-term.term-index c.loop-term-test.false ∙ c.loop-term.invariant
