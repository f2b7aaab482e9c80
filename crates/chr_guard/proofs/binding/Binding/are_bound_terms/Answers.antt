use Rattle.chr_rule.specs.Parts.{argument}
use Rattle.chr_rule.proofs.Places.{all_more, all_told, not_all}
use Rattle.chr_guard.specs.Bindings.{IsBound}
use Rattle.chr_guard.proofs.binding.Binding.are_bound_terms.Goals as goal

pub loop-term-preserved : goal.loop-term-preserved
loop-term-preserved g c =
    all_more argument (IsBound c.args.self.now) c.args.terms.now c.loop-term.term-index c.term-item.result c.loop-term-test.true c.term-item.is c.loop-term.invariant (c.is_bound_term.ensures.0 c.if-not-is_bound_term.false)

pub returns-then-not-is_bound_term : goal.returns-then-not-is_bound_term
returns-then-not-is_bound_term g c =
    not_all argument (IsBound c.args.self.now) c.args.terms.now c.loop-term.term-index c.term-item.result c.is_bound_term.result c.loop-term-test.true c.term-item.is c.is_bound_term.ensures c.if-not-is_bound_term.true

pub returns : goal.returns
returns g c = all_told argument (IsBound c.args.self.now) c.args.terms.now c.loop-term.term-index c.loop-term-test.false c.loop-term.invariant
