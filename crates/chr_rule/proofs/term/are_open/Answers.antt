use Rattle.std.proofs.Common.{sym, ◌∙◌}
use Rattle.chr_rule.specs.Parts.{argument}
use Rattle.chr_rule.specs.Terms.{is_open}
use Rattle.chr_rule.proofs.Places.{any_here, any_left}
use Rattle.chr_rule.proofs.term.are_open.Goals as goal

pub returns-then-is_open : goal.returns-then-is_open
returns-then-is_open g c =
    sym (sym c.loop-term.invariant ∙ any_here argument is_open c.args.terms.now c.loop-term.term-index _ c.loop-term-test.true c.term-item.is (sym c.is_open.ensures ∙ c.if-is_open.true))

pub loop-term-preserved : goal.loop-term-preserved
loop-term-preserved g c =
    sym (any_left argument is_open c.args.terms.now c.loop-term.term-index _ c.loop-term-test.true c.term-item.is (sym c.is_open.ensures ∙ c.if-is_open.false)) ∙ c.loop-term.invariant
