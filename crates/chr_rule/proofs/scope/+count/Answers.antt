use Rattle.std.proofs.Common.{ap, ◌∙◌}
use Rattle.chr_rule.specs.Parts.{argument}
use Rattle.chr_rule.specs.declared.term.Open.{Open as CodeOpen}
use Rattle.chr_rule.proofs.Levels.{known_after-parts}
use Rattle.chr_rule.proofs.Places.{map-left}
use Rattle.chr_rule.proofs.scope.+count.Goals as goal

pub count_term-returns-in-Open : goal.count_term-returns-in-Open
count_term-returns-in-Open g t c =
    c.count_terms.ensures ∙ known_after-parts _ c.in-Open.open _ c.in-Open.is (c.deref-in-Open.ensures ∙ ap (λ (k : CodeOpen _). k.args.list.items) c.deref.ensures) c.args.known

pub count_terms-loop-term-preserved : goal.count_terms-loop-term-preserved
count_terms-loop-term-preserved g t c = rw (← c.loop-term.invariant, map-left argument _ _ _ c.loop-term-test.true c.term-item.is, ← c.in_ok-known.ensures)

pub count_terms-returns-in_err-known : goal.count_terms-returns-in_err-known
count_terms-returns-in_err-known g t c = rw (c.from_residual.ensures, ← c.loop-term.invariant, map-left argument _ _ _ c.loop-term-test.true c.term-item.is, ← c.in_err-known.ensures)
