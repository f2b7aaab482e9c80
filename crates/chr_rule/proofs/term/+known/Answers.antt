use Rattle.std.proofs.Common.{ap, ◌∙◌}
use Rattle.std.proofs.lemmas.List.{drop_all}
use Rattle.chr_rule.specs.Parts.{argument}
use Rattle.chr_rule.specs.declared.term.Open.{Open as CodeOpen}
use Rattle.chr_rule.proofs.Levels.{known-parts}
use Rattle.chr_rule.proofs.Places.{map-left}
use Rattle.chr_rule.proofs.term.+known.Goals as goal

pub Term::is_known-returns-in-Open : goal.Term::is_known-returns-in-Open
Term::is_known-returns-in-Open g t c =
    c.are_known.ensures ∙ known-parts _ c.in-Open.open _ c.in-Open.is (c.deref-in-Open.ensures ∙ ap (λ (k : CodeOpen _). k.args.list.items) c.deref.ensures) c.args.known

pub are_known-returns-then-not-is_known : goal.are_known-returns-then-not-is_known
are_known-returns-then-not-is_known g t c = rw (← c.loop-term.invariant, map-left argument _ _ _ c.loop-term-test.true c.term-item.is, ← c.is_known.ensures, c.if-not-is_known.true)

pub are_known-loop-term-preserved : goal.are_known-loop-term-preserved
are_known-loop-term-preserved g t c = rw (← c.loop-term.invariant, map-left argument _ _ _ c.loop-term-test.true c.term-item.is, ← c.is_known.ensures, c.if-not-is_known.false)

pub are_known-returns : goal.are_known-returns
are_known-returns g t c = rw (← c.loop-term.invariant, drop_all _ _ c.loop-term-test.false)
