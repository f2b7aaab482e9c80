use Rattle.std.proofs.Common.{sym, ap, ◌∙◌, arith}
use Rattle.std.proofs.lemmas.List.{drop_all}
use Rattle.chr_value.proofs.Left.{left-more, left-none, left-nothing}
use Rattle.chr_rule.specs.Parts.{argument}
use Rattle.chr_rule.specs.declared.term.Open.{Open as CodeOpen}
use Rattle.chr_rule.proofs.Levels.{left-parts}
use Rattle.chr_rule.proofs.Places.{map-left}
use Rattle.chr_rule.proofs.term.+left.Goals as goal

pub Term::left-returns-in_ok-rest-in-Open : goal.Term::left-returns-in_ok-rest-in-Open
Term::left-returns-in_ok-rest-in-Open g t c =
    c.left_behind.ensures
    ∙ left-parts _ c.in-Open.open _ c.in-Open.is (c.deref-in-Open.ensures ∙ ap (λ (k : CodeOpen _). k.args.list.items) c.deref.ensures) c.args.depth c.args.room c.in_ok-rest-in-Open.rest
    (omega arith) (omega (arith, c.in_ok-rest-in-Open.ensures.0, c.in_ok-rest-in-Open.ensures.1))

pub left_behind-returns-in_err-rest : goal.left_behind-returns-in_err-rest
left_behind-returns-in_err-rest g t c =
    rw (c.from_residual.ensures, ← c.loop-term.invariant, map-left argument _ _ _ c.loop-term-test.true c.term-item.is) (sym (left-none c.args.depth c.loop-term.rest _ _ _ _ (sym c.in_err-rest.ensures)))

pub left_behind-loop-term-preserved : goal.left_behind-loop-term-preserved
left_behind-loop-term-preserved g t c =
    rw (← c.loop-term.invariant, map-left argument _ _ _ c.loop-term-test.true c.term-item.is) (sym (left-more c.args.depth c.loop-term.rest _ _ _ _ c.in_ok-rest.rest (sym c.in_ok-rest.ensures)))

pub left_behind-returns : goal.left_behind-returns
left_behind-returns g t c = rw (← c.loop-term.invariant, drop_all _ _ c.loop-term-test.false) (sym (left-nothing c.args.depth c.loop-term.rest))
