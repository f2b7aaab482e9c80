use Rattle.std.proofs.Common.{map, sym, ap, ◌∙◌}
use Rattle.std.specs.List.{list_any}
use Rattle.chr_rule.specs.Parts.{argument}
use Rattle.chr_rule.specs.Terms.{IsCanonical, is_open}
use Rattle.chr_rule.specs.declared.term.Open.{Open as CodeOpen}
use Rattle.chr_rule.proofs.Levels.{canonical-told, canonical-not}
use Rattle.chr_rule.proofs.Places.{all_more, all_told, not_all}
use Rattle.chr_rule.proofs.term.+canonical.Goals as goal

pub Term::is_canonical-returns-then-are_open : goal.Term::is_canonical-returns-then-are_open
Term::is_canonical-returns-then-are_open g t c =
    let again = c.deref-then-are_open-2.ensures ∙ ap (λ (k : CodeOpen _). k.args.list.items) c.deref-then-are_open.ensures in
    let opens = c.are_open.ensures ∙ ap (λ us. list_any is_open (map argument us)) ((c.deref-in-Open.ensures ∙ ap (λ (k : CodeOpen _). k.args.list.items) c.deref.ensures) ∙ sym again) in
    canonical-told _ c.in-Open.open c.deref-then-are_open-2.result.now c.in-Open.is again c.are_open.result c.are_canonical.result opens c.if-are_open.true c.are_canonical.ensures

pub Term::is_canonical-returns-else-are_open : goal.Term::is_canonical-returns-else-are_open
Term::is_canonical-returns-else-are_open g t c =
    canonical-not _ c.in-Open.open c.deref-in-Open.result.now c.in-Open.is (c.deref-in-Open.ensures ∙ ap (λ (k : CodeOpen _). k.args.list.items) c.deref.ensures) c.are_open.result c.are_open.ensures c.if-are_open.false

pub are_canonical-returns-then-not-is_canonical : goal.are_canonical-returns-then-not-is_canonical
are_canonical-returns-then-not-is_canonical g t c =
    not_all argument IsCanonical c.args.terms.now c.loop-term.term-index _ _ c.loop-term-test.true c.term-item.is c.is_canonical.ensures c.if-not-is_canonical.true

pub are_canonical-loop-term-preserved : goal.are_canonical-loop-term-preserved
are_canonical-loop-term-preserved g t c =
    all_more argument IsCanonical c.args.terms.now c.loop-term.term-index _ c.loop-term-test.true c.term-item.is c.loop-term.invariant (c.is_canonical.ensures.0 c.if-not-is_canonical.false)

pub are_canonical-returns : goal.are_canonical-returns
are_canonical-returns g t c = all_told argument IsCanonical c.args.terms.now c.loop-term.term-index c.loop-term-test.false c.loop-term.invariant
