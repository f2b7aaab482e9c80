use Rattle.std.proofs.Common.{◌<◌, ◌+◌, ◌*◌, map, sym, ap, subst, ◌∙◌, arith}
use Rattle.chr_rule.specs.Parts.{argument}
use Rattle.chr_rule.specs.Rules.{terms_of}
use Rattle.chr_rule.specs.Terms.{term_size, terms_size}
use Rattle.chr_rule.specs.declared.term.Open.{Open as CodeOpen}
use Rattle.chr_rule.proofs.Levels.{argument-parts, same-told, term-size-at}
use Rattle.chr_rule.proofs.Lists.{differ_at}
use Rattle.chr_rule.proofs.Places.{differ_long, same_more, same_told}
use Rattle.chr_rule.proofs.term.+same.Goals as goal

pub Term::same-same_terms-requires : goal.Term::same-same_terms-requires
Term::same-same_terms-requires g t c κs within =
    let ts = c.deref-then-deref-2.result.now in
    let is = argument-parts _ c.in-Open-Open.a ts c.in-Open-Open.is-0 (c.deref-then-deref-2.ensures ∙ ap (λ (k : CodeOpen _). k.args.list.items) c.deref-then-deref.ensures) in
    (subst (λ n. 2 * terms_size (terms_of (map argument ts)) + 1 < n) c.decreases (omega (arith, ap term_size is)), within)

pub same_terms-same-requires : goal.same_terms-same-requires
same_terms-same-requires g t c κs within =
    let x = c.index-terms-i.result in
    let less : 2 * term_size (argument x) < 2 * terms_size (terms_of (map argument c.args.terms.now)) + 1 = omega (arith, term-size-at argument c.args.terms.now c.loop-i.i x (omega arith) c.index-terms-i.is) in
    (subst (λ n. 2 * term_size (argument x) < n) c.decreases less, within)

pub Term::same-returns-then-deref : goal.Term::same-returns-then-deref
Term::same-returns-then-deref g t c =
    same-told _ _ c.in-Open-Open.a c.in-Open-Open.b _ _ _ c.in-Open-Open.is-0 c.in-Open-Open.is-1
    (ap (λ (k : CodeOpen _). k.functor.number) (sym c.deref.ensures) ∙ c.if-deref.true ∙ ap (λ (k : CodeOpen _). k.functor.number) c.deref-in-Open-Open.ensures)
    (c.deref-then-deref-2.ensures ∙ ap (λ (k : CodeOpen _). k.args.list.items) c.deref-then-deref.ensures)
    (c.deref-then-deref-4.ensures ∙ ap (λ (k : CodeOpen _). k.args.list.items) c.deref-then-deref-3.ensures) c.same_terms.ensures

pub same_terms-returns-then-not-same : goal.same_terms-returns-then-not-same
same_terms-returns-then-not-same g t c =
    differ_at argument c.args.terms.now c.args.others.now c.loop-i.i _ _ _ (omega arith) (omega arith) c.index-terms-i.is c.index-others-i.is c.same.ensures c.if-not-same.true

pub same_terms-loop-i-preserved : goal.same_terms-loop-i-preserved
same_terms-loop-i-preserved g t c =
    same_more argument c.args.terms.now c.args.others.now c.loop-i.i _ _ (omega arith) (omega arith) c.index-terms-i.is c.index-others-i.is (c.same.ensures.0 c.if-not-same.false) c.loop-i.invariant

pub same_terms-returns-then-terms-others : goal.same_terms-returns-then-terms-others
same_terms-returns-then-terms-others g t c = differ_long argument c.args.terms.now c.args.others.now c.if-terms-others.true

pub same_terms-returns : goal.same_terms-returns
same_terms-returns g t c = same_told argument c.args.terms.now c.args.others.now c.loop-i.i c.loop-i-test.false (omega arith) c.loop-i.invariant
