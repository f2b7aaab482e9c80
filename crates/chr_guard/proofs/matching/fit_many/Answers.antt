use Rattle.std.proofs.Common.{length, Some, arith, ap, ◌∙◌}
use Rattle.chr_value.specs.Atoms.{said}
use Rattle.chr_rule.specs.Parts.{argument}
use Rattle.chr_rule.specs.Scope.{argument_known}
use Rattle.chr_guard.specs.Values.{term_under}
use Rattle.chr_guard.proofs.Steps.{known_read, read_more, read_stop, read_end}
use Rattle.chr_guard.proofs.Bindings.{keeps_both, narrows_keeps}
use Rattle.chr_guard.proofs.Matched.{value_there}
use Rattle.chr_guard.proofs.matching.fit_many.Goals as goal

pub fit_term-requires : goal.fit_term-requires
fit_term-requires g c =
    let known = ap (λ m. argument_known m (argument c.index-terms-i.result)) c.loop-i.invariant.places ∙ known_read (argument_known (length c.args.binding.now)) argument c.args.terms.now c.loop-i.i _ c.loop-i-test.true c.index-terms-i.is c.requires.known in
    (omega arith, (known, c.arg_at.ensures.within))

pub returns-then-not-fit_term-clause-narrows : goal.returns-then-not-fit_term-clause-narrows
returns-then-not-fit_term-clause-narrows g c =
    let values = c.args.atom.now.args in
    let value = said c.arg_at.result in
    read_stop term_under argument (λ t. Some t) c.args.terms.now values c.loop-i.i c.index-terms-i.result value c.loop-i-test.true (omega arith) c.index-terms-i.is (value_there values c.loop-i.i value c.arg_at.ensures.value) c.args.binding.now c.loop-i.binding c.loop-i.invariant c.if-not-fit_term.ensures.narrows

pub loop-i-preserved : goal.loop-i-preserved
loop-i-preserved g c =
    let values = c.args.atom.now.args in
    let value = said c.arg_at.result in
    read_more term_under argument (λ t. Some t) c.args.terms.now values c.loop-i.i c.index-terms-i.result value c.loop-i-test.true (omega arith) c.index-terms-i.is (value_there values c.loop-i.i value c.arg_at.ensures.value) c.args.binding.now c.loop-i.binding c.fit_term.new.binding c.loop-i.invariant c.if-not-fit_term.ensures.narrows

pub returns-clause-narrows : goal.returns-clause-narrows
returns-clause-narrows g c =
    read_end term_under argument (λ t. Some t) c.args.terms.now c.args.atom.now.args c.loop-i.i c.args.binding.now c.loop-i.binding c.loop-i-test.false (omega arith) c.loop-i.invariant

pub returns-then-not-fit_term-clause-keeps : goal.returns-then-not-fit_term-clause-keeps
returns-then-not-fit_term-clause-keeps g c = keeps_both c.args.binding.now c.loop-i.binding c.fit_term.new.binding (narrows_keeps _ c.args.binding.now c.loop-i.binding c.loop-i.invariant) c.fit_term.ensures.keeps

pub returns-clause-keeps : goal.returns-clause-keeps
returns-clause-keeps g c = narrows_keeps _ c.args.binding.now c.loop-i.binding c.loop-i.invariant
