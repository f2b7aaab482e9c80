use Rattle.std.proofs.Common.{◌<◌, ◌+◌, ◌*◌, sym, ap, subst, ◌∙◌, arith}
use Rattle.std.proofs.lemmas.Result.{err_from_is_err_and}
use Rattle.std.specs.List.{AllByRecursion}
use Rattle.chr_value.specs.Atoms.{Value, args_of}
use Rattle.chr_value.specs.Limits.{size, args_size}
use Rattle.chr_value.specs.Naming.{TermIsKnown, table_after, number_name, numbered_value, number_terms}
use Rattle.chr_value.specs.Spelling.{FitsTerm}
use Rattle.chr_value.specs.TextAtoms.{text_value, text_values}
use Rattle.chr_value.specs.declared.text_atom.TextComp.{TextComp as CodeTextComp}
use Rattle.chr_value.proofs.Said.{entered-as, entered-stop, none_after, comp-after, terms-after, terms-none, terms-end}
use Rattle.chr_value.proofs.Levels.{text-parts}
use Rattle.chr_value.proofs.Lists.{size-at, fits-args, known-args}
use Rattle.chr_value.proofs.NameLaws.{keeps-then}
use Rattle.chr_value.proofs.Places.{all-at, left-at, left-end}
use Rattle.chr_value.proofs.naming.+enter.Goals as goal

pub enter_value-enter_values-requires : goal.enter_value-enter_values-requires
enter_value-enter_values-requires g t c κs within =
    let is = text-parts c.args.text.now c.in-Comp.comp c.deref-in-Comp-2.result.now c.in-Comp.is (c.deref-in-Comp-2.ensures.value ∙ ap (λ (k : CodeTextComp _). k.args.items) c.deref-in-Comp.ensures) in
    (subst (λ n. 2 * args_size (args_of (text_values c.deref-in-Comp-2.result.now)) + 1 < n) c.decreases (omega (arith, ap size is)), (within, fits-args (text_values c.deref-in-Comp-2.result.now) (subst FitsTerm is c.requires).3))

pub enter_value-returns-in_ok-enter_name-in-Comp-clause-enters : goal.enter_value-returns-in_ok-enter_name-in-Comp-clause-enters
enter_value-returns-in_ok-enter_name-in-Comp-clause-enters g t c =
    let ts = c.deref-in-Comp-2.result.now in
    let mid = c.enter_name-in-Comp.new.names in
    let new = c.enter_values.new.names in
    let is = text-parts c.args.text.now c.in-Comp.comp ts c.in-Comp.is (c.deref-in-Comp-2.ensures.value ∙ ap (λ (k : CodeTextComp _). k.args.items) c.deref-in-Comp.ensures) in
    let named = ap (λ (k : CodeTextComp _). table_after (number_name c.args.names.now k.functor.now)) (sym c.deref.ensures) ∙ c.in_ok-enter_name-in-Comp.ensures.enters in
    entered-as (λ table. AllByRecursion (TermIsKnown table) (text_values ts)) (λ table. TermIsKnown table (text_value c.args.text.now)) c.enter_values.result (number_terms mid (text_values ts)) (numbered_value c.args.names.now (text_value c.args.text.now)) new
    (ap (λ (v : Value _). table_after (numbered_value c.args.names.now v)) is ∙ comp-after c.args.names.now mid _ (text_values ts) named) (λ q. known-args new (text_values ts) (subst (TermIsKnown new) is q).1) c.enter_values.ensures.enters

pub enter_values-enter_value-requires : goal.enter_values-enter_value-requires
enter_values-enter_value-requires g t c κs within =
    let less : 2 * size (text_value c.text-item.result) < 2 * args_size (args_of (text_values c.args.texts.now)) + 1 = omega (arith, size-at text_value c.args.texts.now c.loop-text.text-index c.text-item.result c.loop-text-test.true c.text-item.is) in
    (subst (λ n. 2 * size (text_value c.text-item.result) < n) c.decreases less, (within, all-at text_value FitsTerm c.args.texts.now c.loop-text.text-index c.text-item.result c.loop-text-test.true c.text-item.is c.requires))

pub enter_values-returns-in_err-enter_value-clause-enters : goal.enter_values-returns-in_err-enter_value-clause-enters
enter_values-returns-in_err-enter_value-clause-enters g t c =
    let p = err_from_is_err_and c.from_residual.result c.from_residual.ensures.1 in
    let texts = c.args.texts.now in
    let x = c.text-item.result in
    let new = c.enter_value.new.names in
    let all = number_terms c.args.names.now (text_values texts) in
    rw (p.1, p.2) (entered-stop (Unit {0}) (Unit {0}) (λ table. TermIsKnown table (text_value x)) (λ table. AllByRecursion (TermIsKnown table) (text_values texts)) c.in_err-enter_value.field-0.0 (numbered_value c.loop-text.names (text_value x)) all new
    (λ none. none_after all (sym c.loop-text.invariant.so_far ∙ ap table_after (terms-none c.loop-text.names (text_value x) _ _ (left-at text_value texts c.loop-text.text-index x c.loop-text-test.true c.text-item.is) none)))
    (all-at text_value (TermIsKnown new) texts c.loop-text.text-index x c.loop-text-test.true c.text-item.is) c.in_err-enter_value.ensures.enters)

pub enter_values-loop-text-preserved : goal.enter_values-loop-text-preserved
enter_values-loop-text-preserved g t c =
    let left = left-at text_value c.args.texts.now c.loop-text.text-index c.text-item.result c.loop-text-test.true c.text-item.is in record {
      so_far = sym (terms-after c.loop-text.names c.enter_value.new.names (text_value c.text-item.result) _ _ left c.in_ok-enter_value.ensures.enters) ∙ c.loop-text.invariant.so_far;
      keeps = keeps-then c.args.names.now c.loop-text.names c.enter_value.new.names c.loop-text.invariant.keeps c.in_ok-enter_value.ensures.keeps;
      fits = λ h. c.in_ok-enter_value.ensures.fits (c.loop-text.invariant.fits h);
    }

pub enter_values-returns-clause-enters : goal.enter_values-returns-clause-enters
enter_values-returns-clause-enters g t c =
    sym c.loop-text.invariant.so_far ∙ terms-end c.loop-text.names _ (left-end text_value c.args.texts.now c.loop-text.text-index c.loop-text-test.false)
