use Rattle.std.proofs.Common.{◌≡◌, ◌<◌, ◌+◌, ◌*◌, Vec, length, sym, ap, subst, ◌∙◌, arith}
use Rattle.std.proofs.lemmas.List.{length-map}
use Rattle.chr_value.specs.Names.{number_of}
use Rattle.chr_value.specs.Atoms.{args_of, ground, grounds, renamed}
use Rattle.chr_value.specs.Limits.{size, args_size}
use Rattle.chr_value.specs.Spelling.{FitsTerm}
use Rattle.chr_value.specs.TextAtoms.{text_value, text_values}
use Rattle.chr_value.specs.declared.text_atom.TextComp.{TextComp as CodeTextComp}
use Rattle.chr_value.proofs.Levels.{text-parts, made-Comp}
use Rattle.chr_value.proofs.Lists.{count-args, fits-args, size-at}
use Rattle.chr_value.proofs.Places.{all-at, mapped-more}
use Rattle.chr_value.proofs.naming.+make.Goals as goal

pub make_value-make_values-requires : goal.make_value-make_values-requires
make_value-make_values-requires g t c κs within =
    let ts = c.deref-in-Comp-2.result.now in
    let is = text-parts c.args.text.now c.in-Comp.comp ts c.in-Comp.is (c.deref-in-Comp-2.ensures.value ∙ ap (λ (k : CodeTextComp _). k.args.items) c.deref-in-Comp.ensures) in
    (subst (λ n. 2 * args_size (args_of (text_values ts)) + 1 < n) c.decreases (omega (arith, ap size is)), (within, fits-args (text_values ts) (subst FitsTerm is c.requires).3))

pub make_value-new-args-requires : goal.make_value-new-args-requires
make_value-new-args-requires g t c =
    let ts = c.deref-in-Comp-2.result.now in
    let is = text-parts c.args.text.now c.in-Comp.comp ts c.in-Comp.is (c.deref-in-Comp-2.ensures.value ∙ ap (λ (k : CodeTextComp _). k.args.items) c.deref-in-Comp.ensures) in
    let fits = subst FitsTerm is c.requires in
    let made = c.in_ok-make_values-in-Comp.field-0 in
    let count : length made.items ≡ length ts = sym (length-map made.items ground) ∙ ap length c.in_ok-make_values-in-Comp.ensures ∙ length-map (text_values ts) _ ∙ length-map ts text_value in
    record { some = omega (arith, fits.1, count, count-args (text_values ts), length-map ts text_value, made.ok.0); few = omega (arith, fits.2, count, count-args (text_values ts), length-map ts text_value, made.ok.0) }

pub make_value-returns-in_ok-new-in-Comp : goal.make_value-returns-in_ok-new-in-Comp
make_value-returns-in_ok-new-in-Comp g t c =
    made-Comp (number_of c.args.names.now) c.in_ok-new-in-Comp.field-0 _ c.args.text.now c.in-Comp.comp c.deref-in-Comp-2.result.now c.in_ok-new-in-Comp.ensures.ok c.in-Comp.is
    (c.deref-in-Comp-2.ensures.value ∙ ap (λ (k : CodeTextComp _). k.args.items) c.deref-in-Comp.ensures)
    (c.name_in-functor.ensures.number ∙ ap (λ (k : CodeTextComp _). number_of c.args.names.now k.functor.now) c.deref.ensures) (ap (λ (l : Vec _ _). grounds l.items) c.new-args.ensures ∙ c.in_ok-make_values-in-Comp.ensures)

pub make_values-make_value-requires : goal.make_values-make_value-requires
make_values-make_value-requires g t c κs within =
    let less : 2 * size (text_value c.text-item.result) < 2 * args_size (args_of (text_values c.args.texts.now)) + 1 = omega (arith, size-at text_value c.args.texts.now c.loop-text.text-index c.text-item.result c.loop-text-test.true c.text-item.is) in
    (subst (λ n. 2 * size (text_value c.text-item.result) < n) c.decreases less, (within, all-at text_value FitsTerm c.args.texts.now c.loop-text.text-index c.text-item.result c.loop-text-test.true c.text-item.is c.requires))

pub make_values-loop-text-preserved : goal.make_values-loop-text-preserved
make_values-loop-text-preserved g t c = record {
  made = mapped-more text_value (renamed (number_of c.args.names.now)) ground c.loop-text.made.items c.push_reserved.new.self.items c.args.texts.now c.loop-text.text-index _ _ c.loop-text-test.true c.text-item.is c.push_reserved.ensures.items c.in_ok-make_value.ensures c.loop-text.invariant.made;
  filled = omega (arith, c.push_reserved.ensures.len, c.loop-text.invariant.filled);
  room = omega (arith, c.push_reserved.ensures.capacity, c.loop-text.invariant.room);
}
