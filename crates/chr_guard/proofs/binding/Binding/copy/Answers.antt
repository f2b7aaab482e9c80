use Rattle.std.proofs.Common.{◌<◌, None, length, slice_index_or, ap, refl, sym, ◌∙◌, arith, length-set, take, subst}
use Rattle.std.proofs.lemmas.Grind.{common_steps}
use Rattle.std.proofs.lemmas.List.{length-replicate}
use Rattle.chr_guard.specs.Bindings.{told_from, AreBoundBy}
use Rattle.chr_guard.proofs.Bindings.{filler, after_write, bound_copy, copy_more, length_binding}
use Rattle.chr_guard.proofs.binding.Binding.copy.Goals as goal

pub loop-variable-init : goal.loop-variable-init
loop-variable-init g c = record {
  variables = sym (length_binding c.copy.inside.known.bits c.copy.inside.variables c.copy.inside.bound.items c.free-copy.result c.copy.invariant c.copy.view_is) ∙ ap length c.free-copy.ensures ∙ length-replicate c.self.inside.variables None;
  full = c.copy.invariant.full;
  items = λ x lt. absurd (omega (arith, lt));
}

pub loop-variable-preserved : goal.loop-variable-preserved
loop-variable-preserved g c =
    let i = c.loop-variable.variable in
    let copies = c.loop-variable.copy-inside.bound.items in
    let written = after_write copies c.deref_mut.result.now i i c.index-deref-variable.result c.deref_mut.ensures.value refl in
    let place : i < length copies = omega (arith, c.loop-variable.invariant.full, c.self.invariant.within, c.loop-variable-test.true) in
    record {
      variables = c.loop-variable.invariant.variables;
      full = ap length written ∙ length-set copies i c.index-deref-variable.result ∙ c.loop-variable.invariant.full;
      items = λ x lt. ap (λ bs. slice_index_or bs x filler) written ∙ copy_more i c.self.inside.bound.items copies c.index-deref-variable.result place (grind (arith, common_steps)) c.loop-variable.invariant.items x lt;
    }

pub invariant_of-copy : goal.invariant_of-copy
invariant_of-copy g c =
    let copies = c.loop-variable.copy-inside.bound.items in
    subst (λ n. AreBoundBy c.self.inside.known.bits n copies) (sym c.loop-variable.invariant.variables)
    (bound_copy c.self.inside.known.bits c.self.inside.variables c.self.inside.bound.items copies c.args.self.now c.self.invariant c.self.view_is c.loop-variable.invariant.full (λ x lt. c.loop-variable.invariant.items x (omega (arith, lt, c.loop-variable-test.false)))).0

pub returns : goal.returns
returns g c =
    let n = c.self.inside.variables in
    let copies = c.loop-variable.copy-inside.bound.items in
    ap (λ m. take m (told_from c.self.inside.known.bits 0 copies)) c.loop-variable.invariant.variables
    ∙ (bound_copy c.self.inside.known.bits n c.self.inside.bound.items copies c.args.self.now c.self.invariant c.self.view_is c.loop-variable.invariant.full (λ x lt. c.loop-variable.invariant.items x (omega (arith, lt, c.loop-variable-test.false)))).1
