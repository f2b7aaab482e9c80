use Rattle.std.proofs.Common.{◌≡◌, ◌↔◌, IsTrue, Some, true, false, sym, ap, ◌∙◌, subst, arith}
use Rattle.std.proofs.lemmas.Grind.{common_steps}
use Rattle.chr_value.specs.Atoms.{said}
use Rattle.chr_value.proofs.Chosen.{some_is}
use Rattle.chr_guard.specs.Bindings.{NarrowsIf}
use Rattle.chr_guard.proofs.Bindings.{known_bits, told_one, told_zero, told_new, told_bound, keeps_itself, narrows_keeps}
use Rattle.chr_guard.proofs.binding.Binding.hold.Goals as goal

pub returns-then-not-has : goal.returns-then-not-has
returns-then-not-has g c =
    let old = c.args.self.now in
    let none = told_zero c.self.inside.known.bits c.self.inside.variables c.args.variable c.self.inside.bound.items old c.self.invariant c.self.view_is (λ one. (let z : false ≡ true = sym c.if-not-has.true ∙ c.has.ensures.1 one in cc)) in
    let narrows = subst (NarrowsIf (λ v. v c.args.variable ≡ Some (said c.args.value)) true old) (sym c.put.ensures) (told_new old c.args.variable (said c.args.value) c.requires.place (sym none)) in
    record { narrows = narrows; keeps = narrows_keeps (λ v. v c.args.variable ≡ Some (said c.args.value)) old c.put.new.self narrows }

pub returns : goal.returns
returns g c =
    let bits = c.self.inside.known.bits in
    let places = c.self.inside.bound.items in
    let old = c.args.self.now in
    let one = c.has.ensures.0 c.if-not-has.false in
    let at = ap (λ v. Some (said v)) (grind (arith, common_steps)) ∙ told_one bits c.self.inside.variables c.args.variable places old c.self.invariant c.self.view_is one in
    record {
      narrows = told_bound c.same.result old c.args.variable (said c.args.value)
          ((known_bits bits c.self.inside.variables places old c.self.invariant c.self.view_is c.args.variable).0 one)
          (subst (λ o. IsTrue c.same.result ↔ (o ≡ Some (said c.args.value))) at (λ h. ap (λ v. Some v) (c.same.ensures.0 h), λ e. c.same.ensures.1 (some_is _ _ e)));
      keeps = keeps_itself old;
    }
