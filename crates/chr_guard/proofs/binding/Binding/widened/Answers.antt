use Rattle.std.proofs.Common.{arith, ap, sym, ◌∙◌, length-take-le}
use Rattle.chr_guard.specs.Bindings.{bound_at, told_from}
use Rattle.chr_guard.proofs.Bindings.{at_taken, has_room, length-told}
use Rattle.chr_guard.proofs.binding.Binding.widened.Goals as goal

pub returns-clause-same : goal.returns-clause-same
returns-clause-same g c x =
    at_taken c.copy.inside.known.bits c.max.result c.copy.inside.bound.items (omega (arith, c.copy.invariant.full, c.copy.invariant.within, c.max.ensures, c.requires)) (λ y le. c.copy.invariant.behind y (omega (arith, le, c.max.ensures))) x
    ∙ sym (at_taken c.copy.inside.known.bits c.copy.inside.variables c.copy.inside.bound.items (has_room c.copy.invariant) c.copy.invariant.behind x)
    ∙ ap (λ b. bound_at b x) (c.copy.view_is ∙ c.copy-copy.ensures)

pub returns-clause-places : goal.returns-clause-places
returns-clause-places g c =
    let items = c.copy.inside.bound.items in
    omega (arith, c.max.ensures, length-take-le c.max.result (told_from c.copy.inside.known.bits 0 items) (omega (arith, c.copy.invariant.full, c.copy.invariant.within, length-told c.copy.inside.known.bits 0 items, c.max.ensures, c.requires)))
