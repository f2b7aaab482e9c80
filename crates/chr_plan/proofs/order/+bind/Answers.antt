use Rattle.std.proofs.Common.{◌||◌, false, Bool, slice_index_or, ap, ◌∙◌}
use Rattle.chr_rule.specs.declared.term.Open.{Open as CodeOpen}
use Rattle.chr_plan.proofs.Standing.{stands-parts}
use Rattle.chr_plan.proofs.order.+bind.Goals as goal

pub bind_term-returns-in-Open : goal.bind_term-returns-in-Open
bind_term-returns-in-Open g t c = λ x.
    c.bind_terms.ensures x
    ∙ ap (λ (b : Bool). b || slice_index_or c.args.bound.now x false)
    (stands-parts _ c.in-Open.open _ c.in-Open.is (c.deref-in-Open.ensures ∙ ap (λ (k : CodeOpen _). k.args.list.items) c.deref.ensures) x)
