use Rattle.std.proofs.Common.{◌≡◌, true, false, sym, ◌∙◌}
use Rattle.chr_rule.specs.Parts.{expression}
use Rattle.chr_guard.specs.Values.{value_of}
use Rattle.chr_guard.specs.Bindings.{bound_at}
use Rattle.chr_guard.proofs.Under.{some_is_some, none_is_none}
use Rattle.chr_guard.proofs.Valued.{value_bound}
use Rattle.chr_guard.proofs.values.value.Goals as goal

pub returns-then-not-are_bound : goal.returns-then-not-are_bound
returns-then-not-are_bound g c =
    let value = value_of (bound_at c.args.binding.now) (expression c.args.expr.now) in
    sym (none_is_none value (λ some.
    let n = some_is_some value some in
    let z : false ≡ true = sym c.if-not-are_bound.true ∙ c.are_bound.ensures.1 (value_bound c.args.binding.now (expression c.args.expr.now) n.0 n.1) in
    cc))
