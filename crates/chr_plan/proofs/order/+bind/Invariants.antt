use Rattle.std.proofs.Common.{◌≡◌, ℕ, false, ◌||◌, take, map, slice_index_or}
use Rattle.chr_rule.specs.Parts.{argument}
use Rattle.chr_plan.specs.Orders.{has_variable}
use Rattle.chr_plan.proofs.order.+bind.Given as goal

abbrev pub invariant-bind_terms-loop-term : goal.invariant-bind_terms-loop-term
invariant-bind_terms-loop-term g l = (x : ℕ) → slice_index_or l.bound x false ≡ (has_variable x (map argument (take l.term-index l.terms)) || slice_index_or l.initial.bound x false)
