use Rattle.std.proofs.Common.{◌≡◌, false, slice_index_or}
use Rattle.chr_plan.proofs.Fresh.{new_from}
use Rattle.chr_plan.proofs.order.are_new.Given as goal

abbrev pub invariant-loop-at : goal.invariant-loop-at
invariant-loop-at g l = new_from (λ x. slice_index_or l.bound x false) l.key l.terms l.at ≡ new_from (λ x. slice_index_or l.bound_before x false) l.key l.terms 0
