use Rattle.std.proofs.Common.{◌≡◌, length, All}
use Rattle.chr_pool.proofs.making.new_deques.Given as goal

abbrev pub invariant-loop : goal.invariant-loop
invariant-loop g l = (length l.deques.items ≡ l.counter) × All (λ d. (d.parts ≡ 64) × (d.capacity ≡ l.capacity)) l.deques.items
