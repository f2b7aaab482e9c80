use Rattle.std.proofs.Common.{◌≡◌, length}
use Rattle.chr_partners.proofs.homes.Homes.with_count.Given as goal

abbrev pub invariant-loop : goal.invariant-loop
invariant-loop g l = length l.homes.items ≡ l.counter
