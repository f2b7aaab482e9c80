use Rattle.std.proofs.Common.{◌<◌, ℕ, Some, None, replicate, slice_set}
use Rattle.chr_enumeration.specs.Picks.{Fills, NoMatch}
use Rattle.chr_enumeration.proofs.search.find_with_own.Given as goal

abbrev pub invariant-loop-head : goal.invariant-loop-head
invariant-loop-head g l = (i : ℕ) → i < l.head → NoMatch l.fn.rule (g.P.Partners.store l.fn.partners) (Fills (slice_set (replicate l.heads None) i (Some (l.label, l.fn.atom))))
