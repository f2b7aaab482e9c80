use Rattle.std.proofs.Common.{take, ℕ}
use Rattle.std.specs.List.{AllByRecursion}
use Rattle.chr_rule.specs.Rules.{Simpagation}
use Rattle.chr_enumeration.specs.Picks.{Has, NoMatch}
use Rattle.chr_enumeration.proofs.search.find_with_partners.Given as goal

abbrev pub invariant-loop-place : goal.invariant-loop-place
invariant-loop-place g l = AllByRecursion (λ (rule : Simpagation ℕ). NoMatch rule (g.P.Partners.store l.fn.partners) (Has (g.P.Partners.own l.fn.partners))) (take l.place l.fn.program)
