use Rattle.std.proofs.Common.{map, Some}
use Rattle.chr_rule.specs.Parts.{shape}
use Rattle.chr_guard.specs.Bindings.{Narrows}
use Rattle.chr_guard.specs.Instances.{atom_under}
use Rattle.chr_guard.proofs.Steps.{SoFar}
use Rattle.chr_guard.proofs.matching.fit_heads.Given as goal

abbrev pub invariant-loop-i : goal.invariant-loop-i
invariant-loop-i g l = Narrows (SoFar atom_under (map shape l.heads) (map (λ a. Some a.now) l.atoms) l.i) l.fn.binding l.binding
