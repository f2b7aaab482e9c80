use Rattle.std.proofs.Common.{◌≡◌, map, drop, flat_map}
use Rattle.chr_limits.specs.Variables.{seen_from}
use Rattle.chr_limits.proofs.variables.meet_each.Given as goal

abbrev pub invariant-loop-part : goal.invariant-loop-part
invariant-loop-part g l = seen_from (g.X.HasVariables.known l.seen) (flat_map g.X.HasVariables.variables (map g.X.HasVariables.said (drop l.part-index l.parts))) ≡ seen_from (g.X.HasVariables.known l.fn.seen) (flat_map g.X.HasVariables.variables (map g.X.HasVariables.said l.parts))
