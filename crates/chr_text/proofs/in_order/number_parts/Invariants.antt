use Rattle.std.proofs.Common.{drop, map}
use Rattle.chr_text.proofs.Lists.{Turned}
use Rattle.chr_text.proofs.in_order.number_parts.Given as goal

abbrev pub invariant-loop-part : goal.invariant-loop-part
invariant-loop-part g l = Turned g.X.Part.way.numbered g.X.Part.way.raw l.fn.names (g.X.Part.before l.fn.seen) (map g.X.Part.way.said l.parts) (map g.X.Part.way.made l.made.items) l.names (g.X.Part.before l.seen) (map g.X.Part.way.said (drop l.part-index l.parts))
