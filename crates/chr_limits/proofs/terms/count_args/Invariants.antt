use Rattle.std.proofs.Common.{◌≡◌, ◌≤◌, ◌+◌, map, drop}
use Rattle.chr_grammar.specs.Views.{node}
use Rattle.chr_limits.specs.Limits.{arguments_behind}
use Rattle.chr_limits.proofs.terms.count_args.Given as goal

abbrev pub invariant-loop-node : goal.invariant-loop-node
invariant-loop-node l = record {
  fits : l.count ≤ l.node-index;
  all : l.count + arguments_behind l.depth (map node (drop l.node-index l.behind)) ≡ arguments_behind l.depth (map node l.behind);
}
