use Rattle.std.proofs.Common.{◌≡◌, ◌≤◌, length, map, drop, flat_map}
use Rattle.chr_grammar.specs.Views.{member}
use Rattle.chr_limits.specs.Variables.{member_variables, seen_from}
use Rattle.chr_limits.specs.Scope.{body_in_scope}
use Rattle.chr_limits.specs.Views.{names}
use Rattle.chr_limits.proofs.scope.is_body_in_scope.Given as goal

abbrev pub invariant-loop-member : goal.invariant-loop-member
invariant-loop-member g l = record {
  few : length (seen_from (names l.seen.items) (flat_map member_variables (map member (drop l.member-index l.body)))) ≤ 24;
  same : body_in_scope (names l.seen.items) (map member (drop l.member-index l.body)) ≡ body_in_scope (names l.fn.seen.items) (map member l.body);
}
