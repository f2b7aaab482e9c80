use Rattle.std.proofs.Common.{◌≡◌, ◌≤◌, length, map, drop, vec_len, vec_capacity}
use Rattle.chr_rule.specs.Parts.{argument}
use Rattle.chr_rule.specs.Rules.{terms_of}
use Rattle.chr_guard.specs.Values.{terms_under}
use Rattle.chr_guard.specs.Bindings.{bound_at}
use Rattle.chr_guard.proofs.Under.{so_far}
use Rattle.chr_guard.proofs.body.+made.Given as goal

abbrev pub invariant-all_made-loop-term : goal.invariant-all_made-loop-term
invariant-all_made-loop-term g l = record {
  made : so_far (bound_at l.binding) l.values.items (drop l.term-index l.terms) ≡ terms_under (bound_at l.binding) (terms_of (map argument l.terms));
  filled : vec_len l.values ≡ l.term-index;
  room : length l.terms ≤ vec_capacity l.values;
}
