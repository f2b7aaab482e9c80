use Rattle.std.proofs.Common.{◌≡◌, ℕ, ◌+◌, ◌≤◌, Some}
use Rattle.chr_rule.specs.Rules.{RuleAtom, head_at}
use Rattle.chr_rule.specs.Index.{room_at, HasHeadsBelow}
use Rattle.chr_rule.proofs.occurrences.Occurrences.add_rule.Given as goal

abbrev pub invariant-loop-head : goal.invariant-loop-head
invariant-loop-head g l = record {
  room : (h : ℕ) (head : RuleAtom ℕ) → head_at l.rule h ≡ Some head → 7 ≤ room_at l.self.rooms head.name + l.head;
  added : HasHeadsBelow l.head l.fn.self.rows l.number l.rule l.self.rows;
}
