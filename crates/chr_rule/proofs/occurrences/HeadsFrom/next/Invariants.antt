use Rattle.std.proofs.Common.{◌≡◌, ℕ, List, length}
use Rattle.chr_rule.specs.Rules.{Simpagation}
use Rattle.chr_rule.specs.Occurrences.{AreListedFrom}
use Rattle.chr_rule.proofs.occurrences.HeadsFrom.next.Given as goal

abbrev pub invariant-loop-first : goal.invariant-loop-first
invariant-loop-first l = record {
  pred : l.self-inside.pred ≡ l.fn.self.pred;
  ahead : (rules : List (Simpagation ℕ)) (s i : ℕ) → AreListedFrom rules l.fn.self.pred s i l.fn.self.rest → AreListedFrom rules l.fn.self.pred s i l.self-inside.rest.now;
}

abbrev pub decreases-loop-first : goal.decreases-loop-first
decreases-loop-first l = length l.self-inside.rest.now
