use Rattle.std.proofs.Common.{ℕ, List, sym, subst, ap, ◌∙◌}
use Rattle.chr_index.specs.Buckets.{IsLeastBetween}
use Rattle.chr_index.specs.Walked.{walked_labels}
use Rattle.chr_index.proofs.matches.Matches.next_at.Goals.{in-One, in-Many}
use Rattle.chr_index.proofs.matches.Matches.next_at.Goals as goal

pub returns-clause-least : goal.returns-clause-least
returns-clause-least c = elim c.match-self.branch [
  | in-One w ↦ rw w.result-is (subst (λ (ms : List ℕ). IsLeastBetween ms c.args.after c.args.below w.next_alone.result) (sym (ap walked_labels w.in-One.is) ∙ c.self.view_is) w.next_alone.ensures)
  | in-Many w ↦ rw w.result-is (rw (sym (ap walked_labels w.in-Many.is) ∙ c.self.view_is) at w.next_at.ensures.least)
]
