use Rattle.std.proofs.Common.{◌≡◌, ◌≤◌, ◌+◌, ℕ, List, ◌∷◌, [], map, take, MatchOption}
use Rattle.chr_sheet.proofs.Words.{⊤, Space, IsNext, column_trials, head_in}
use Rattle.chr_sheet.specs.Alone.{IsAloneOf}
use Rattle.chr_sheet.proofs.Turns.{AreAfter, ArePredOf, HasMetAlone}
use Rattle.chr_sheet.proofs.reporting.meet_alone.Given as goal

-- the trials so far are reported, and it is known which one comes next
abbrev pub invariant-loop-other : goal.invariant-loop-other
invariant-loop-other g l = record {
  more : map (head_in l.judged) l.more ≡ l.column.more;
  few : l.count ≤ l.other-index + 1;
  met : (s : Space) (place : List ℕ) → IsAloneOf s l.program l.column.first → IsNext s place (l.fn.first.0 ∷ l.fn.first.1 ∷ s.active ∷ []) → HasMetAlone s place (take (l.other-index + 1) (column_trials l.column)) l.count l.met l.next;
  pred : ArePredOf l.ahead l.column.first;
  ahead : AreAfter l.program l.ahead l.next;
  low : MatchOption l.met ⊤ (λ o. (1 ≤ o.0) × (1 ≤ o.1));
}
