use Rattle.std.proofs.Common.{◌≡◌, ◌≤◌, ℕ, List, ◌++◌, ◌∷◌, [], map, take, MatchOption}
use Rattle.chr_sheet.proofs.Words.{⊤, placed_as, Space, IsNext, IsTrialOf, position, trials_of, IsFrontOf}
use Rattle.chr_sheet.proofs.Turns.{HasMet}
use Rattle.chr_sheet.proofs.reporting.meet.Given as goal

-- the trials so far are reported, and it is known which one comes next
abbrev pub invariant-loop-last : goal.invariant-loop-last
invariant-loop-last g l = record {
  lasts : map placed_as l.last-items ≡ l.row.lasts;
  few : l.count ≤ l.last-index;
  front : (s : Space) → IsFrontOf s l.row.part l.fn.front → IsFrontOf s l.row.part l.front;
  met : (s : Space) (place : List ℕ) → IsFrontOf s l.row.part l.fn.front → IsTrialOf s.rules s.plans s.store l.row.part → IsNext s place (position l.row.part ++ l.first ∷ [])
      → HasMet s place l.row.part (take l.last-index (trials_of l.row)) l.count l.met l.next;
  low : MatchOption l.met ⊤ (λ last. last ≤ 4294967295);
}
