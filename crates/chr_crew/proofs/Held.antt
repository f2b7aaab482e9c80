-- Tickets that no worker holds.
use Rattle.std.proofs.Common.{◌≡◌, ℕ, List, sym, ◌∙◌}
use Rattle.chr_model.specs.Goals.{Numbered, Ended}
use Rattle.chr_calls.specs.Tickets.{Ticket, AreQuiet}
use Rattle.chr_calls.proofs.Tickets.{held_is}
use Rattle.chr_crew.specs.Runs.{NoneHeld}

-- where none is open, none is held
pub quiet_free : (workers : ℕ) (tickets : List Ticket) → AreQuiet tickets → NoneHeld workers tickets
quiet_free workers tickets quiet t seat from to held =
    let is = held_is tickets t seat held in
    let ended : Numbered is.label ≡ Ended = sym is.goal ∙ quiet t in
    absurd (cc)
