-- A session with a desk of its own.
use Rattle.std.proofs.Common.{◌≡◌, ℕ, List, Result, Ok, Err, None, subst}
use Rattle.std.specs.Prelude.{IfOk}
use Rattle.chr_session.specs.Sessions.{Served}
use Rattle.chr_session.specs.declared.commands.Ended.{Ended}
use Rattle.chr_session.specs.declared.session.ServeFault.{ServeFault}
use Rattle.chr_commands.specs.Sessions.{Desk, DeskStep, IsServedAlone}

pub served_alone : (limit : ℕ) (old new : Desk) (before after left : List ℕ → Type 0)
    (ended : Result Ended ServeFault) → old ≡ (limit, None) →
    IfOk ended (λ how. (input : List ℕ) → left input →
    Served DeskStep old new before after how input) →
    IfOk ended (λ how. (input : List ℕ) → left input →
    IsServedAlone limit before after how input)
served_alone limit old new before after left (Ok how) at_first served =
    λ input is_left.
    (new, subst (λ d. Served DeskStep d new before after how input) at_first (served input is_left))
served_alone limit old new before after left (Err fault) at_first served = tt
