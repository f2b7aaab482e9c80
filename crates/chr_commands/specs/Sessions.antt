-- A session with a desk of its own.
use Rattle.std.specs.Prelude.{◌≡◌, ℕ, List, Option, None}
use Rattle.chr_calls.specs.Books.{BookState}
use Rattle.chr_session.specs.Sessions.{Steps, Served}
use Rattle.chr_session.specs.declared.commands.Ended.{Ended}
use Rattle.chr_solo.specs.SoloSteps.{SoloReplies}

-- the limit on labels, and the book once a program is loaded
abbrev pub Desk : Type 0
Desk = ℕ × Option BookState

-- a command to the desk, whose limit stays
abbrev pub DeskStep : Steps Desk
DeskStep old command reply new =
    SoloReplies old.0 old.1 command reply new.1 × (new.0 ≡ old.0)

-- a whole session with a desk that has no program at first, and gives no label above the limit
abbrev pub IsServedAlone : ℕ → (List ℕ → Type 0) → (List ℕ → Type 0) → Ended → List ℕ → Type 0
IsServedAlone limit before after how input =
    (new : Desk) × Served DeskStep (limit, None) new before after how input
