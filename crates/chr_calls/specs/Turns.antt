-- What comes next for a goal, wherever the trial lies in memory.
use Rattle.std.specs.Prelude.{Result, Ok, Err}
use Rattle.chr_search.specs.Verdicts.{Trial}
use Rattle.chr_calls.specs.declared.answers.Turn.{Turn as CodeTurn}
use Rattle.chr_calls.specs.declared.answers.Turn.TheVariants as turns
use Rattle.chr_calls.specs.declared.answers.TurnFault.{TurnFault}

-- its next trial; no trial is left; or its label has left the store
pub data Turn : Type 0 where
  Next : Trial → Turn
  Done : Turn
  Gone : Turn

abbrev pub turn_of : {Z : Type 0} → Result (CodeTurn Z) TurnFault → Result Turn TurnFault
turn_of (Ok (turns.Trial trial)) = Ok (Next trial)
turn_of (Ok turns.Done) = Ok Done
turn_of (Ok turns.Gone) = Ok Gone
turn_of (Err fault) = Err fault
