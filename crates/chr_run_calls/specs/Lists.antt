-- Calls with their seats, and what they are answered, wherever the trials lie in memory.
use Rattle.std.specs.Prelude.{ℕ, List, Option, Result}
use Rattle.chr_value.specs.Atoms.{Atom}
use Rattle.chr_lex.specs.declared.fault.ReadError.{ReadError}
use Rattle.chr_search.specs.Judged.{Judgement}
use Rattle.chr_calls.specs.declared.answers.PostFault.{PostFault}
use Rattle.chr_calls.specs.declared.answers.ClaimFault.{ClaimFault}
use Rattle.chr_calls.specs.declared.answers.TurnFault.{TurnFault}
use Rattle.chr_calls.specs.declared.answers.ReportFault.{ReportFault}
use Rattle.chr_calls.specs.declared.answers.Firing.{Firing}
use Rattle.chr_calls.specs.declared.answers.FireFault.{FireFault}
use Rattle.chr_calls.specs.declared.answers.Dropping.{Dropping}
use Rattle.chr_calls.specs.declared.answers.DropFault.{DropFault}
use Rattle.chr_calls.specs.declared.answers.PutDownFault.{PutDownFault}
use Rattle.chr_calls.specs.declared.answers.MarkFault.{MarkFault}
use Rattle.chr_calls.specs.Turns.{Turn}
use Rattle.chr_calls.specs.Batches.{Batch, BatchReport}
use Rattle.chr_book.specs.declared.texts.Posted.{Posted as PostedText}

-- a judgement that is given, or the seat's own
pub data Word : Type 0 where
  Given : Judgement → Word
  Own : Word

-- judgements that are given, or the seat's own
pub data Words : Type 0 where
  GivenAll : List Judgement → Words
  OwnBatch : Words

-- a call
pub data Call : Type 0 where
  Post : List (Atom ℕ) → Call
  PostText : List ℕ → Call
  Claim : ℕ → Call
  Ask : ℕ → Call
  Report : ℕ → Word → Call
  Fire : ℕ → Word → Call
  DropGoal : ℕ → Call
  PutDown : ℕ → Call
  MarkStray : ℕ → Call
  TakeStray : Call
  AskBatch : ℕ → Call
  ReportBatch : ℕ → Words → Call

-- a call by a seat
pub record SeatCall : Type 0 where
  pub seat : ℕ
  pub call : Call

-- an answer, by the call's name; or memory ran out as the seat's own judgement was made
pub data Answer : Type 0 where
  Posted : Result ℕ PostFault → Answer
  TextPosted : Result PostedText ReadError → Answer
  Claimed : Result ℕ ClaimFault → Answer
  Asked : Result Turn TurnFault → Answer
  Reported : Result (Unit {0}) ReportFault → Answer
  Fired : Result Firing FireFault → Answer
  Dropped : Result Dropping DropFault → Answer
  IsPutDown : Result (Unit {0}) PutDownFault → Answer
  Marked : Result (Unit {0}) MarkFault → Answer
  Strayed : Option ℕ → Answer
  BatchAsked : Result Batch TurnFault → Answer
  BatchReported : BatchReport → Answer
  NoMemory : Answer

-- a call with its answer
pub record Said : Type 0 where
  pub by : SeatCall
  pub answer : Answer

abbrev pub said : SeatCall → Answer → Said
said by answer = record { by = by; answer = answer }
