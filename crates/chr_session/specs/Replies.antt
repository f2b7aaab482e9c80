-- The bytes of replies, and what a sink has taken of them.
use Rattle.std.specs.Prelude.{ℕ, List, [], ◌++◌, take, codes, decimal, Option, Some, None}
use Rattle.std.specs.List.{flat_map}
use Rattle.chr_lex.specs.declared.fault.Kind.{Kind}
use Rattle.chr_lex.specs.declared.fault.Kind.TheVariants as kinds
use Rattle.chr_session.specs.declared.desk.Fault.{Fault}
use Rattle.chr_session.specs.declared.desk.Fault.TheVariants as faults
use Rattle.chr_session.specs.Commands.{Reply, Loaded, Posted, Quiet, Open, Stored, Logged, Refused, Bye}

-- all that was taken before, and then these bytes
pub record Wrote (before after : List ℕ → Type 0) (bytes : List ℕ) : Type 0 where
  pub told : (all : List ℕ) → before all → after (all ++ bytes)

-- all that was taken before, and then a beginning of these bytes
pub record Began (before after : List ℕ → Type 0) (bytes : List ℕ) : Type 0 where
  pub told : (all : List ℕ) → before all → (k : ℕ) × after (all ++ take k bytes)

-- number and name of a fault of reading
abbrev pub kind_text : Kind → List ℕ
kind_text kinds.TooLong = codes "E09 TooLong"
kind_text kinds.BadByte = codes "E03 BadByte"
kind_text kinds.Syntax = codes "E04 Syntax"
kind_text kinds.Propagation = codes "E05 Propagation"
kind_text kinds.NumberRange = codes "E06 NumberRange"
kind_text kinds.TooMany = codes "E07 TooMany"
kind_text kinds.Binding = codes "E08 Binding"
kind_text kinds.NamesFull = codes "E02 NamesFull"

abbrev pub fault_text : Fault → List ℕ
fault_text faults.NoMemory = codes "E01 NoMemory"
fault_text (faults.Reading fault) = kind_text fault.kind ++ codes " " ++ decimal fault.line
fault_text faults.AlreadyLoaded = codes "E20 AlreadyLoaded"
fault_text faults.UnknownCommand = codes "E21 UnknownCommand"
fault_text faults.LineTooLong = codes "E22 LineTooLong"
fault_text faults.Cut = codes "E23 Cut"
fault_text faults.NoProgram = codes "E24 NoProgram"
fault_text faults.WrongSeat = codes "E26 WrongSeat"

-- what a fault's text has after its number and name: the line of a fault of reading
abbrev pub place_of : Fault → List ℕ
place_of (faults.Reading fault) = codes " " ++ decimal fault.line
place_of other = []

-- the first line of a reply
abbrev pub head_of : Reply → List ℕ
head_of (Loaded rules) = codes "loaded " ++ decimal rules ++ codes "\n"
head_of (Posted first count) =
    codes "posted " ++ decimal first ++ codes " " ++ decimal count ++ codes "\n"
head_of Quiet = codes "quiet\n"
head_of Open = codes "open\n"
head_of (Stored count lines) = codes "store " ++ decimal count ++ codes "\n"
head_of (Logged count lines) = codes "log " ++ decimal count ++ codes "\n"
head_of (Refused fault) = codes "fault " ++ fault_text fault ++ codes "\n"
head_of Bye = codes "bye\n"

-- what that line has after its word
abbrev pub details_of : Reply → List ℕ
details_of (Loaded rules) = decimal rules
details_of (Posted first count) = decimal first ++ codes " " ++ decimal count
details_of (Stored count lines) = decimal count
details_of (Logged count lines) = decimal count
details_of (Refused fault) = fault_text fault
details_of other = []

-- the lines that follow it
abbrev pub lines_of : Reply → List ℕ
lines_of (Stored count lines) = lines
lines_of (Logged count lines) = lines
lines_of other = []

abbrev pub reply_bytes : Reply → List ℕ
reply_bytes reply = head_of reply ++ lines_of reply

abbrev pub answer_bytes : Option Reply → List ℕ
answer_bytes None = []
answer_bytes (Some reply) = reply_bytes reply

-- these replies, and a last one where there is one
abbrev pub session_bytes : List Reply → Option Reply → List ℕ
session_bytes replies last = flat_map reply_bytes replies ++ answer_bytes last
