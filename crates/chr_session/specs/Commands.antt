-- What a session is told, and what it replies, wherever their bytes lie in memory.
use Rattle.std.specs.Prelude.{ℕ, List, Option, Some, None}
use Rattle.chr_session.specs.declared.desk.Fault.{Fault as FaultKind}
use Rattle.chr_session.specs.declared.desk.Command.{Command as CodeCommand}
use Rattle.chr_session.specs.declared.desk.Command.TheVariants as commands
use Rattle.chr_session.specs.declared.desk.Reply.{Reply as CodeReply}
use Rattle.chr_session.specs.declared.desk.Reply.TheVariants as replies

-- a right command, with its text, its number of calls, or its first entry counted from 1
pub data Command : Type 0 where
  Load : (text : List ℕ) → Command
  Post : (text : List ℕ) → Command
  Wait : (steps : ℕ) → Command
  Store : Command
  Log : (from : ℕ) → Command

-- a line of blanks, a right command, or a faulty one
pub data Spelled : Type 0 where
  Blank : Spelled
  Right : (command : Command) → Spelled
  Faulty : (fault : FaultKind) → Spelled

-- how many rules; first ticket and how many; how many lines, and the bytes of all of them
pub data Reply : Type 0 where
  Loaded : (rules : ℕ) → Reply
  Posted : (first count : ℕ) → Reply
  Quiet : Reply
  Open : Reply
  Stored : (count : ℕ) (lines : List ℕ) → Reply
  Logged : (count : ℕ) (lines : List ℕ) → Reply
  Refused : (fault : FaultKind) → Reply
  Bye : Reply

abbrev pub command_of : CodeCommand → Command
command_of (commands.Load text) = Load text.now
command_of (commands.Post text) = Post text.now
command_of (commands.Wait steps) = Wait steps
command_of commands.Store = Store
command_of (commands.Log from) = Log from

abbrev pub reply_of : {Z : Type 0} → CodeReply Z → Reply
reply_of (replies.Loaded rules) = Loaded rules
reply_of (replies.Posted first count) = Posted first count
reply_of replies.Quiet = Quiet
reply_of replies.Open = Open
reply_of (replies.Store count lines) = Stored count lines.items
reply_of (replies.Log count lines) = Logged count lines.items
reply_of (replies.Fault fault) = Refused fault
reply_of replies.Bye = Bye

abbrev pub answer_of : {Z : Type 0} → Option (CodeReply Z) → Option Reply
answer_of None = None
answer_of (Some reply) = Some (reply_of reply)
