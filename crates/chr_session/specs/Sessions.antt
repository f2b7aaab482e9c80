-- A session: what the input spells, what the desk does, and what is written.
use Rattle.std.specs.Prelude.{◌≡◌, ◌⊎◌, ℕ, List, [], ◌∷◌, ◌++◌, Option, Some, None}
use Rattle.std.specs.Option.{option_to_list}
use Rattle.chr_session.specs.declared.desk.Fault.TheVariants as faults
use Rattle.chr_session.specs.declared.commands.Ended.{Ended}
use Rattle.chr_session.specs.declared.commands.Ended.TheVariants as ended
use Rattle.chr_session.specs.Commands.{Command, Spelled, Blank, Right, Faulty, Reply, Refused, Bye}
use Rattle.chr_session.specs.Spelling.{Received, Spelling, Ending, next, Reads, Spells}
use Rattle.chr_session.specs.Replies.{Wrote, Began, session_bytes}

-- the step relation of a desk: from a state a command may have this reply, and leave this state
abbrev pub Steps : Type 0 → Type 1
Steps D = D → Command → Reply → D → Type 0

-- a line of blanks has no reply, a fault is told and changes nothing, and a right command is for
-- the desk
abbrev pub RepliesTo : {D : Type 0} → Steps D → D → Spelled → Option Reply → D → Type 0
RepliesTo step old Blank answer new = (answer ≡ None) × (new ≡ old)
RepliesTo step old (Faulty fault) answer new = (answer ≡ Some (Refused fault)) × (new ≡ old)
RepliesTo step old (Right command) answer new =
    (reply : Reply) × (answer ≡ Some reply) × step old command reply new

-- the reply with which a session ends
abbrev pub closing : Ended → Option Reply
closing ended.Quit = Some Bye
closing ended.End = None
closing ended.Cut = Some (Refused faults.Cut)

abbrev pub AnswerIs : {D : Type 0} → Steps D → D → Received → Option Reply → D → Type 0
AnswerIs step old (Spelling spelled) answer new = RepliesTo step old spelled answer new
AnswerIs step old (Ending how) answer new = (answer ≡ closing how) × (new ≡ old)

-- the desk's states and the replies are a run over what was spelled
abbrev pub Answers : {D : Type 0} → Steps D → D → List Spelled → List Reply → D → Type 0
Answers step old [] replies new = (replies ≡ []) × (new ≡ old)
Answers {D} step old (spelled ∷ more) replies new =
    (answer : Option Reply) × (middle : D) × (others : List Reply) ×
    RepliesTo step old spelled answer middle × (replies ≡ option_to_list answer ++ others) ×
    Answers step middle more others new

-- a whole session: what the input spells, the desk's run over it, and the bytes of all replies
pub record Served {D : Type 0} (step : Steps D) (old new : D) (before after : List ℕ → Type 0)
    (how : Ended) (input : List ℕ) : Type 0 where
  pub spelled : List Spelled
  pub replies : List Reply
  pub spells : Spells input spelled how
  pub answers : Answers step old spelled replies new
  pub written : Wrote before after (session_bytes replies (closing how))

-- the last reply is none, or that of the end which comes next
abbrev pub LastIs : List ℕ → Option Reply → Type 0
LastIs rest last =
    (last ≡ None) ⊎
    ((how : Ended) × (after : List ℕ) × (next rest ≡ (Ending how, after)) × (last ≡ closing how))

-- a session that a device broke off: a run over what was spelled so far, and a beginning of the
-- bytes of its replies
pub record Broken {D : Type 0} (step : Steps D) (old new : D) (before after : List ℕ → Type 0)
    (input : List ℕ) : Type 0 where
  pub spelled : List Spelled
  pub replies : List Reply
  pub rest : List ℕ
  pub last : Option Reply
  pub reads : Reads input spelled rest
  pub answers : Answers step old spelled replies new
  pub last_is : LastIs rest last
  pub written : Began before after (session_bytes replies last)

-- a session that its reader broke off: every reply so far is written
pub record Unread {D : Type 0} (step : Steps D) (old new : D) (before after : List ℕ → Type 0)
    (input : List ℕ) : Type 0 where
  pub spelled : List Spelled
  pub replies : List Reply
  pub rest : List ℕ
  pub reads : Reads input spelled rest
  pub answers : Answers step old spelled replies new
  pub written : Wrote before after (session_bytes replies None)
