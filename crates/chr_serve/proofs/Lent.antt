-- Sessions whose desk is seen as what it has.
use Rattle.std.specs.Prelude.{◌≡◌, ℕ, List, [], ◌∷◌, Result, Ok, Err, IfOk, OnErr}
use Rattle.std.proofs.Common.{ap, subst}
use Rattle.chr_session.specs.declared.commands.Ended.{Ended}
use Rattle.chr_session.specs.Commands.{Command, Spelled, Blank, Right, Faulty, Reply}
use Rattle.chr_session.specs.Sessions.{Steps, Answers, Served, Broken}

-- the same run, each state seen as another
answers_seen : {D E : Type 0} (S : Steps D) (T : Steps E) (see : D → E) → ((a : D) (command : Command) (reply : Reply) (b : D) → S a command reply b → T (see a) command reply (see b))
    → (spelled : List Spelled) (replies : List Reply) (a b : D) → Answers S a spelled replies b → Answers T (see a) spelled replies (see b)
answers_seen S T see goes [] replies a b run = (run.0, ap see run.1)
answers_seen S T see goes (Blank ∷ more) replies a b run =
    (run.0, see run.1, run.2, (run.3.0, ap see run.3.1), run.4, answers_seen S T see goes more run.2 run.1 b run.5)
answers_seen S T see goes (Faulty fault ∷ more) replies a b run =
    (run.0, see run.1, run.2, (run.3.0, ap see run.3.1), run.4, answers_seen S T see goes more run.2 run.1 b run.5)
answers_seen S T see goes (Right command ∷ more) replies a b run =
    (run.0, see run.1, run.2, (run.3.0, run.3.1, goes a command run.3.0 run.1 run.3.2), run.4, answers_seen S T see goes more run.2 run.1 b run.5)

pub served_seen : {D E : Type 0} (a b : D) (S : Steps D) (T : Steps E) (see : D → E) → ((a : D) (command : Command) (reply : Reply) (b : D) → S a command reply b → T (see a) command reply (see b))
    → (before after : List ℕ → Type 0) (how : Ended) (input : List ℕ) → Served S a b before after how input → Served T (see a) (see b) before after how input
served_seen a b S T see goes before after how input s =
    record { spelled = s.spelled; replies = s.replies; spells = s.spells; answers = answers_seen S T see goes s.spelled s.replies a b s.answers; written = s.written }

pub broken_seen : {D E : Type 0} (a b : D) (S : Steps D) (T : Steps E) (see : D → E) → ((a : D) (command : Command) (reply : Reply) (b : D) → S a command reply b → T (see a) command reply (see b))
    → (before after : List ℕ → Type 0) (input : List ℕ) → Broken S a b before after input → Broken T (see a) (see b) before after input
broken_seen a b S T see goes before after input s =
    record { spelled = s.spelled; replies = s.replies; rest = s.rest; last = s.last; reads = s.reads; answers = answers_seen S T see goes s.spelled s.replies a b s.answers; last_is = s.last_is; written = s.written }

-- a run between the same states
pub served_between : {D : Type 0} (T : Steps D) (a b c d : D) (before after : List ℕ → Type 0) (how : Ended) (input : List ℕ) → a ≡ c → b ≡ d → Served T a b before after how input → Served T c d before after how input
served_between T a b c d before after how input from to s =
    subst (λ (e : _). Served T c e before after how input) to (subst (λ (e : _). Served T e b before after how input) from s)

pub broken_between : {D : Type 0} (T : Steps D) (a b c d : D) (before after : List ℕ → Type 0) (input : List ℕ) → a ≡ c → b ≡ d → Broken T a b before after input → Broken T c d before after input
broken_between T a b c d before after input from to s =
    subst (λ (e : _). Broken T c e before after input) to (subst (λ (e : _). Broken T e b before after input) from s)

-- under an answer
pub ok_seen : {X E : Type 0} (P Q : X → Type 0) (r : Result X E) → ((x : X) → P x → Q x) → IfOk r P → IfOk r Q
ok_seen P Q (Ok x) goes p = goes x p
ok_seen P Q (Err e) goes p = p

pub err_seen : {X E : Type 0} (P Q : Type 0) (r : Result X E) → (P → Q) → OnErr r P → OnErr r Q
err_seen P Q (Ok x) goes p = p
err_seen P Q (Err e) goes p = goes p
