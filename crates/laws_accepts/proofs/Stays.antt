-- What no call changes but a post of a text, which may add names.
use Rattle.std.proofs.Common.{◌≡◌, ℕ, ◌+◌, ◌≤◌, inl, inr, List, [], ◌∷◌, Result, Ok, Err, refl, sym, ap, subst, ◌∙◌, arith}
use Rattle.chr_value.specs.Atoms.{Atom}
use Rattle.chr_value.specs.Naming.{Table}
use Rattle.chr_rule.specs.Rules.{Simpagation}
use Rattle.chr_search.specs.Judged.{Judgement}
use Rattle.chr_calls.specs.declared.answers.PostFault.{PostFault}
use Rattle.chr_calls.specs.declared.answers.PostFault.TheVariants as post
use Rattle.chr_calls.specs.declared.answers.ClaimFault.{ClaimFault}
use Rattle.chr_calls.specs.declared.answers.ClaimFault.TheVariants as claim
use Rattle.chr_calls.specs.declared.answers.TurnFault.{TurnFault}
use Rattle.chr_calls.specs.declared.answers.TurnFault.TheVariants as turn_fault
use Rattle.chr_calls.specs.declared.answers.ReportFault.{ReportFault}
use Rattle.chr_calls.specs.declared.answers.ReportFault.TheVariants as report
use Rattle.chr_calls.specs.declared.answers.Firing.{Firing}
use Rattle.chr_calls.specs.declared.answers.Firing.TheVariants as firing
use Rattle.chr_calls.specs.declared.answers.FireFault.{FireFault}
use Rattle.chr_calls.specs.declared.answers.FireFault.TheVariants as fire
use Rattle.chr_calls.specs.declared.answers.Dropping.{Dropping}
use Rattle.chr_calls.specs.declared.answers.Dropping.TheVariants as dropping
use Rattle.chr_calls.specs.declared.answers.DropFault.{DropFault}
use Rattle.chr_calls.specs.declared.answers.DropFault.TheVariants as drop
use Rattle.chr_calls.specs.declared.answers.PutDownFault.{PutDownFault}
use Rattle.chr_calls.specs.declared.answers.PutDownFault.TheVariants as put_down_fault
use Rattle.chr_calls.specs.declared.answers.MarkFault.{MarkFault}
use Rattle.chr_calls.specs.declared.answers.MarkFault.TheVariants as mark
use Rattle.chr_calls.specs.Turns.{Turn}
use Rattle.chr_calls.specs.Turns as turn
use Rattle.chr_calls.specs.Books.{BookState, with_names}
use Rattle.chr_calls.specs.Calls.{posted, all_posted, Posts, Claims, Turns, Reports, FiresOrMisses, Drops, PutsDown, Marks}
use Rattle.chr_calls.specs.Batches.{Batch, Trials, Done, Gone, Batches, ReportsAll, asks, ends, reports, passes}
use Rattle.chr_calls.specs.Runs.{Call}
use Rattle.chr_calls.specs.Runs as calls

pub record Stays (b n : BookState) : Type 0 where
  pub rules : n.rules ≡ b.rules
  pub names : n.names ≡ b.names
  pub limit : n.limit ≡ b.limit
  pub next : b.next ≤ b.limit + 1 → n.next ≤ n.limit + 1

abbrev lasting : BookState → List (Simpagation ℕ) × Table × ℕ × ℕ
lasting b = (b.rules, b.names, b.limit, b.next)

pub still : {b n m : BookState} → n ≡ m → lasting m ≡ lasting b → Stays b n
still {b = b} {n = n} {m = m} is same =
    let limit : m.limit ≡ b.limit = ap (λ x. x.2) same in
    let next : m.next ≡ b.next = ap (λ x. x.3) same in
    let stays : Stays b m = record { rules = ap (λ x. x.0) same; names = ap (λ x. x.1) same; limit = limit; next = λ le. omega (arith, le, limit, next) } in
    subst (Stays b) (sym is) stays

pub stays_then : {a b c : BookState} → Stays a b → Stays b c → Stays a c
stays_then k l = record { rules = l.rules ∙ k.rules; names = l.names ∙ k.names; limit = l.limit ∙ k.limit; next = λ le. l.next (k.next le) }

pub all_stay : (b : BookState) (seat : ℕ) (atoms : List (Atom ℕ)) → Stays b (all_posted b seat atoms)
all_stay b seat [] = still refl refl
all_stay b seat (a ∷ atoms) = stays_then (still {b = b} {n = posted b seat a} refl refl) (all_stay (posted b seat a) seat atoms)

posts_stay : (b n : BookState) (seat : ℕ) (atoms : List (Atom ℕ)) (answer : Result ℕ PostFault) → Posts b seat atoms answer n → Stays b n
posts_stay b n seat atoms (Ok first) h = subst (Stays b) (sym h.2) (all_stay b seat atoms)
posts_stay b n seat atoms (Err post.UnknownName) h = still h.1 refl
posts_stay b n seat atoms (Err post.NoMemory) h = still h.1 refl

pub claims_stay : (b n : BookState) (seat t : ℕ) (answer : Result ℕ ClaimFault) → Claims b seat t answer n → Stays b n
claims_stay b n seat t (Err (claim.NotWaiting state)) h = still h.2 refl
claims_stay b n seat t (Err claim.LabelsSpent) h = still h.2 refl
claims_stay b n seat t (Err claim.NoMemory) h = still h.1 refl
claims_stay b n seat t (Ok l) (inl h) = let room = h.can.room in subst (Stays b) (sym h.after) (record { rules = refl; names = refl; limit = refl; next = λ le. omega (arith, room) })
claims_stay b n seat t (Ok l) (inr h) = still h.after refl

pub turns_stay : (b n : BookState) (seat t : ℕ) (answer : Result Turn TurnFault) → Turns b seat t answer n → Stays b n
turns_stay b n seat t (Err turn_fault.NotHeld) h = still h.1 refl
turns_stay b n seat t (Err turn_fault.NoMemory) h = still h.2 refl
turns_stay b n seat t (Ok turn.Gone) h = still h.3 refl
turns_stay b n seat t (Ok (turn.Next trial)) h = still h.3 refl
turns_stay b n seat t (Ok turn.Done) h = still h.3 refl

batches_stay : (b n : BookState) (seat t : ℕ) (answer : Result Batch TurnFault) → Batches b seat t answer n → Stays b n
batches_stay b n seat t (Err fault) h = turns_stay b n seat t (Err fault) h
batches_stay b n seat t (Ok Gone) h = turns_stay b n seat t (Ok turn.Gone) h
batches_stay b n seat t (Ok Done) h = turns_stay b n seat t (Ok turn.Done) h
batches_stay b n seat t (Ok (Trials trials)) h = turns_stay b n seat t (Ok (turn.Next h.first)) h.turn

pub reports_stay : (b n : BookState) (seat t : ℕ) (j : Judgement) (answer : Result (Unit {0}) ReportFault) → Reports b seat t j answer n → Stays b n
reports_stay b n seat t j (Err report.NotHeld) h = still h.1 refl
reports_stay b n seat t j (Err report.Stale) h = still h.1 refl
reports_stay b n seat t j (Err report.IsWhole) h = still h.2 refl
reports_stay b n seat t j (Ok done) h = still h.2 refl

all_reports_stay : {seat t : ℕ} {b n : BookState} {js : List Judgement} {reported : ℕ} {next : Result Turn TurnFault} → ReportsAll seat t b js reported next n → Stays b n
all_reports_stay {seat = seat} {t = t} (asks b n next turned) = turns_stay b n seat t next turned
all_reports_stay {seat = seat} {t = t} (ends b n j more next turned last) = turns_stay b n seat t next turned
all_reports_stay {seat = seat} {t = t} (reports b asked moved n j more done reported next turned told rest) =
    stays_then (turns_stay b asked seat t (Ok (turn.Next j.trial)) turned) (stays_then (reports_stay asked moved seat t j (Ok done) told) (all_reports_stay rest))
all_reports_stay {seat = seat} {t = t} (passes b asked n trial j more reported next other turned rest) = stays_then (turns_stay b asked seat t (Ok (turn.Next trial)) turned) (all_reports_stay rest)

pub fires_stay : (b n : BookState) (seat t : ℕ) (j : Judgement) (answer : Result Firing FireFault) → FiresOrMisses b seat t j answer n → Stays b n
fires_stay b n seat t j (Err fire.NotHeld) h = still h.1 refl
fires_stay b n seat t j (Err fire.Stale) h = still h.1 refl
fires_stay b n seat t j (Err fire.NotWhole) h = still h.2 refl
fires_stay b n seat t j (Err fire.NoMemory) h = still h.2 refl
fires_stay b n seat t j (Ok firing.Missed) h = still h.2 refl
fires_stay b n seat t j (Ok (firing.Fired f)) h = still h.2.after refl

pub drops_stay : (b n : BookState) (seat t : ℕ) (answer : Result Dropping DropFault) → Drops b seat t answer n → Stays b n
drops_stay b n seat t (Err drop.NotHeld) h = still h.1 refl
drops_stay b n seat t (Err drop.NoMemory) h = still h.3 refl
drops_stay b n seat t (Ok dropping.Dropped) h = still h.3 refl
drops_stay b n seat t (Ok dropping.Unfinished) h = still h.3 refl

put_downs_stay : (b n : BookState) (seat t : ℕ) (answer : Result (Unit {0}) PutDownFault) → PutsDown b seat t answer n → Stays b n
put_downs_stay b n seat t (Err put_down_fault.NotHeld) h = still h.1 refl
put_downs_stay b n seat t (Ok done) h = still h.1 refl

marks_stay : (b n : BookState) (t : ℕ) (answer : Result (Unit {0}) MarkFault) → Marks b t answer n → Stays b n
marks_stay b n t (Err (mark.NotWaiting state)) h = still h.2 refl
marks_stay b n t (Ok done) h = still h.1 refl

pub call_stays : (b n : BookState) (seat : ℕ) → Call b seat n → n.names ≡ b.names → Stays b n
call_stays b n seat (calls.Post atoms answer made) same = posts_stay b n seat atoms answer made
call_stays b n seat (calls.PostText table atoms first keeps made) same =
    let s = posts_stay (with_names b table) n seat atoms (Ok first) made in
    record { rules = s.rules; names = same; limit = s.limit; next = s.next }
call_stays b n seat (calls.Claim t answer made) same = claims_stay b n seat t answer made
call_stays b n seat (calls.Trial t answer made) same = turns_stay b n seat t answer made
call_stays b n seat (calls.Report t j answer right made) same = reports_stay b n seat t j answer made
call_stays b n seat (calls.Fire t j answer right made) same = fires_stay b n seat t j answer made
call_stays b n seat (calls.DropGoal t answer made) same = drops_stay b n seat t answer made
call_stays b n seat (calls.PutDown t answer made) same = put_downs_stay b n seat t answer made
call_stays b n seat (calls.MarkStray t answer made) same = marks_stay b n t answer made
call_stays b n seat (calls.TakeStray answer made) same = still made.2 refl
call_stays b n seat (calls.Batch t answer made) same = batches_stay b n seat t answer made
call_stays b n seat (calls.ReportBatch t js answer right made) same = all_reports_stay made
