-- Rounds, sheets and runs of one seat are lists of calls, and no list of calls moves a search back.
use Rattle.std.proofs.Common.{◌≡◌, ℕ, zero, suc, ◌+◌, ◌*◌, inl, inr, List, [], ◌∷◌, ◌++◌, length, length-append, Result, Ok, Err, refl, sym, ◌∙◌, ap₂, subst, arith}
use Rattle.std.specs.List.{AllByRecursion}
use Rattle.chr_search.specs.Judged.{Judgement, IsVerdict}
use Rattle.chr_calls.specs.declared.answers.ClaimFault.{ClaimFault}
use Rattle.chr_calls.specs.declared.answers.TurnFault.{TurnFault}
use Rattle.chr_calls.specs.declared.answers.ReportFault.{ReportFault}
use Rattle.chr_calls.specs.declared.answers.Firing.{Firing}
use Rattle.chr_calls.specs.declared.answers.Firing.TheVariants as firing
use Rattle.chr_calls.specs.declared.answers.FireFault.{FireFault}
use Rattle.chr_calls.specs.declared.answers.Dropping.{Dropping}
use Rattle.chr_calls.specs.declared.answers.Dropping.TheVariants as dropping
use Rattle.chr_calls.specs.declared.answers.DropFault.{DropFault}
use Rattle.chr_calls.specs.Turns.{Turn, Next}
use Rattle.chr_calls.specs.Turns as turn
use Rattle.chr_calls.specs.Books.{BookState}
use Rattle.chr_calls.specs.Calls.{Claims, Turns, Reports, FiresOrMisses, Drops}
use Rattle.chr_calls.specs.Batches.{Batch, Trials, BatchReport, ReportsBatch, AreRight, Sheets, ClaimsSheet, Following, Follows, ReportsSheet}
use Rattle.chr_calls.specs.Batches as batch
use Rattle.chr_calls.specs.Headline.{IsKept}
use Rattle.chr_calls.specs.Moves.{NoneMovesBack}
use Rattle.chr_calls.proofs.Headlines.{run_moves}
use Rattle.chr_book.specs.declared.rounds.Last.{Last}
use Rattle.chr_book.specs.declared.rounds.Last.TheVariants as lasts
use Rattle.chr_book.specs.declared.rounds.Rounds.{Rounds}
use Rattle.chr_book.specs.Passed.{PassesTrial, PassesTrials, FiresTrial, DropsGoal, IsLast, rounds_in, MakesRounds, MakesFewer, StartsRounds, StartsFewer}
use Rattle.chr_solo.specs.Solo.{Known, Nothing, Judged, NoneLeft, KnownAfter, SoloCall, claims, asks, fires, reports, drops, SoloRun, IsSolo, IsCutShort}
use Rattle.chr_run_calls.specs.Lists.{Given, GivenAll, SeatCall, Answer, Said, said}
use Rattle.chr_run_calls.specs.Lists as list
use Rattle.chr_run_calls.specs.CallLists.{Answers, AnswersFrom, AnswersAre}
use Rattle.chr_run_calls.specs.CallLists as lists
use Rattle.chr_run_calls.specs.Made.{IsCallFor, IsCallBy, AreCalls, AreFewer}
use Rattle.chr_run_calls.proofs.Runs.{answers_run}

-- ---- lists

-- answers to calls, and those to further calls, whatever was said before these
answers_then : (so_far : List Said) (b m n : BookState) (cs ds : List SeatCall) (answers others : List Answer) → AnswersFrom so_far b cs answers m → ((before : List Said) → AnswersFrom before m ds others n) → AnswersFrom so_far b (cs ++ ds) (answers ++ others) n
answers_then so_far b m n [] ds [] others made more = subst (λ (x : BookState). AnswersFrom so_far x ds others n) made (more so_far)
answers_then so_far b m n [] ds (a ∷ answers) others made more = absurd made
answers_then so_far b m n (c ∷ cs) ds [] others made more = absurd made
answers_then so_far b m n (c ∷ cs) ds (a ∷ answers) others made more = (made.0, made.1, answers_then (said c a ∷ so_far) made.0 m n cs ds answers others made.2 more)

pub list_goes_on : (b m n : BookState) (cs ds : List SeatCall) (answers others : List Answer) → AnswersAre b cs answers m → ((before : List Said) → AnswersFrom before m ds others n) → AnswersAre b (cs ++ ds) (answers ++ others) n
list_goes_on b m n cs ds answers others made more = answers_then [] b m n cs ds answers others made more

all_then : (Is : SeatCall → Type 0) (xs ys : List SeatCall) → AllByRecursion Is xs → AllByRecursion Is ys → AllByRecursion Is (xs ++ ys)
all_then Is [] ys these those = those
all_then Is (x ∷ xs) ys these those = (these.0, all_then Is xs ys these.1 those)

no_calls : (Is : SeatCall → Type 0) (b n : BookState) → n ≡ b → AreCalls Is 0 b n
no_calls Is b n e = record { calls = []; answers = []; made = λ so_far. e; each = tt; many = refl }

one_call : (Is : SeatCall → Type 0) (b n : BookState) (c : SeatCall) (a : Answer) → Is c → ((so_far : List Said) → Answers b so_far c.seat c.call a n) → AreCalls Is 1 b n
one_call Is b n c a is made = record { calls = c ∷ []; answers = a ∷ []; made = λ so_far. (n, made so_far, refl); each = (is, tt); many = refl }

calls_then : (Is : SeatCall → Type 0) (k l many : ℕ) (b m n : BookState) → k + l ≡ many → AreCalls Is k b m → AreCalls Is l m n → AreCalls Is many b n
calls_then Is k l many b m n e first more = record {
  calls = first.calls ++ more.calls;
  answers = first.answers ++ more.answers;
  made = λ so_far. answers_then so_far b m n first.calls more.calls first.answers more.answers (first.made so_far) more.made;
  each = all_then Is first.calls more.calls first.each more.each;
  many = length-append first.calls more.calls ∙ ap₂ (λ (x y : ℕ). x + y) first.many more.many ∙ e;
}

-- ---- one call

abbrev by : ℕ → list.Call → SeatCall
by seat call = record { seat = seat; call = call }

claim_call : (Is : SeatCall → Type 0) (b n : BookState) (seat t : ℕ) (told : Result ℕ ClaimFault) → Is (by seat (list.Claim t)) → Claims b seat t told n → AreCalls Is 1 b n
claim_call Is b n seat t told is made = one_call Is b n (by seat (list.Claim t)) (list.Claimed told) is (λ so_far. (told, refl, made))

ask_call : (Is : SeatCall → Type 0) (b n : BookState) (seat t : ℕ) (told : Result Turn TurnFault) → Is (by seat (list.Ask t)) → Turns b seat t told n → AreCalls Is 1 b n
ask_call Is b n seat t told is made = one_call Is b n (by seat (list.Ask t)) (list.Asked told) is (λ so_far. (told, refl, made))

report_call : (Is : SeatCall → Type 0) (b n : BookState) (seat t : ℕ) (j : Judgement) (told : Result (Unit {0}) ReportFault) → Is (by seat (list.Report t (Given j))) → IsVerdict j.trial j.verdict → Reports b seat t j told n → AreCalls Is 1 b n
report_call Is b n seat t j told is right made = one_call Is b n (by seat (list.Report t (Given j))) (list.Reported told) is (λ so_far. lists.judged j (refl, right) (told, refl, made))

fire_call : (Is : SeatCall → Type 0) (b n : BookState) (seat t : ℕ) (j : Judgement) (told : Result Firing FireFault) → Is (by seat (list.Fire t (Given j))) → IsVerdict j.trial j.verdict → FiresOrMisses b seat t j told n → AreCalls Is 1 b n
fire_call Is b n seat t j told is right made = one_call Is b n (by seat (list.Fire t (Given j))) (list.Fired told) is (λ so_far. lists.judged j (refl, right) (told, refl, made))

drop_call : (Is : SeatCall → Type 0) (b n : BookState) (seat t : ℕ) (told : Result Dropping DropFault) → Is (by seat (list.DropGoal t)) → Drops b seat t told n → AreCalls Is 1 b n
drop_call Is b n seat t told is made = one_call Is b n (by seat (list.DropGoal t)) (list.Dropped told) is (λ so_far. (told, refl, made))

batch_call : (Is : SeatCall → Type 0) (b n : BookState) (seat t : ℕ) (js : List Judgement) (told : BatchReport) → Is (by seat (list.ReportBatch t (GivenAll js))) → AreRight js → ReportsBatch b seat t js told n → AreCalls Is 1 b n
batch_call Is b n seat t js told is right made = one_call Is b n (by seat (list.ReportBatch t (GivenAll js))) (list.BatchReported told) is (λ so_far. lists.all_judged js told (refl, right) refl made)

-- ---- rounds

pass_calls : (seat t : ℕ) (b n : BookState) → PassesTrial seat t b n → AreCalls (IsCallFor seat t) 2 b n
pass_calls seat t b n h = calls_then (IsCallFor seat t) 1 1 2 b h.asked n refl
    (ask_call (IsCallFor seat t) b h.asked seat t (Ok (Next h.judged.trial)) (refl, refl) h.turns)
    (report_call (IsCallFor seat t) h.asked n seat t h.judged (Ok tt) (refl, refl) h.right h.reports)

passes_calls : (seat t k many : ℕ) (b n : BookState) → 2 * k ≡ many → PassesTrials seat t k b n → AreCalls (IsCallFor seat t) many b n
passes_calls seat t zero many b n e h = subst (λ (x : ℕ). AreCalls (IsCallFor seat t) x b n) (let none : 0 ≡ many = omega (arith, e) in none) (no_calls (IsCallFor seat t) b n h)
passes_calls seat t (suc k) many b n e h = calls_then (IsCallFor seat t) 2 (2 * k) many b h.0 n (omega (arith, e)) (pass_calls seat t b h.0 h.1) (passes_calls seat t k (2 * k) h.0 n refl h.2)

fired_calls : (seat t : ℕ) (b n : BookState) → FiresTrial seat t b n → AreCalls (IsCallFor seat t) 2 b n
fired_calls seat t b n h = calls_then (IsCallFor seat t) 1 1 2 b h.asked n refl
    (ask_call (IsCallFor seat t) b h.asked seat t (Ok (Next h.judged.trial)) (refl, refl) h.turns)
    (fire_call (IsCallFor seat t) h.asked n seat t h.judged (Ok (firing.Fired h.fired)) (refl, refl) h.right h.fires)

dropped_calls : (seat t : ℕ) (b n : BookState) → DropsGoal seat t b n → AreCalls (IsCallFor seat t) 2 b n
dropped_calls seat t b n h = calls_then (IsCallFor seat t) 1 1 2 b h.asked n refl
    (ask_call (IsCallFor seat t) b h.asked seat t (Ok turn.Done) (refl, refl) h.turns)
    (drop_call (IsCallFor seat t) h.asked n seat t (Ok dropping.Dropped) (refl, refl) h.drops)

all_calls : (seat t k : ℕ) (last : Last) (b m n : BookState) → PassesTrials seat t k b m → IsLast seat t last m n → AreCalls (IsCallFor seat t) (2 * rounds_in (record { passed = k; last = last })) b n
all_calls seat t k lasts.Fired b m n over h = calls_then (IsCallFor seat t) (2 * k) 2 (2 * (1 + k)) b m n (omega arith) (passes_calls seat t k (2 * k) b m refl over) (fired_calls seat t m n h)
all_calls seat t k lasts.Dropped b m n over h = calls_then (IsCallFor seat t) (2 * k) 2 (2 * (1 + k)) b m n (omega arith) (passes_calls seat t k (2 * k) b m refl over) (dropped_calls seat t m n h)
all_calls seat t k lasts.Passed b m n over h = calls_then (IsCallFor seat t) (2 * k) 0 (2 * (0 + k)) b m n (omega arith) (passes_calls seat t k (2 * k) b m refl over) (no_calls (IsCallFor seat t) m n h)

pub rounds_calls : (seat t : ℕ) (r : Rounds) (b n : BookState) → MakesRounds seat t r b n → AreCalls (IsCallFor seat t) (2 * rounds_in r) b n
rounds_calls seat t r b n h = all_calls seat t r.passed r.last b h.middle n h.passes h.last

pub starts_calls : (seat t : ℕ) (r : Rounds) (b n : BookState) → StartsRounds seat t r b n → AreCalls (IsCallFor seat t) (1 + 2 * rounds_in r) b n
starts_calls seat t r b n h = calls_then (IsCallFor seat t) 1 (2 * rounds_in r) (1 + 2 * rounds_in r) b h.claimed n refl
    (claim_call (IsCallFor seat t) b h.claimed seat t (Ok h.label) (refl, refl) h.claims)
    (rounds_calls seat t r h.claimed n h.makes)

pub fewer_calls : (seat t most : ℕ) (b n : BookState) → MakesFewer seat t most b n → AreFewer (IsCallFor seat t) (2 * most) b n
fewer_calls seat t most b n h = (2 * h.passed, omega (arith, h.fewer), passes_calls seat t h.passed (2 * h.passed) b n refl h.passes)

pub starts_fewer_calls : (seat t most : ℕ) (b n : BookState) → StartsFewer seat t most b n → AreFewer (IsCallFor seat t) (1 + 2 * most) b n
starts_fewer_calls seat t most b n (inl same) = (0, omega arith, no_calls (IsCallFor seat t) b n same)
starts_fewer_calls seat t most b n (inr h) =
    let more = fewer_calls seat t most h.claimed n h.makes in (
      1 + more.0,
      omega (arith, more.1),
      calls_then (IsCallFor seat t) 1 more.0 (1 + more.0) b h.claimed n refl
          (claim_call (IsCallFor seat t) b h.claimed seat t (Ok h.label) (refl, refl) h.claims) more.2,
    )

-- ---- sheets

pub sheet_calls : (seat t most : ℕ) (answer : Result Batch TurnFault) (b n : BookState) → Sheets b seat t most answer n → AreCalls (IsCallFor seat t) 1 b n
sheet_calls seat t most (Err fault) b n h = ask_call (IsCallFor seat t) b n seat t (Err fault) (refl, refl) h
sheet_calls seat t most (Ok batch.Gone) b n h = ask_call (IsCallFor seat t) b n seat t (Ok turn.Gone) (refl, refl) h
sheet_calls seat t most (Ok batch.Done) b n h = ask_call (IsCallFor seat t) b n seat t (Ok turn.Done) (refl, refl) h
sheet_calls seat t most (Ok (Trials trials)) b n h = ask_call (IsCallFor seat t) b n seat t (Ok (Next h.first)) (refl, refl) h.turn

pub claimed_calls : (seat t most : ℕ) (answer : Result (Result Batch TurnFault) ClaimFault) (b n : BookState) → ClaimsSheet b seat t most answer n → AreFewer (IsCallFor seat t) 3 b n
claimed_calls seat t most (Err fault) b n h = (1, omega arith, claim_call (IsCallFor seat t) b n seat t (Err fault) (refl, refl) h)
claimed_calls seat t most (Ok answer) b n h = (
  2,
  omega arith,
  calls_then (IsCallFor seat t) 1 1 2 b h.1 n refl
      (claim_call (IsCallFor seat t) b h.1 seat t (Ok h.0) (refl, refl) h.2)
      (sheet_calls seat t most answer h.1 n h.3),
)

right_last : (before : List Judgement) (j : Judgement) → AreRight (before ++ j ∷ []) → IsVerdict j.trial j.verdict
right_last [] j all = all.0
right_last (k ∷ ks) j all = right_last ks j all.1

follow_calls : (seat t most : ℕ) (js : List Judgement) (next : Result Turn TurnFault) (following : Following) (b n : BookState) → AreRight js → Follows b seat t most js next following n → AreFewer (IsCallFor seat t) 2 b n
follow_calls seat t most js next (batch.Fire answer) b n right h = (1, omega arith, fire_call (IsCallFor seat t) b n seat t h.0 answer (refl, refl) (right_last h.1.0 h.0 (subst AreRight h.1.1 right)) h.4)
follow_calls seat t most js next (batch.Drop answer) b n right h = (1, omega arith, drop_call (IsCallFor seat t) b n seat t answer (refl, refl) h.1)
follow_calls seat t most js next (batch.Sheet answer) b n right h = (1, omega arith, sheet_calls seat t most answer b n h.3)
follow_calls seat t most js next (batch.Nothing fault) b n right h = (0, omega arith, no_calls (IsCallFor seat t) b n h.1)

pub reported_calls : (seat t most : ℕ) (js : List Judgement) (reported : ℕ) (following : Following) (b n : BookState) → AreRight js → ReportsSheet b seat t most js reported following n → AreFewer (IsCallFor seat t) 3 b n
reported_calls seat t most js reported following b n right h =
    let more = follow_calls seat t most js h.next following h.asked n right h.follows in (
      1 + more.0,
      omega (arith, more.1),
      calls_then (IsCallFor seat t) 1 more.0 (1 + more.0) b h.asked n refl
          (batch_call (IsCallFor seat t) b h.asked seat t js (record { reported = reported; next = h.next }) (refl, refl) right h.report) more.2,
    )

-- ---- runs of one seat

-- what is known is the right judgement
abbrev RightlyKnown : Known → Type 0
RightlyKnown known = (j : Judgement) → known ≡ Judged j → IsVerdict j.trial j.verdict

same_judged : (i j : Judgement) → Judged i ≡ Judged j → i ≡ j
same_judged i j e = cc

nothing_known : (after : Known) → after ≡ Nothing → RightlyKnown after
nothing_known after e j is = absurd (let z : Nothing ≡ Judged j = sym e ∙ is in cc)

known_after : (next : Turn) (after : Known) → KnownAfter next after → RightlyKnown after
known_after (Next trial) after knows j is = subst (λ (i : Judgement). IsVerdict i.trial i.verdict) (same_judged knows.0 j (sym knows.3 ∙ is)) knows.2
known_after turn.Done after knows j is = absurd (let z : NoneLeft ≡ Judged j = sym knows ∙ is in cc)
known_after turn.Gone after knows j is = absurd (let z : NoneLeft ≡ Judged j = sym knows ∙ is in cc)

solo_call : (seat t : ℕ) (b : BookState) (known : Known) (n : BookState) (after : Known) → RightlyKnown known → SoloCall seat t b known n after → AreCalls (IsCallBy seat) 1 b n × RightlyKnown after
solo_call seat t b known n after right (claims l h e) = (claim_call (IsCallBy seat) b n seat t (Ok l) (t, (refl, refl)) h, nothing_known after e)
solo_call seat t b known n after right (asks next e h knows) = (ask_call (IsCallBy seat) b n seat t (Ok next) (t, (refl, refl)) h, known_after next after knows)
solo_call seat t b known n after right (fires j f e h z) = (fire_call (IsCallBy seat) b n seat t j (Ok f) (t, (refl, refl)) (right j e) h, nothing_known after z)
solo_call seat t b known n after right (reports j u e h z) = (report_call (IsCallBy seat) b n seat t j (Ok u) (t, (refl, refl)) (right j e) h, nothing_known after z)
solo_call seat t b known n after right (drops d e h z) = (drop_call (IsCallBy seat) b n seat t (Ok d) (t, (refl, refl)) h, nothing_known after z)

solo_calls : (seat calls : ℕ) (b : BookState) (known : Known) (n : BookState) (after : Known) → RightlyKnown known → SoloRun seat calls b known n after → AreCalls (IsCallBy seat) calls b n
solo_calls seat zero b known n after right run = no_calls (IsCallBy seat) b n run.0
solo_calls seat (suc calls) b known n after right run =
    let first = solo_call seat run.0 b known run.2 run.3 right run.4 in
    calls_then (IsCallBy seat) 1 calls (suc calls) b run.2 n (omega arith) first.0 (solo_calls seat calls run.2 run.3 n after first.1 run.5)

pub whole_calls : (seat most calls : ℕ) (b n : BookState) → (run : IsSolo seat most b calls n) → AreCalls (IsCallBy seat) run.made b n
whole_calls seat most calls b n run = solo_calls seat run.made b Nothing n run.known (nothing_known Nothing refl) run.run

pub cut_calls : (seat most : ℕ) (b n : BookState) → (run : IsCutShort seat most b n) → AreCalls (IsCallBy seat) run.made b n
cut_calls seat most b n run = solo_calls seat run.made b Nothing n run.known (nothing_known Nothing refl) run.run

-- ---- searches

pub list_moves : (b n : BookState) (cs : List SeatCall) (answers : List Answer) → AnswersAre b cs answers n → IsKept b → NoneMovesBack b n
list_moves b n cs answers made kept = let run = answers_run b n cs answers made in run_moves b n run.0 run.1 kept

calls_move : (Is : SeatCall → Type 0) (count : ℕ) (b n : BookState) → AreCalls Is count b n → IsKept b → NoneMovesBack b n
calls_move Is count b n made kept = list_moves b n made.calls made.answers (made.made []) kept

fewer_move : (Is : SeatCall → Type 0) (most : ℕ) (b n : BookState) → AreFewer Is most b n → IsKept b → NoneMovesBack b n
fewer_move Is most b n made kept = calls_move Is made.0 b n made.2 kept

pub rounds_move : (seat t : ℕ) (r : Rounds) (b n : BookState) → MakesRounds seat t r b n → IsKept b → NoneMovesBack b n
rounds_move seat t r b n h kept = calls_move (IsCallFor seat t) (2 * rounds_in r) b n (rounds_calls seat t r b n h) kept

pub starts_move : (seat t : ℕ) (r : Rounds) (b n : BookState) → StartsRounds seat t r b n → IsKept b → NoneMovesBack b n
starts_move seat t r b n h kept = calls_move (IsCallFor seat t) (1 + 2 * rounds_in r) b n (starts_calls seat t r b n h) kept

pub fewer_rounds_move : (seat t most : ℕ) (b n : BookState) → MakesFewer seat t most b n → IsKept b → NoneMovesBack b n
fewer_rounds_move seat t most b n h kept = fewer_move (IsCallFor seat t) (2 * most) b n (fewer_calls seat t most b n h) kept

pub starts_fewer_move : (seat t most : ℕ) (b n : BookState) → StartsFewer seat t most b n → IsKept b → NoneMovesBack b n
starts_fewer_move seat t most b n h kept = fewer_move (IsCallFor seat t) (1 + 2 * most) b n (starts_fewer_calls seat t most b n h) kept

pub sheets_move : (seat t most : ℕ) (answer : Result Batch TurnFault) (b n : BookState) → Sheets b seat t most answer n → IsKept b → NoneMovesBack b n
sheets_move seat t most answer b n h kept = calls_move (IsCallFor seat t) 1 b n (sheet_calls seat t most answer b n h) kept

pub claimed_move : (seat t most : ℕ) (answer : Result (Result Batch TurnFault) ClaimFault) (b n : BookState) → ClaimsSheet b seat t most answer n → IsKept b → NoneMovesBack b n
claimed_move seat t most answer b n h kept = fewer_move (IsCallFor seat t) 3 b n (claimed_calls seat t most answer b n h) kept

pub reported_move : (seat t most : ℕ) (js : List Judgement) (reported : ℕ) (following : Following) (b n : BookState) → AreRight js → ReportsSheet b seat t most js reported following n → IsKept b → NoneMovesBack b n
reported_move seat t most js reported following b n right h kept = fewer_move (IsCallFor seat t) 3 b n (reported_calls seat t most js reported following b n right h) kept

pub whole_moves : (seat most calls : ℕ) (b n : BookState) → IsSolo seat most b calls n → IsKept b → NoneMovesBack b n
whole_moves seat most calls b n run kept = calls_move (IsCallBy seat) run.made b n (whole_calls seat most calls b n run) kept

pub cut_moves : (seat most : ℕ) (b n : BookState) → IsCutShort seat most b n → IsKept b → NoneMovesBack b n
cut_moves seat most b n run kept = calls_move (IsCallBy seat) run.made b n (cut_calls seat most b n run) kept
