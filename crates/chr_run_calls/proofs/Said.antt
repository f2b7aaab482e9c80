-- What was said so far, and one call more.
use Rattle.std.proofs.Common.{◌≡◌, ℕ, zero, suc, ◌+◌, ◌<◌, ◌≤◌, Bool, true, false, if◌then◌else◌, OnErr, option_and_then, Result, Ok, Err, IfOk, MatchOption, List, [], ◌∷◌, ◌++◌, length, take, map, get_or, Option, Some, None, refl, sym, ap, ap₂, ◌∙◌, subst, arith}
use Rattle.std.proofs.lemmas.List.{map_more, map_push, take-map, length-map, length-take-le, get_or-map}
use Rattle.chr_search.specs.Verdicts.{Trial}
use Rattle.chr_search.specs.Judged.{Judgement, IsVerdict}
use Rattle.chr_calls.specs.Books.{BookState}
use Rattle.chr_calls.specs.Batches.{BatchReport, ReportsBatch, AreRight}
use Rattle.chr_run_calls.specs.declared.calls.SeatCall.{SeatCall as CodeSeatCall}
use Rattle.chr_run_calls.specs.declared.calls.Answer.{Answer as CodeAnswer}
use Rattle.chr_run_calls.specs.declared.run.Act.{Act}
use Rattle.chr_run_calls.specs.Lists.{Word, Given, Own, Words, GivenAll, OwnBatch, SeatCall, Answer, Said, said}
use Rattle.chr_run_calls.specs.Lists as list
use Rattle.chr_run_calls.specs.Told.{tells, last_answer, last_trial, last_batch, StandsFor, StandsForNone, StandFor, AreJudged}
use Rattle.chr_run_calls.specs.CallLists.{Acts, IsNoneTold, ActsByWord, judged, none_told, no_memory, ReportsByWords, all_judged, none_judged, Answers, AnswersFrom, AnswersAre}
use Rattle.chr_run_calls.specs.Code.{seat_call_of, answer_of, said_after, said_by}

-- ---- one answer more

said_push : (so_far : List Said) (calls : List SeatCall) (answers : List Answer) (c : SeatCall) (a : Answer) → length answers < length calls → c ≡ get_or calls (length answers) c
    → said_after so_far calls (answers ++ a ∷ []) ≡ said c a ∷ said_after so_far calls answers
said_push so_far [] answers c a lt is = absurd (omega arith)
said_push so_far (c0 ∷ calls) [] c a lt is = ap (λ (x : SeatCall). said x a ∷ so_far) (sym is)
said_push so_far (c0 ∷ calls) (a0 ∷ answers) c a lt is = said_push (said c0 a0 ∷ so_far) calls answers c a (omega arith) is

-- the call at a place
call_at : {Z : Type 0} (calls : List (CodeSeatCall Z)) (i : ℕ) (c : CodeSeatCall Z) → i < length calls → c ≡ get_or calls i c → seat_call_of c ≡ get_or (map seat_call_of calls) i (seat_call_of c)
call_at calls i c lt is = ap seat_call_of is ∙ sym (get_or-map seat_call_of calls i c (seat_call_of c) lt)

pub said_next : {Z W : Type 0} (calls : List (CodeSeatCall Z)) (answers : List (CodeAnswer W)) (i : ℕ) (c : CodeSeatCall Z) (a : CodeAnswer W) → i < length answers → length answers ≤ length calls → c ≡ get_or calls i c → a ≡ get_or answers i a
    → said_by calls (take (i + 1) answers) ≡ said (seat_call_of c) (answer_of a) ∷ said_by calls (take i answers)
said_next calls answers i c a lt le is this =
    let before : List Answer = map answer_of (take i answers) in
    let many : length before ≡ i = length-map (take i answers) answer_of ∙ length-take-le i answers (omega arith) in
    ap (said_after [] (map seat_call_of calls)) (map_more answer_of answers i a lt ∙ ap (λ (x : CodeAnswer _). before ++ answer_of x ∷ []) (sym this))
    ∙ said_push [] (map seat_call_of calls) before (seat_call_of c) (answer_of a)
    (let all = length-map calls seat_call_of in omega arith)
    (subst (λ (k : ℕ). seat_call_of c ≡ get_or (map seat_call_of calls) k (seat_call_of c)) (sym many) (call_at calls i c (omega arith) is))

-- ---- the last answer that tells

abbrev or_else : Bool → Option Answer → Option Answer → Option Answer
or_else b this before = if b then this else before

pub answer_next : {Z W : Type 0} (batches : Bool) (seat t : ℕ) (calls : List (CodeSeatCall Z)) (answers : List (CodeAnswer W)) (i : ℕ) (c : CodeSeatCall Z) (a : CodeAnswer W) → i < length answers → length answers ≤ length calls → c ≡ get_or calls i c → a ≡ get_or answers i a
    → last_answer batches seat t (said_by calls (take (i + 1) answers)) ≡ or_else (tells batches seat t (said (seat_call_of c) (answer_of a))) (Some (answer_of a)) (last_answer batches seat t (said_by calls (take i answers)))
answer_next batches seat t calls answers i c a lt le is this = ap (last_answer batches seat t) (said_next calls answers i c a lt le is this)

same_at : {X : Type 0} (xs : List X) (i : ℕ) (d e : X) → i < length xs → get_or xs i d ≡ get_or xs i e
same_at [] i d e lt = absurd (omega arith)
same_at (x ∷ xs) zero d e lt = refl
same_at (x ∷ xs) (suc i) d e lt = same_at xs i d e (omega arith)

-- the answer at the place before `left` tells trials, and so it is the last one
pub answer_found : {Z W : Type 0} (batches : Bool) (seat t : ℕ) (calls : List (CodeSeatCall Z)) (answers : List (CodeAnswer W)) (left i : ℕ) (c : CodeSeatCall Z) (a same : CodeAnswer W) (test : Bool) → left ≡ i + 1 → i < length answers → length answers ≤ length calls → c ≡ get_or calls i c → a ≡ get_or answers i a → same ≡ get_or answers i same
    → test ≡ tells batches seat t (said (seat_call_of c) (answer_of a)) → test ≡ true → last_answer batches seat t (said_by calls (take left answers)) ≡ last_answer batches seat t (said_by calls answers)
    → Some (answer_of same) ≡ last_answer batches seat t (said_by calls answers)
answer_found batches seat t calls answers left i c a same test l lt le is this that tested holds rest =
    let before : Option Answer = last_answer batches seat t (said_by calls (take i answers)) in
    ap (λ (x : CodeAnswer _). Some (answer_of x)) (that ∙ same_at answers i same a lt ∙ sym this)
    ∙ ap (λ (b : Bool). or_else b (Some (answer_of a)) before) (sym holds ∙ tested)
    ∙ sym (answer_next batches seat t calls answers i c a lt le is this)
    ∙ ap (λ (k : ℕ). last_answer batches seat t (said_by calls (take k answers))) (sym l)
    ∙ rest

-- and where it tells none, the last one is before it
pub answer_passed : {Z W : Type 0} (batches : Bool) (seat t : ℕ) (calls : List (CodeSeatCall Z)) (answers : List (CodeAnswer W)) (left i : ℕ) (c : CodeSeatCall Z) (a : CodeAnswer W) (test : Bool) → left ≡ i + 1 → i < length answers → length answers ≤ length calls → c ≡ get_or calls i c → a ≡ get_or answers i a
    → test ≡ tells batches seat t (said (seat_call_of c) (answer_of a)) → test ≡ false → last_answer batches seat t (said_by calls (take left answers)) ≡ last_answer batches seat t (said_by calls answers)
    → last_answer batches seat t (said_by calls (take i answers)) ≡ last_answer batches seat t (said_by calls answers)
answer_passed batches seat t calls answers left i c a test l lt le is this tested fails rest =
    let before : Option Answer = last_answer batches seat t (said_by calls (take i answers)) in
    ap (λ (b : Bool). or_else b (Some (answer_of a)) before) (sym fails ∙ tested)
    ∙ sym (answer_next batches seat t calls answers i c a lt le is this)
    ∙ ap (λ (k : ℕ). last_answer batches seat t (said_by calls (take k answers))) (sym l)
    ∙ rest

pub no_answer : {Z W : Type 0} (batches : Bool) (seat t : ℕ) (calls : List (CodeSeatCall Z)) (answers : List (CodeAnswer W)) (left : ℕ) → left ≡ 0 → last_answer batches seat t (said_by calls (take left answers)) ≡ last_answer batches seat t (said_by calls answers)
    → None ≡ last_answer batches seat t (said_by calls answers)
no_answer batches seat t calls answers left l rest = ap (λ (k : ℕ). last_answer batches seat t (said_by calls (take k answers))) (sym l) ∙ rest

-- what the last answer tells
pub told_by : {X : Type 0} (f : Answer → Option X) (last : Option Answer) (a : Answer) (told : Option X) → Some a ≡ last → told ≡ f a → option_and_then f last ≡ told
told_by f last a told e is = ap (option_and_then f) (sym e) ∙ sym is

pub on_err_any : {T E P : Type 0} (r : Result T E) → P → OnErr r P
on_err_any (Ok x) p = tt
on_err_any (Err x) p = p

pub from_err : {T E P : Type 0} (r : Result T E) (e : E) → r ≡ Err e → OnErr r P → P
from_err (Ok x) e is h = absurd (cc)
from_err (Err x) e is h = h

-- ---- judgements

map_same : {X : Type 0} (xs : List X) → map (λ x. x) xs ≡ xs
map_same [] = refl
map_same (x ∷ xs) = ap (λ ys. x ∷ ys) (map_same xs)

pub one_taken : {X : Type 0} (xs : List X) (i : ℕ) (x : X) → i < length xs → x ≡ get_or xs i x → take (i + 1) xs ≡ take i xs ++ x ∷ []
one_taken xs i x h is = sym (map_same (take (i + 1) xs)) ∙ map_more (λ y. y) xs i x h ∙ ap₂ (λ ys y. ys ++ y ∷ []) (map_same (take i xs)) (sym is)

pub judged_more : (trials : List Trial) (judgements : List Judgement) (trial : Trial) (j : Judgement) → AreJudged trials judgements → j.trial ≡ trial → IsVerdict j.trial j.verdict → AreJudged (trials ++ trial ∷ []) (judgements ++ j ∷ [])
judged_more [] [] trial j all is right = (is, right, tt)
judged_more [] (k ∷ ks) trial j all is right = absurd all
judged_more (u ∷ us) [] trial j all is right = absurd all
judged_more (u ∷ us) (k ∷ ks) trial j all is right = (all.0, all.1, judged_more us ks trial j all.2 is right)

pub judged_right : (trials : List Trial) (judgements : List Judgement) → AreJudged trials judgements → AreRight judgements
judged_right [] [] all = tt
judged_right [] (k ∷ ks) all = absurd all
judged_right (u ∷ us) [] all = absurd all
judged_right (u ∷ us) (k ∷ ks) all = (all.1, judged_right us ks all.2)

pub right_more : (judgements : List Judgement) (j : Judgement) → AreRight judgements → IsVerdict j.trial j.verdict → AreRight (judgements ++ j ∷ [])
right_more [] j all right = (right, tt)
right_more (k ∷ ks) j all right = (all.0, right_more ks j all.1 right)

-- ---- one call more

-- what was said is of the calls that were answered
pub said_of_answered : (so_far : List Said) (calls : List SeatCall) (answers : List Answer) (n : ℕ) → n ≡ length answers → n ≤ length calls → said_after so_far (take n calls) answers ≡ said_after so_far calls answers
said_of_answered so_far calls [] n e le = refl
said_of_answered so_far [] (a ∷ answers) n e le = absurd (omega arith)
said_of_answered so_far (c ∷ calls) (a ∷ answers) zero e le = absurd (omega arith)
said_of_answered so_far (c ∷ calls) (a ∷ answers) (suc n) e le = said_of_answered (said c a ∷ so_far) calls answers n (omega arith) (omega arith)

answers_more : (so_far : List Said) (b m n : BookState) (calls : List SeatCall) (answers : List Answer) (c : SeatCall) (a : Answer) → AnswersFrom so_far b calls answers m → Answers m (said_after so_far calls answers) c.seat c.call a n
    → AnswersFrom so_far b (calls ++ c ∷ []) (answers ++ a ∷ []) n
answers_more so_far b m n [] [] c a made it = (n, subst (λ (x : BookState). Answers x so_far c.seat c.call a n) made it, refl)
answers_more so_far b m n [] (a0 ∷ answers) c a made it = absurd made
answers_more so_far b m n (c0 ∷ calls) [] c a made it = absurd made
answers_more so_far b m n (c0 ∷ calls) (a0 ∷ answers) c a made it = (made.0, made.1, answers_more (said c0 a0 ∷ so_far) made.0 m n calls answers c a made.2 it)

pub next_answered : {Z W : Type 0} (b m n : BookState) (calls : List (CodeSeatCall Z)) (answers : List (CodeAnswer W)) (i : ℕ) (c : CodeSeatCall Z) (a : CodeAnswer W) → i < length calls → i ≡ length answers → c ≡ get_or calls i c
    → AnswersAre b (map seat_call_of (take i calls)) (map answer_of answers) m → Answers m (said_by calls answers) c.seat (seat_call_of c).call (answer_of a) n
    → AnswersAre b (map seat_call_of (take (i + 1) calls)) (map answer_of (answers ++ a ∷ [])) n
next_answered b m n calls answers i c a lt many is made it =
    let so_far : said_after [] (map seat_call_of (take i calls)) (map answer_of answers) ≡ said_by calls answers
    = ap (λ (cs : List SeatCall). said_after [] cs (map answer_of answers)) (sym (take-map seat_call_of i calls))
    ∙ said_of_answered [] (map seat_call_of calls) (map answer_of answers) i (many ∙ sym (length-map answers answer_of)) (let all = length-map calls seat_call_of in omega arith) in
    let more : AnswersAre b (map seat_call_of (take i calls) ++ seat_call_of c ∷ []) (map answer_of answers ++ answer_of a ∷ []) n
    = answers_more [] b m n (map seat_call_of (take i calls)) (map answer_of answers) (seat_call_of c) (answer_of a) made (subst (λ (sf : List Said). Answers m sf c.seat (seat_call_of c).call (answer_of a) n) (sym so_far) it) in
    subst (λ (as' : List Answer). AnswersAre b (map seat_call_of (take (i + 1) calls)) as' n) (sym (map_push answer_of answers a))
    (subst (λ (cs : List SeatCall). AnswersAre b cs (map answer_of answers ++ answer_of a ∷ []) n) (sym (map_more seat_call_of calls i c lt ∙ ap (λ (x : CodeSeatCall _). map seat_call_of (take i calls) ++ seat_call_of x ∷ []) (sym is))) more)

-- ---- words

pub by_given : (does : Act) (b n : BookState) (so_far : List Said) (seat t : ℕ) (word : Word) (j : Judgement) (answer : Answer) → word ≡ Given j → IsVerdict j.trial j.verdict → Acts does b seat t j answer n → ActsByWord does b so_far seat t word answer n
by_given does b n so_far seat t word j answer is right made = subst (λ (w : Word). ActsByWord does b so_far seat t w answer n) (sym is) (judged j (refl, right) made)

pub by_own : {E : Type 0} (does : Act) (b n : BookState) (so_far : List Said) (seat t : ℕ) (r : Result (Option Judgement) E) (o : Option Judgement) (j : Judgement) (answer : Answer) → r ≡ Ok o → o ≡ Some j
    → IfOk r (λ own. MatchOption own (StandsForNone so_far seat t Own) (StandsFor so_far seat t Own)) → Acts does b seat t j answer n → ActsByWord does b so_far seat t Own answer n
by_own {E} does b n so_far seat t r o j answer is some stands made =
    judged j (subst (λ (x : Option Judgement). MatchOption x (StandsForNone so_far seat t Own) (StandsFor so_far seat t Own)) some
    (subst (λ (x : Result (Option Judgement) E). IfOk x (λ own. MatchOption own (StandsForNone so_far seat t Own) (StandsFor so_far seat t Own))) is stands)) made

pub by_none : {E : Type 0} (does : Act) (b : BookState) (so_far : List Said) (seat t : ℕ) (r : Result (Option Judgement) E) (o : Option Judgement) (answer : Answer) → r ≡ Ok o → o ≡ None
    → IfOk r (λ own. MatchOption own (StandsForNone so_far seat t Own) (StandsFor so_far seat t Own)) → IsNoneTold does b seat t answer → ActsByWord does b so_far seat t Own answer b
by_none {E} does b so_far seat t r o answer is none stands told =
    none_told (subst (λ (x : Option Judgement). MatchOption x (StandsForNone so_far seat t Own) (StandsFor so_far seat t Own)) none
    (subst (λ (x : Result (Option Judgement) E). IfOk x (λ own. MatchOption own (StandsForNone so_far seat t Own) (StandsFor so_far seat t Own))) is stands)) told refl

pub by_no_memory : (does : Act) (b : BookState) (so_far : List Said) (seat t : ℕ) → (trial : Trial) × (last_trial so_far seat t ≡ Some trial) → ActsByWord does b so_far seat t Own list.NoMemory b
by_no_memory does b so_far seat t told = no_memory told.0 refl told.1 refl refl

pub by_given_words : (b n : BookState) (so_far : List Said) (seat t : ℕ) (words : Words) (given right js : List Judgement) (told : BatchReport) → words ≡ GivenAll given → right ≡ given → AreRight right → js ≡ given → ReportsBatch b seat t js told n
    → ReportsByWords b so_far seat t words (list.BatchReported told) n
by_given_words b n so_far seat t words given right js told is r all k made =
    subst (λ (w : Words). ReportsByWords b so_far seat t w (list.BatchReported told) n) (sym is)
    (all_judged given told (refl, subst AreRight r all) refl (subst (λ (xs : List Judgement). ReportsBatch b seat t xs told n) k made))

pub by_own_words : (b n : BookState) (so_far : List Said) (seat t : ℕ) (words : Words) (own js : List Judgement) (told : BatchReport) → words ≡ OwnBatch → StandFor so_far seat t OwnBatch own → js ≡ own → ReportsBatch b seat t js told n
    → ReportsByWords b so_far seat t words (list.BatchReported told) n
by_own_words b n so_far seat t words own js told is stand k made =
    subst (λ (w : Words). ReportsByWords b so_far seat t w (list.BatchReported told) n) (sym is)
    (all_judged own told stand refl (subst (λ (xs : List Judgement). ReportsBatch b seat t xs told n) k made))

pub by_no_words : (b : BookState) (so_far : List Said) (seat t : ℕ) (words : Words) → words ≡ OwnBatch → (trials : List Trial) × (last_batch so_far seat t ≡ Some trials) → ReportsByWords b so_far seat t words list.NoMemory b
by_no_words b so_far seat t words is told = none_judged told.0 is told.1 refl refl
