-- Trials that are given together, the judgements of a batch and of a sheet, and the call that follows their report.
use Rattle.std.proofs.Common.{◌≡◌, ℕ, zero, suc, ◌+◌, ◌-◌, ◌<◌, ◌≤◌, List, [], ◌∷◌, ◌++◌, length, length-append, append-nil, append_assoc, get_or, Some, None, slice_get, Ok, refl, sym, ◌∙◌, ap, subst, arith, ◌≢◌, Bool, false, Option, drop, Result, Err, inr, true, true≢false, MatchOption, slice_set, inl}
use Rattle.std.proofs.lemmas.List.{get_or_push, drop_more, same_from_push}
use Rattle.std.specs.Bool.{⊤}
use Rattle.std.specs.List.{AllByRecursion}
use Rattle.chr_rule.specs.Scope.{IsRule}
use Rattle.chr_model.specs.Goals.{Numbered}
use Rattle.chr_store.specs.Labels.{LabelledStore, IsLabelled}
use Rattle.chr_search.specs.Trials.{Space, NoneLeft, IsNext}
use Rattle.chr_search.specs.Positions.{just_after}
use Rattle.chr_search.specs.Verdicts.{Trial, position, labels, IsFormed}
use Rattle.chr_search.specs.Answers.{IsAnswerBehind, after_judging}
use Rattle.chr_search.specs.declared.search.Ask.{Ask}
use Rattle.chr_search.specs.Judged.{Judgement, IsVerdict}
use Rattle.chr_search.specs.declared.judged.Verdict.TheVariants.{Whole}
use Rattle.chr_search.specs.Reach.{SearchState}
use Rattle.chr_search.proofs.Making.{parts, formed}
use Rattle.chr_search.proofs.Descents.{head_low, rule_low, rule_scoped}
use Rattle.chr_search.specs.declared.search.Ask.TheVariants as answers
use Rattle.chr_sheet.specs.declared.trials.Trials.{Trials as CodeTrials}
use Rattle.chr_sheet.specs.Kept.{trials_at, trials_in}
use Rattle.chr_sheet.specs.Sheets.{AreNext, IsNextTrial, Reports, IsFireable, done, moves, passes}
use Rattle.chr_sheet.specs.Rows.{JudgedSheet, listed, judgements_of}
use Rattle.chr_calls.specs.Turns.{Next, Turn}
use Rattle.chr_calls.specs.Books.{BookState, space_of, with_tickets}
use Rattle.chr_calls.specs.Calls.{HoldsLive, Turns, after_judgement, with_candidate_of, Drops, FiresOrMisses}
use Rattle.chr_calls.specs.Batches.{AreChained, AreTogether, GivesTrials, IsNextAfter, NoneAfter, Ends, ReportsAll, asks, ends, reports, IsLastOf, Fire, Drop, Sheet, Nothing, Sheets, sheet_of}
use Rattle.chr_calls.specs.declared.answers.TurnFault.{TurnFault}
use Rattle.chr_calls.specs.Tickets.{going_on, Ticket, ticket_at, Holds, IsNotHeld, with_candidate}
use Rattle.chr_calls.specs.Headline.{IsKept}
use Rattle.chr_calls.proofs.Tickets.{numbered_within, held_label}
use Rattle.chr_calls.proofs.Turning.{next_trial}
use Rattle.chr_calls.specs.declared.answers.Fired.{Fired}
use Rattle.chr_calls.specs.declared.answers.Dropping.{Dropping}
use Rattle.chr_calls.specs.declared.answers.DropFault.{DropFault}
use Rattle.chr_calls.specs.Calls as calls
use Rattle.chr_calls.specs.declared.answers.TurnFault.TheVariants as turn_fault
use Rattle.chr_calls.specs.declared.answers.Firing.TheVariants as firing
use Rattle.chr_calls.specs.declared.answers.Sheet.{Sheet as CodeSheet}
use Rattle.chr_calls.specs.declared.answers.Sheet.TheVariants as sheets
use Rattle.chr_calls.specs.Turns as turn
use Rattle.chr_calls.specs.Batches as batches
use Rattle.chr_book.specs.Given.{ComesNext, IsAskedNext, AreFormed, MovesOver, TellsWhole, IsReported, FollowsWith, GivesOrDrops}
use Rattle.chr_book.specs.Books.{IsHeldSearch}
use Rattle.chr_book.proofs.Turns.{comes, one_next, holds_set, set_twice, at_place, place_is, holds_at, next_turned, now_candidate, with_again, turned_again, held_in, judged_keeps, comes_next, none_comes}
use Rattle.chr_book.specs.Asked.{IsLiveSearch, IsTurn}

-- ---- the next one behind another

-- what a search answers for it
pub behind_told : {Z : Type 0} (b now : BookState) → b ≡ now → (l : ℕ) (last : Trial) {ask told : Ask Z} → IsAnswerBehind (space_of b l) (position last) ask → ask ≡ told → IsAnswerBehind (space_of now l) (position last) told
behind_told {Z} b now e l last {ask} {told} h is = subst (λ (m : BookState). IsAnswerBehind (space_of m l) (position last) told) e (subst (IsAnswerBehind (space_of b l) (position last)) is h)

-- ---- a trial with those after it

-- these come first of them, and so many may follow
pub record TogetherSoFar (IsNext : Trial → Trial → Type 0) (IsLast : Trial → Type 0) (most : ℕ) (first : Trial) (trials : List Trial) (left : ℕ) : Type 0 where
  pub before : List Trial
  pub last : Trial
  pub are : trials ≡ before ++ last ∷ []
  pub follow : (rest : List Trial) → AreChained IsNext IsLast left last rest → AreTogether IsNext IsLast (most - 1) first (trials ++ rest)

pub together_first : (IsNext : Trial → Trial → Type 0) (IsLast : Trial → Type 0) (most : ℕ) (first : Trial) (trials : List Trial) → trials ≡ first ∷ [] → TogetherSoFar IsNext IsLast most first trials (most - length trials)
together_first IsNext IsLast most first trials e = subst (λ ts. TogetherSoFar IsNext IsLast most first ts (most - length ts)) (sym e) (record {
  before = [];
  last = first;
  are = refl;
  follow = λ rest h. record { more = rest; are = refl; chained = h };
})

-- one more
pub together_next : (IsNext : Trial → Trial → Type 0) (IsLast : Trial → Type 0) (most : ℕ) (first last next : Trial) (trials new : List Trial) → length trials < most → (h : TogetherSoFar IsNext IsLast most first trials (most - length trials)) → last ≡ h.last → IsNext last next → new ≡ trials ++ next ∷ [] → TogetherSoFar IsNext IsLast most first new (most - length new)
together_next IsNext IsLast most first last next trials new less h e comes pushed =
    let there : IsNext h.last next = subst (λ t. IsNext t next) e comes in
    let one : suc (most - 1 - length trials) ≡ most - length trials = omega arith in
    let fewer : most - length (trials ++ next ∷ []) ≡ most - 1 - length trials = let n : length (trials ++ next ∷ []) ≡ length trials + 1 = length-append trials (next ∷ []) in omega arith in
    subst (λ ts. TogetherSoFar IsNext IsLast most first ts (most - length ts)) (sym pushed) (record {
      before = trials;
      last = next;
      are = refl;
      follow = λ rest more. subst (AreTogether IsNext IsLast (most - 1) first) (sym (append_assoc trials (next ∷ []) rest)) (h.follow (next ∷ rest) (subst (λ n. AreChained IsNext IsLast n h.last (next ∷ rest)) one (there, subst (λ n. AreChained IsNext IsLast n next rest) fewer more)));
    })

-- the last of them, and where it is
pub some_together : {IsNext : Trial → Trial → Type 0} {IsLast : Trial → Type 0} {most : ℕ} {first : Trial} {trials : List Trial} {left : ℕ} (h : TogetherSoFar IsNext IsLast most first trials left) → length trials ≡ length h.before + 1
some_together h = ap length h.are ∙ length-append h.before (h.last ∷ [])

pub last_there : (IsNext : Trial → Trial → Type 0) (IsLast : Trial → Type 0) (most : ℕ) (first : Trial) (trials : List Trial) (left : ℕ) (h : TogetherSoFar IsNext IsLast most first trials left) (d : Trial) → get_or trials (length trials - 1) d ≡ h.last
last_there IsNext IsLast most first trials left h d =
    let at : length h.before ≡ length trials - 1 = omega (arith, some_together h) in
    ap (λ ts. get_or ts (length trials - 1) d) h.are ∙ get_or_push h.before h.last d (length trials - 1) at

-- none is left, and there are as many as may be
pub together_end : (IsNext : Trial → Trial → Type 0) (IsLast : Trial → Type 0) (most : ℕ) (first last : Trial) (trials : List Trial) → length trials < most → (h : TogetherSoFar IsNext IsLast most first trials (most - length trials)) → last ≡ h.last → IsLast last → AreTogether IsNext IsLast (most - 1) first trials
together_end IsNext IsLast most first last trials less h e is =
    let none : IsLast h.last = subst IsLast e is in
    let one : suc (most - 1 - length trials) ≡ most - length trials = omega arith in
    subst (AreTogether IsNext IsLast (most - 1) first) (append-nil trials) (h.follow [] (subst (λ n. AreChained IsNext IsLast n h.last []) one none))

pub together_full : (IsNext : Trial → Trial → Type 0) (IsLast : Trial → Type 0) (most : ℕ) (first : Trial) (trials : List Trial) → most ≤ length trials → TogetherSoFar IsNext IsLast most first trials (most - length trials) → AreTogether IsNext IsLast (most - 1) first trials
together_full IsNext IsLast most first trials full h =
    let none : zero ≡ most - length trials = omega arith in
    subst (AreTogether IsNext IsLast (most - 1) first) (append-nil trials) (h.follow [] (subst (λ n. AreChained IsNext IsLast n h.last []) none tt))

-- ---- the trials of a sheet

-- those that are read ahead come after one another
chained_after : (s : Space) (most : ℕ) (trial : Trial) (more : List Trial) → AreNext s most (just_after (position trial)) more → AreChained (IsNextAfter s) (NoneAfter s) most trial more
chained_after s zero trial [] h = tt
chained_after s zero trial (next ∷ more) h = absurd h
chained_after s (suc most) trial [] h = h
chained_after s (suc most) trial (next ∷ more) h = (h.0, chained_after s most next more h.1)

-- the first of them is the next trial, and the others come after it
first_of_all : (s : Space) (most : ℕ) (place : List ℕ) (first : Trial) (trials : List Trial) → AreNext s (suc most) place trials → slice_get trials 0 ≡ Some first → IsNextTrial s place first × AreTogether (IsNextAfter s) (NoneAfter s) most first trials
first_of_all s most place first [] h is = absurd (cc)
first_of_all s most place first (x ∷ trials) h is =
    let same : x ≡ first = cc in
    subst (λ (t : Trial). IsNextTrial s place t × AreTogether (IsNextAfter s) (NoneAfter s) most t (x ∷ trials)) same
    (h.0, record { more = trials; are = refl; chained = chained_after s most x trials h.1 })

first_before : (trials more : List Trial) (first : Trial) → slice_get trials 0 ≡ Some first → slice_get (trials ++ more) 0 ≡ Some first
first_before [] more first is = absurd (cc)
first_before (x ∷ trials) more first is = is

first_in : {Z : Type 0} (items : List (CodeTrials Z)) (x : CodeTrials Z) (first : Trial) → slice_get items 0 ≡ Some x → slice_get (trials_at x) 0 ≡ Some first → slice_get (trials_in items) 0 ≡ Some first
first_in [] x first at is = absurd (cc)
first_in (y ∷ items) x first at is =
    let same : y ≡ x = cc in
    first_before (trials_at y) (trials_in items) first (subst (λ (z : CodeTrials _). slice_get (trials_at z) 0 ≡ Some first) (sym same) is)

pub sheet_first : {Z : Type 0} (s : Space) (asked most : ℕ) (place : List ℕ) (items : List (CodeTrials Z)) (x : CodeTrials Z) (first : Trial) → asked ≡ suc most → AreNext s asked place (trials_in items) → slice_get items 0 ≡ Some x → slice_get (trials_at x) 0 ≡ Some first → IsNextTrial s place first × AreTogether (IsNextAfter s) (NoneAfter s) most first (trials_in items)
sheet_first s asked most place items x first many h at is = first_of_all s most place first (trials_in items) (subst (λ n. AreNext s n place (trials_in items)) many h) (first_in items x first at is)

-- there is none
pub sheet_none : {Z : Type 0} (s : Space) (asked most : ℕ) (place : List ℕ) (items : List (CodeTrials Z)) → asked ≡ suc most → AreNext s asked place (trials_in items) → slice_get items 0 ≡ None → NoneLeft s place
sheet_none s asked most place [] many h at = subst (λ n. AreNext s n place []) many h
sheet_none s asked most place (x ∷ items) many h at = absurd (cc)

-- where the goal of a search is live
pub sheet_comes : {Z : Type 0} (b now : BookState) → b ≡ now → (seat t asked most : ℕ) (s : SearchState) (items : List (CodeTrials Z)) (x : CodeTrials Z) (first : Trial) → asked ≡ suc most → IsLiveSearch now seat t s → AreNext (space_of b s.label) asked s.place (trials_in items) → slice_get items 0 ≡ Some x → slice_get (trials_at x) 0 ≡ Some first → IsFormed first → ComesNext now seat t first × AreTogether (IsNextAfter (space_of now s.label)) (NoneAfter (space_of now s.label)) most first (trials_in items)
sheet_comes b now e seat t asked most s items x first many h next at is formed =
    let all = sheet_first (space_of b s.label) asked most s.place items x first many next at is in (
      comes_next {Z = Unit {0}} b now e seat t s (answers.Trial first) first h all.0 refl formed,
      subst (λ (n : BookState). AreTogether (IsNextAfter (space_of n s.label)) (NoneAfter (space_of n s.label)) most first (trials_in items)) e all.1,
    )

pub sheet_done : {Z : Type 0} (b now : BookState) → b ≡ now → (seat t asked most : ℕ) (s : SearchState) (items : List (CodeTrials Z)) → asked ≡ suc most → IsLiveSearch now seat t s → AreNext (space_of b s.label) asked s.place (trials_in items) → slice_get items 0 ≡ None → IsTurn now seat t (Ok turn.Done)
sheet_done b now e seat t asked most s items many h next at = none_comes {Z = Unit {0}} b now e seat t s answers.Done h (sheet_none (space_of b s.label) asked most s.place items many next at) refl

-- ---- the next trial with those after it

pub given : (IsNext : Space → Trial → Trial → Type 0) (IsLast : Space → Trial → Type 0) (most : ℕ) (b now n : BookState) → b ≡ now → (seat t l : ℕ) (first : Trial) (trials : List Trial) → HoldsLive now seat t l → Turns b seat t (Ok (Next first)) n → AreTogether (IsNext (space_of now l)) (IsLast (space_of now l)) most first trials → GivesTrials IsNext IsLast most now seat t trials n
given IsNext IsLast most b now n e seat t l first trials holds turned those = record { first = first; turn = subst (λ (m : BookState). Turns m seat t (Ok (Next first)) n) e turned; label = l; holds = holds; together = those }

-- what is asked of the judged trial, under other names
pub asked_as : (b : BookState) (seat t : ℕ) (given trial : Trial) (told answer : Option Bool) → given ≡ trial → told ≡ answer → IsAskedNext b seat t given told → IsAskedNext b seat t trial answer
asked_as b seat t given trial told answer same is h = subst (λ (x : Trial). IsAskedNext b seat t x answer) same (subst (IsAskedNext b seat t given) is h)

-- ---- where it ends

-- no trial comes next
pub none_ends : (b n : BookState) (seat t : ℕ) (j : Judgement) (next : Result Turn TurnFault) → IsAskedNext b seat t j.trial None → Turns b seat t next n → Ends j next
none_ends b n seat t j (Ok (Next trial)) none turned = absurd (none trial n turned)
none_ends b n seat t j next none turned = tt

-- the judged trial does, which is whole
pub whole_ends : (b n : BookState) (seat t : ℕ) (j : Judgement) (next : Result Turn TurnFault) → ComesNext b seat t j.trial → j.verdict ≡ Whole → Turns b seat t next n → Ends j next
whole_ends b n seat t j (Ok (Next trial)) h whole turned = (one_next b n seat t j.trial trial h turned, whole)
whole_ends b n seat t j next h whole turned = tt

-- ---- the judgements that are left

-- what is reported of the judgements that are left completes what is reported of all
abbrev pub Completes : ℕ → ℕ → BookState → List Judgement → BookState → List Judgement → ℕ → Type 0
Completes seat t b js now left reported = (more : ℕ) (next : Result Turn TurnFault) (n : BookState) → ReportsAll seat t now left more next n → ReportsAll seat t b js (reported + more) next n

-- the same book and number under other names
pub completes_as : (seat t : ℕ) (b now moved : BookState) (js rest : List Judgement) (reported k : ℕ) → now ≡ moved → k ≡ reported → Completes seat t b js moved rest reported → Completes seat t b js now rest k
completes_as seat t b now moved js rest reported k e f h = subst (λ m. Completes seat t b js m rest k) (sym e) (subst (Completes seat t b js moved rest) (sym f) h)

-- the judgements that are left, where this one comes next
pub completes_here : (seat t : ℕ) (b now : BookState) (js : List Judgement) (i : ℕ) (j : Judgement) (reported : ℕ) → i < length js → j ≡ get_or js i j → Completes seat t b js now (drop i js) reported → Completes seat t b js now (j ∷ drop (i + 1) js) reported
completes_here seat t b now js i j reported within is h = subst (λ (xs : List Judgement). Completes seat t b js now xs reported) (drop_more js i j within ∙ ap (λ (y : Judgement). y ∷ drop (i + 1) js) (sym is)) h

-- the last line of trial: there it ends, or all judgements are done
ended : (seat t : ℕ) (b now n : BookState) (js left : List Judgement) (reported : ℕ) (next : Result Turn TurnFault) → Completes seat t b js now left reported → ReportsAll seat t now left 0 next n → ReportsAll seat t b js reported next n
ended seat t b now n js left reported next inv h =
    let same : reported + 0 ≡ reported = omega arith in
    subst (λ k. ReportsAll seat t b js k next n) same (inv 0 next n h)

pub stopped : (seat t : ℕ) (b now n : BookState) (js rest : List Judgement) (j : Judgement) (reported : ℕ) (next : Result Turn TurnFault) → Completes seat t b js now (j ∷ rest) reported → Turns now seat t next n → Ends j next → ReportsAll seat t b js reported next n
stopped seat t b now n js rest j reported next inv turned last = ended seat t b now n js (j ∷ rest) reported next inv (ends now n j rest next turned last)

pub asked_last : (seat t : ℕ) (b now n : BookState) (js left : List Judgement) (reported : ℕ) (next : Result Turn TurnFault) → left ≡ [] → Completes seat t b js now left reported → Turns now seat t next n → ReportsAll seat t b js reported next n
asked_last seat t b now n js left reported next none inv turned = ended seat t b now n js left reported next inv (subst (λ xs. ReportsAll seat t now xs 0 next n) (sym none) (asks now n next turned))

-- a judgement is reported
pub one_reported : (seat t : ℕ) (b now moved : BookState) (js rest : List Judgement) (j : Judgement) (reported : ℕ) → Completes seat t b js now (j ∷ rest) reported → ComesNext now seat t j.trial → j.verdict ≢ Whole → moved ≡ after_judgement now t j → Completes seat t b js moved rest (reported + 1)
one_reported seat t b now moved js rest j reported inv next other is more answer n h =
    let sum : reported + suc more ≡ (reported + 1) + more = omega arith in
    let asked : BookState = with_candidate_of now t (Some j.trial) in
    subst (λ k. ReportsAll seat t b js k answer n) sum
    (inv (suc more) answer n (reports now asked moved n j rest tt more answer (next_turned now seat t j.trial next) (now_candidate now seat t j.trial next, other, is ∙ sym (with_again now t next.label (Some j.trial) (going_on (after_judging j)) next.holds.holds.goal)) h))

-- One is passed over: what is reported of the others is reported with it too. Where no trial could be given at last, it ended
-- here.
pub passed_over : (seat t : ℕ) (now n : BookState) (j : Judgement) (rest : List Judgement) (more : ℕ) (answer : Result Turn TurnFault) (other : Trial) → other ≢ j.trial → ComesNext now seat t other → ReportsAll seat t now rest more answer n → ReportsAll seat t now (j ∷ rest) more answer n
passed_over seat t now n j rest more (Err fault) other ne next (asks b1 n1 answer1 turned) = ends now n j [] (Err fault) turned tt
passed_over seat t now n j rest more (Ok told) other ne next (asks b1 n1 answer1 turned) =
    batches.passes now _ n other j [] 0 (Ok told) ne (next_turned now seat t other next) (asks _ n (Ok told) (turned_again now n seat t (Some other) told turned))
passed_over seat t now n j rest more (Err fault) other ne next (ends b1 n1 k tail answer1 turned last) = ends now n j (k ∷ tail) (Err fault) turned tt
passed_over seat t now n j rest more (Ok told) other ne next (ends b1 n1 k tail answer1 turned last) =
    batches.passes now _ n other j (k ∷ tail) 0 (Ok told) ne (next_turned now seat t other next) (ends _ n k tail (Ok told) (turned_again now n seat t (Some other) told turned) last)
passed_over seat t now n j rest more answer other ne next (reports b1 told moved n1 k tail one count answer1 turned judged left) =
    batches.passes now _ n other j (k ∷ tail) (suc count) answer ne (next_turned now seat t other next) (reports _ told moved n k tail one count answer (turned_again now told seat t (Some other) (Next k.trial) turned) judged left)
passed_over seat t now n j rest more answer other ne next (batches.passes b1 told n1 trial k tail count answer1 ne1 turned left) =
    batches.passes now _ n other j (k ∷ tail) count answer ne (next_turned now seat t other next) (batches.passes _ told n trial k tail count answer ne1 (turned_again now told seat t (Some other) (Next trial) turned) left)

pub one_passed : (seat t : ℕ) (b now : BookState) (js rest : List Judgement) (j : Judgement) (reported : ℕ) → Completes seat t b js now (j ∷ rest) reported → IsAskedNext now seat t j.trial (Some false) → Completes seat t b js now rest reported
one_passed seat t b now js rest j reported inv other more answer n h = inv more answer n (passed_over seat t now n j rest more answer other.0 other.1 other.2 h)

-- ---- the trials that come next are formed

pub formed_there : (b : BookState) (l : ℕ) (store : LabelledStore) → IsKept b → store.entries ≡ b.store → IsLabelled store → AllByRecursion IsRule b.rules → AreFormed (space_of b l)
formed_there b l store k same labelled scoped place trial h =
    let is = h.1 in
    formed (space_of b l) trial is.order store k.plans same labelled (rule_scoped b.rules scoped trial.number trial.rule is.rule_is) (rule_low b.rules trial.number trial.rule is.rule_is).0 (head_low b.plans trial.number trial.head is.order is.order_is)
    (parts (space_of b l) trial.number trial.head (labels trial) (position trial) trial.rule is.order refl (next_trial (space_of b l) place (position trial) h.0) is.rule_is is.order_is) is.heads_are is.live

-- a search has moved over judgements, as a report of them says
pub moves_in : (b now : BookState) (s after : SearchState) (store : LabelledStore) (sheet : JudgedSheet) (count : ℕ) (told : Bool) → b ≡ now → IsKept b → store.entries ≡ b.store → IsLabelled store → AllByRecursion IsRule b.rules → MatchOption sheet.whole ⊤ (λ w. w.verdict ≡ Whole)
    → after.label ≡ s.label → Reports (space_of b s.label) s.place sheet.others count after.place → IsFireable (space_of b s.label) after.place sheet.whole told → MovesOver now s after sheet count told
moves_in b now s after store sheet count told is kept same labelled scoped whole label moved tells =
    subst (λ (n : BookState). MovesOver n s after sheet count told) is (record { label = label; formed = formed_there b s.label store kept same labelled scoped; whole = whole; moved = moved; tells = tells })

-- ---- where a search has gone on

-- the book after so many judgements, where the search is at a place
abbrev moved_tickets : List Ticket → ℕ → List ℕ → ℕ → List Ticket
moved_tickets tickets t place zero = tickets
moved_tickets tickets t place (suc count) = slice_set tickets t (going_on place (ticket_at tickets t))

abbrev moved_to : BookState → ℕ → List ℕ → ℕ → BookState
moved_to b t place count = with_tickets b (moved_tickets b.tickets t place count)

none_moved : (s : Space) (place after : List ℕ) (js : List Judgement) (count : ℕ) → count ≡ 0 → Reports s place js count after → after ≡ place
none_moved s place after js count none (done p) = refl
none_moved s place after js count none (moves p a j more c next other rest) = absurd (omega arith)
none_moved s place after js count none (passes p a j more c not rest) = none_moved s place after more count none rest

-- the first of those that moved it is of the next trial
some_moved : (s : Space) (place after : List ℕ) (js : List Judgement) (count : ℕ) → 1 ≤ count → Reports s place js count after → (trial : Trial) × IsNextTrial s place trial
some_moved s place after js count some (done p) = absurd (omega arith)
some_moved s place after js count some (moves p a j more c next other rest) = (j.trial, next)
some_moved s place after js count some (passes p a j more c not rest) = some_moved s place after more count some rest

-- the last of them isn't whole and of the trial that is next after it
last_passed : (s : Space) (place after : List ℕ) (before : List Judgement) (count : ℕ) (j : Judgement) → Reports s place (before ++ j ∷ []) count after → j.verdict ≡ Whole → IsNextTrial s after j.trial → ⊥
last_passed s place after [] count j (moves p a i more c next other rest) whole comes = other whole
last_passed s place after [] count j (passes p a i more c not rest) whole comes = not (subst (λ p. IsNextTrial s p j.trial) (stays place after c rest) comes)
  where
    stays : (place after : List ℕ) (count : ℕ) → Reports s place [] count after → after ≡ place
    stays place after count (done p) = refl
last_passed s place after (k ∷ before) count j (moves p a i more c next other rest) whole comes = last_passed s (after_judging k) after before c j rest whole comes
last_passed s place after (k ∷ before) count j (passes p a i more c not rest) whole comes = last_passed s place after before c j rest whole comes

-- one more
moved_on : (b : BookState) (t l : ℕ) (j : Judgement) (after : List ℕ) (count : ℕ) → (ticket_at b.tickets t).goal ≡ Numbered l → (count ≡ 0 → after ≡ after_judging j) → moved_to (after_judgement b t j) t after count ≡ moved_to b t after (suc count)
moved_on b t l j after zero goal none = ap (at_place b t) (sym (none refl))
moved_on b t l j after (suc count) goal none = ap (with_tickets b) (set_twice b.tickets t (going_on (after_judging j) (ticket_at b.tickets t)) (going_on after) (numbered_within b.tickets t l goal))

moved_there : (b : BookState) (seat t l : ℕ) (place : List ℕ) (count : ℕ) → Holds b.tickets seat t l → (count ≡ 0 → place ≡ (ticket_at b.tickets t).position) → Holds (moved_to b t place count).tickets seat t l × ((ticket_at (moved_to b t place count).tickets t).position ≡ place)
moved_there b seat t l place zero h none = (h, sym (none refl))
moved_there b seat t l place (suc count) h none = (holds_at b seat t l place h, place_is b t l place h.goal)

-- ---- what is reported, by the line of trial

-- a trial comes next where the search says so, and the other way round
comes_there : (s : Space) (b : BookState) (seat t l : ℕ) (place : List ℕ) (trial : Trial) → AreFormed s → space_of b l ≡ s → Holds b.tickets seat t l → (ticket_at b.tickets t).position ≡ place → IsNextTrial s place trial → ComesNext b seat t trial
comes_there s b seat t l place trial f same h at next =
    let here : IsNextTrial (space_of b l) place trial = subst (λ z. IsNextTrial z place trial) (sym same) next in
    comes b seat t (record { label = l; place = place }) trial (record { holds = h; place = sym at }) (f place trial next) here.0 here.1

next_there : (s : Space) (b : BookState) (seat t l : ℕ) (place : List ℕ) (trial : Trial) → space_of b l ≡ s → Holds b.tickets seat t l → (ticket_at b.tickets t).position ≡ place → ComesNext b seat t trial → IsNextTrial s place trial
next_there s b seat t l place trial same h at comes =
    let label : comes.label ≡ l = held_label b.tickets t comes.label l comes.holds.holds.goal h.goal in
    let is : calls.IsNextTrial b t l trial = subst (λ z. calls.IsNextTrial b t z trial) label comes.is in
    subst (λ z. IsNextTrial z place trial) same (subst (λ p. IsNext (space_of b l) p (position trial)) at is.next, is.is)

-- what the line of trial has given comes next
pub given_next : (b n : BookState) (seat t : ℕ) (trial : Trial) → Turns b seat t (Ok (Next trial)) n → ComesNext b seat t trial
given_next b n seat t trial turned = record { label = turned.0; holds = turned.1; is = turned.2 }

differs : (s : Space) (place : List ℕ) (trial other : Trial) → (IsNextTrial s place trial → ⊥) → IsNextTrial s place other → other ≢ trial
differs s place trial other not next same = not (subst (IsNextTrial s place) same next)

-- one is passed over, which isn't of the next trial
passed_by : (s : Space) (l : ℕ) → AreFormed s → (b n asked : BookState) (seat t : ℕ) (place after : List ℕ) (j : Judgement) (more all : List Judgement) (count : ℕ) (next : Result Turn TurnFault) → space_of b l ≡ s → Holds b.tickets seat t l → (ticket_at b.tickets t).position ≡ place → (IsNextTrial s place j.trial → ⊥) → Reports s place more count after
    → n ≡ moved_to b t after count → Turns n seat t next asked → ReportsAll seat t b all count next asked → ReportsAll seat t b (j ∷ all) count next asked
passed_by s l f b n asked seat t place after j more all zero (Ok (Next trial)) same h at not rest e turned left =
    let comes = given_next b asked seat t trial (subst (λ (m : BookState). Turns m seat t (Ok (Next trial)) asked) e turned) in
    passed_over seat t b asked j all 0 (Ok (Next trial)) trial (differs s place j.trial trial not (next_there s b seat t l place trial same h at comes)) comes left
passed_by s l f b n asked seat t place after j more all zero next same h at not rest e turned left = ends b asked j all next (subst (λ (m : BookState). Turns m seat t next asked) e turned) tt
passed_by s l f b n asked seat t place after j more all (suc count) next same h at not rest e turned left =
    let some = some_moved s place after more (suc count) (omega arith) rest in
    passed_over seat t b asked j all (suc count) next some.0 (differs s place j.trial some.0 not some.1) (comes_there s b seat t l place some.0 f same h at some.1) left

all_reported : (s : Space) (l : ℕ) → AreFormed s → (b n asked : BookState) (seat t : ℕ) (place after : List ℕ) (js tail : List Judgement) (count : ℕ) (next : Result Turn TurnFault) → space_of b l ≡ s → Holds b.tickets seat t l → (ticket_at b.tickets t).position ≡ place → Reports s place js count after
    → n ≡ moved_to b t after count → Turns n seat t next asked → ReportsAll seat t n tail 0 next asked → ReportsAll seat t b (js ++ tail) count next asked
all_reported s l f b n asked seat t place after js tail count next same h at (done p) e turned left = subst (λ (m : BookState). ReportsAll seat t m tail 0 next asked) e left
all_reported s l f b n asked seat t place after js tail count next same h at (moves p a j more c comes other rest) e turned left =
    let here = comes_there s b seat t l place j.trial f same h at comes in
    let moved : BookState = after_judgement b t j in
    let on : n ≡ moved_to moved t after c = e ∙ sym (moved_on b t l j after c h.goal (λ none. none_moved s (after_judging j) after more c none rest)) in
    reports b (with_candidate_of b t (Some j.trial)) moved asked j (more ++ tail) tt c next (next_turned b seat t j.trial here) (now_candidate b seat t j.trial here, other, sym (with_again b t l (Some j.trial) (going_on (after_judging j)) h.goal))
    (all_reported s l f moved n asked seat t (after_judging j) after more tail c next same (holds_at b seat t l (after_judging j) h) (place_is b t l (after_judging j) h.goal) rest on turned left)
all_reported s l f b n asked seat t place after js tail count next same h at (passes p a j more c not rest) e turned left =
    passed_by s l f b n asked seat t place after j more (more ++ tail) count next same h at not rest e turned (all_reported s l f b n asked seat t place after more tail count next same h at rest e turned left)

-- the one that is whole comes last
last_reported : (b asked : BookState) (seat t l : ℕ) (place : List ℕ) (whole : Option Judgement) (told : Bool) (next : Result Turn TurnFault) → AreFormed (space_of b l) → Holds b.tickets seat t l → (ticket_at b.tickets t).position ≡ place → MatchOption whole ⊤ (λ w. w.verdict ≡ Whole) → IsFireable (space_of b l) place whole told
    → Turns b seat t next asked → ReportsAll seat t b (listed whole) 0 next asked
last_reported b asked seat t l place None told next f h at is tells turned = asks b asked next turned
last_reported b asked seat t l place (Some j) true (Ok (Next trial)) f h at is tells turned =
    ends b asked j [] (Ok (Next trial)) turned (one_next b asked seat t j.trial trial (comes_there (space_of b l) b seat t l place j.trial f refl h at (tells.0 refl)) turned, is)
last_reported b asked seat t l place (Some j) false (Ok (Next trial)) f h at is tells turned =
    let comes = given_next b asked seat t trial turned in
    passed_over seat t b asked j [] 0 (Ok (Next trial)) trial (differs (space_of b l) place j.trial trial (λ next. true≢false (sym (tells.1 next))) (next_there (space_of b l) b seat t l place trial refl h at comes)) comes (asks b asked (Ok (Next trial)) turned)
last_reported b asked seat t l place (Some j) told next f h at is tells turned = ends b asked j [] next turned tt

-- ---- what is told of it

tells_whole : (n : BookState) (seat t l : ℕ) (place after : List ℕ) (sheet : JudgedSheet) (count : ℕ) (told : Bool) → AreFormed (space_of n l) → Holds n.tickets seat t l → (ticket_at n.tickets t).position ≡ after → Reports (space_of n l) place sheet.others count after → IsFireable (space_of n l) after sheet.whole told → TellsWhole n seat t sheet told
tells_whole n seat t l place after sheet count told f h at moved tells = record {
  told_next = λ j e is. comes_there (space_of n l) n seat t l after j.trial f refl h at ((subst (λ w. IsFireable (space_of n l) after w told) e tells).0 is);
  next_told = λ j last whole comes. of_last sheet.whole tells j last whole (next_there (space_of n l) n seat t l after j.trial refl h at comes);
}
  where
    of_last : (w : Option Judgement) → IsFireable (space_of n l) after w told → (j : Judgement) → IsLastOf (sheet.others ++ listed w) j → j.verdict ≡ Whole → IsNextTrial (space_of n l) after j.trial → (w ≡ Some j) × (told ≡ true)
    of_last None is j last whole next = absurd (last_passed (space_of n l) place after last.0 count j (subst (λ js. Reports (space_of n l) place js count after) (sym (append-nil sheet.others) ∙ last.1) moved) whole next)
    of_last (Some w) is j last whole next =
        let same : w ≡ j = (same_from_push sheet.others last.0 w j last.1).1 in
        (ap Some same, is.1 (subst (λ (x : Judgement). IsNextTrial (space_of n l) after x.trial) (sym same) next))

-- ---- what is reported of a sheet

pub is_reported : (b n : BookState) (seat t : ℕ) (s after : SearchState) (sheet : JudgedSheet) (count : ℕ) (told : Bool) → IsHeldSearch b.tickets seat t s → MovesOver b s after sheet count told → n ≡ moved_to b t after.place count → IsReported b seat t sheet count told n
is_reported b n seat t s after sheet count told h over e =
    let m : BookState = moved_to b t after.place count in
    let there = moved_there b seat t s.label after.place count h.holds (λ none. none_moved (space_of b s.label) s.place after.place sheet.others count none over.moved ∙ h.place) in
    subst (IsReported b seat t sheet count told) (sym e) (record {
      reports = λ next asked turned.
          all_reported (space_of b s.label) s.label over.formed b m asked seat t s.place after.place sheet.others (listed sheet.whole) count next refl h.holds (sym h.place) over.moved refl turned
          (last_reported m asked seat t s.label after.place sheet.whole told next over.formed there.0 there.1 over.whole over.tells turned);
      tells = tells_whole m seat t s.label s.place after.place sheet count told over.formed there.0 there.1 over.moved over.tells;
    })

-- nothing is, where the seat doesn't hold the ticket
none_reported_of : (b asked : BookState) (seat t : ℕ) (js : List Judgement) (next : Result Turn TurnFault) → IsNotHeld b.tickets seat t → Turns b seat t next asked → ReportsAll seat t b js 0 next asked
none_reported_of b asked seat t [] next not turned = asks b asked next turned
none_reported_of b asked seat t (j ∷ js) (Ok (Next trial)) not turned = absurd (not turned.1.holds.state)
none_reported_of b asked seat t (j ∷ js) next not turned = ends b asked j js next turned tt

pub not_reported : (b : BookState) (seat t : ℕ) (sheet : JudgedSheet) → IsNotHeld b.tickets seat t → IsReported b seat t sheet 0 false b
not_reported b seat t sheet not = record {
  reports = λ next asked turned. none_reported_of b asked seat t (judgements_of sheet) next not turned;
  tells = record { told_next = λ j is told. absurd (true≢false (sym told)); next_told = λ j last whole comes. absurd (not comes.holds.holds.state) };
}

-- the tickets, where some were
moved_set : (b : BookState) (t : ℕ) (place : List ℕ) (count : ℕ) (tickets : List Ticket) → 0 < count → tickets ≡ slice_set b.tickets t (going_on place (ticket_at b.tickets t)) → with_tickets b tickets ≡ moved_to b t place count
moved_set b t place zero tickets some e = absurd (omega arith)
moved_set b t place (suc count) tickets some e = ap (with_tickets b) e

-- ---- what the book keeps

moves_keep : (s : Space) (l : ℕ) → AreFormed s → (b n : BookState) (seat t : ℕ) (place after : List ℕ) (js : List Judgement) (count : ℕ) → AllByRecursion (λ j. IsVerdict j.trial j.verdict) js → space_of b l ≡ s → Holds b.tickets seat t l → (ticket_at b.tickets t).position ≡ place → Reports s place js count after → n ≡ moved_to b t after count → IsKept b → IsKept n
moves_keep s l f b n seat t place after js count right same h at (done p) e k = subst IsKept (sym e) k
moves_keep s l f b n seat t place after js count right same h at (moves p a j more c comes other rest) e k =
    let moved : BookState = after_judgement b t j in
    let on : n ≡ moved_to moved t after c = e ∙ sym (moved_on b t l j after c h.goal (λ none. none_moved s (after_judging j) after more c none rest)) in
    moves_keep s l f moved n seat t (after_judging j) after more c right.1 same (holds_at b seat t l (after_judging j) h) (place_is b t l (after_judging j) h.goal) rest on (judged_keeps b moved seat t j (inr (comes_there s b seat t l place j.trial f same h at comes)) right.0 other refl k)
moves_keep s l f b n seat t place after js count right same h at (passes p a j more c not rest) e k = moves_keep s l f b n seat t place after more count right.1 same h at rest e k

-- ---- where a ticket's search has moved over the judgements

-- none was reported
pub none_gone : (b : BookState) (seat t : ℕ) (s given after : SearchState) (sheet : JudgedSheet) (count : ℕ) (told : Bool) → IsHeldSearch b.tickets seat t s → given ≡ s → MovesOver b given after sheet count told → count ≡ 0 → IsReported b seat t sheet count told b
none_gone b seat t s given after sheet count told h same over none = is_reported b b seat t given after sheet count told (subst (IsHeldSearch b.tickets seat t) (sym same) h) over (ap (λ k. moved_to b t after.place k) (sym none))

-- some were
pub some_gone : (b now : BookState) → b ≡ now → (seat t : ℕ) (s given after : SearchState) (sheet : JudgedSheet) (count : ℕ) (told : Bool) (tickets : List Ticket) → AllByRecursion (λ j. IsVerdict j.trial j.verdict) sheet.others → IsHeldSearch now.tickets seat t s → given ≡ s → MovesOver now given after sheet count told → 0 < count
    → tickets ≡ slice_set b.tickets t (going_on after.place (ticket_at b.tickets t)) → IsKept b → IsKept (with_tickets b tickets) × IsReported now seat t sheet count told (with_tickets b tickets)
some_gone b now e seat t s given after sheet count told tickets right h same over some ts k =
    let held = held_in b now e seat t given (subst (IsHeldSearch now.tickets seat t) (sym same) h) in
    let here : MovesOver b given after sheet count told = subst (λ (m : BookState). MovesOver m given after sheet count told) (sym e) over in
    let moved = moved_set b t after.place count tickets some ts in (
      moves_keep (space_of b given.label) given.label here.formed b (with_tickets b tickets) seat t given.place after.place sheet.others count right refl held.holds (sym held.place) here.moved moved k,
      subst (λ (m : BookState). IsReported m seat t sheet count told (with_tickets b tickets)) e (is_reported b (with_tickets b tickets) seat t given after sheet count told held here moved),
    )

-- ---- where no judgement is whole and of the next trial

-- the next trial is given with those after it
gives : (b n : BookState) (seat t most : ℕ) (trials : List Trial) → GivesTrials IsNextAfter NoneAfter (most - 1) b seat t trials n → GivesOrDrops b seat t most (Sheet (Ok (batches.Trials trials))) n
gives b n seat t most trials h js none = record {
  next = Ok (Next h.first);
  asked = n;
  turned = h.turn;
  follows = (h.first, refl, λ j last whole. none j h.first last whole (given_next b n seat t h.first h.turn), again);
}
  where
    again : GivesTrials IsNextAfter NoneAfter (most - 1) n seat t trials n
    again = subst (λ (m : BookState). GivesTrials IsNextAfter NoneAfter (most - 1) m seat t trials n) (sym h.turn.3) (record {
      first = h.first;
      turn = turned_again b n seat t (Some h.first) (Next h.first) h.turn;
      label = h.label;
      holds = record { holds = holds_set b.tickets seat t h.label (with_candidate (Some h.first) (ticket_at b.tickets t)) refl refl h.holds.holds; live = h.holds.live };
      together = h.together;
    })

pub sheet_given : {Z : Type 0} (b n : BookState) (seat t most : ℕ) (sheet : CodeSheet Z) (trials : _) → sheet ≡ sheets.Trials trials → Sheets b seat t most (sheet_of (Ok sheet)) n → GivesOrDrops b seat t most (Sheet (sheet_of {Z = Z} (Ok (sheets.Trials trials)))) n
sheet_given {Z} b n seat t most sheet trials is h = gives b n seat t most (trials_in trials.items) (subst (λ (x : CodeSheet Z). Sheets b seat t most (sheet_of (Ok x)) n) is h)

-- none is left, or the label has left the store
pub sheet_dropped : {Z : Type 0} (b now n : BookState) (seat t most : ℕ) (sheet : CodeSheet Z) (answer : Result Dropping DropFault) → ((trials : _) → sheet ≡ sheets.Trials trials → ⊥) → Sheets b seat t most (sheet_of (Ok sheet)) now → Drops now seat t answer n → GivesOrDrops b seat t most (Drop answer) n
sheet_dropped b now n seat t most (sheets.Trials trials) answer not h drops js none = absurd (not trials refl)
sheet_dropped b now n seat t most sheets.Done answer not h drops js none = record { next = Ok turn.Done; asked = now; turned = h; follows = (inl refl, drops) }
sheet_dropped b now n seat t most sheets.Gone answer not h drops js none = record { next = Ok turn.Gone; asked = now; turned = h; follows = (inr refl, drops) }

-- no trial could be asked for
pub none_follows : (b n : BookState) (seat t most : ℕ) (fault : TurnFault) → Turns b seat t (Err fault) n → GivesOrDrops b seat t most (Nothing fault) n
none_follows b n seat t most fault h js none = record { next = Err fault; asked = n; turned = h; follows = (refl, refl) }

-- ---- a judgement that is whole

-- there is none, or it isn't of the next trial
pub not_told : (b : BookState) (seat t : ℕ) (sheet : JudgedSheet) (told : Bool) → TellsWhole b seat t sheet told → ((j : Judgement) → sheet.whole ≡ Some j → told ≡ true → ⊥) → (j : Judgement) (trial : Trial) → IsLastOf (judgements_of sheet) j → j.verdict ≡ Whole → ComesNext b seat t trial → trial ≢ j.trial
not_told b seat t sheet told tells not j trial last whole comes same =
    let is = tells.next_told j last whole (subst (ComesNext b seat t) same comes) in
    not j is.0 is.1

-- it fires, as if it had been asked for
pub whole_fires : (b n : BookState) (seat t most : ℕ) (sheet : JudgedSheet) (j : Judgement) (fired : Fired) → sheet.whole ≡ Some j → j.verdict ≡ Whole → ComesNext b seat t j.trial → FiresOrMisses (with_candidate_of b t (Some j.trial)) seat t j (Ok (firing.Fired fired)) n → FollowsWith b seat t most (judgements_of sheet) (Fire (Ok (firing.Fired fired))) n
whole_fires b n seat t most sheet j fired is whole comes h = record {
  next = Ok (Next j.trial);
  asked = with_candidate_of b t (Some j.trial);
  turned = next_turned b seat t j.trial comes;
  follows = (j, (sheet.others, ap (λ w. sheet.others ++ listed w) is), whole, refl, h);
}

-- memory ran out
pub whole_stays : (b n : BookState) (seat t most : ℕ) (js : List Judgement) (j : Judgement) → ComesNext b seat t j.trial → n ≡ b → FollowsWith b seat t most js (Nothing turn_fault.NoMemory) n
whole_stays b n seat t most js j comes same = record { next = Err turn_fault.NoMemory; asked = b; turned = (comes.label, comes.holds, refl); follows = (refl, same) }

-- the first trial of a sheet, and those after it
