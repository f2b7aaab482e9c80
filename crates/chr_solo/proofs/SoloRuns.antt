-- Runs of one seat: what is judged stays the candidate of the next ticket, a run goes on at its end, and calls and runs have one outcome.
use Rattle.std.proofs.Common.{◌≡◌, ℕ, zero, suc, ◌+◌, ◌*◌, ◌<◌, ◌≤◌, ◌≢◌, ◌⊎◌, inl, inr, List, length, slice_set, Option, Some, None, MatchOption, Result, Ok, Err, OnErr, refl, sym, ◌∙◌, ap, subst, arith, ◌-◌, not, ap₂, ⊎_elim, add-zero, add-suc, ◌∷◌, [], ◌++◌, append-nil}
use Rattle.std.proofs.Math.Numerals.{add-one}
use Rattle.std.proofs.Math.Nat.{le_antisymm}
use Rattle.std.specs.List.{AllByRecursion}
use Rattle.std.proofs.lemmas.Bool.{cases_lt}
use Rattle.chr_value.specs.Atoms.{Atom}
use Rattle.chr_rule.specs.Rules.{Simpagation}
use Rattle.chr_rule.specs.Scope.{IsRule}
use Rattle.chr_model.specs.Stores.{Store, among, Labelled}
use Rattle.chr_model.specs.Goals.{Plain}
use Rattle.chr_model.specs.Logs.{posted_by}
use Rattle.chr_log.specs.Events.{Event, Activate, Fire, Drop}
use Rattle.chr_model.specs.Programs.{Instances}
use Rattle.chr_model.proofs.Stores.{Carry-same}
use Rattle.chr_model.proofs.Programs.{program_fixes}
use Rattle.chr_search.specs.Verdicts.{Trial, kept_labels, removed_labels}
use Rattle.chr_search.specs.Judged.{Judgement, IsVerdict}
use Rattle.chr_search.specs.Answers.{after_judging}
use Rattle.chr_search.specs.declared.judged.Verdict.{Verdict}
use Rattle.chr_search.specs.declared.judged.Verdict.TheVariants as verdicts
use Rattle.chr_calls.specs.declared.answers.ClaimFault.TheVariants.{LabelsSpent}
use Rattle.chr_calls.specs.declared.answers.TicketState.{TicketState}
use Rattle.chr_calls.specs.declared.answers.TicketState.TheVariants.{Unknown, Waiting, Held, Resting}
use Rattle.chr_calls.specs.Turns.{Next, Done, Gone, Turn}
use Rattle.chr_calls.specs.Tickets.{Ticket, activated_by, held_by, with_candidate, going_on, ticket_at, state_of, state_with, IsClaimable, waits, rests, IsOpenFor, waits_for, held_for, rests_for, IsLeastFor, NoneFor}
use Rattle.chr_calls.specs.Books.{BookState, IsLive, events, with_entry}
use Rattle.chr_calls.specs.Calls.{Claims, with_candidate_of, after_judgement, HoldsCandidate, Turns, Reports, FiresOrMisses, Fires, Drops, IsNextTrial, IsDone, activated, fired}
use Rattle.chr_calls.proofs.Tickets.{AfterSet, is_set, stands, after_set, states_stand, ticket_same, plain_within, numbered_within, held_is, held_label, events_more, posts_appended}
use Rattle.chr_calls.specs.declared.answers.Firing.{Firing}
use Rattle.chr_calls.specs.declared.answers.Fired.{Fired}
use Rattle.chr_calls.specs.declared.answers.Dropping.{Dropping}
use Rattle.chr_calls.proofs.OneNext.{next_same}
use Rattle.chr_calls.specs.declared.answers.Firing.TheVariants as firing
use Rattle.chr_calls.specs.declared.answers.Dropping.TheVariants as dropping
use Rattle.chr_book.specs.declared.rounds.Last.{Last}
use Rattle.chr_book.specs.declared.rounds.Rounds.{Rounds}
use Rattle.chr_book.specs.Passed.{PassesTrials, IsLast, rounds_in, MakesRounds, MakesFewer, StartsRounds, StartsFewer}
use Rattle.chr_book.proofs.GoingOn.{state_there, state_elsewhere}
use Rattle.chr_book.specs.declared.rounds.Last.TheVariants as lasts
use Rattle.chr_solo.specs.Solo.{Known, Nothing, Judged, NoneLeft, SoloCall, claims, asks, fires, reports, drops, SoloRun, IsSpentFor, IsSolo, IsCutShort, KnownAfter, SoloEnds}
use Rattle.chr_solo.specs.SoloCode.{IsAware, SoloSoFar}

-- ---- a ticket that gets a candidate

-- it is in the state that it was in, and so are the others
pub state_stands : (ts : List Ticket) (t u : ℕ) (c : Option Trial) → state_of (slice_set ts t (with_candidate c (ticket_at ts t))) u ≡ state_of ts u
state_stands ts t u c = states_stand ts t u (with_candidate c (ticket_at ts t)) refl refl

-- so the same ticket is the next one
pub least_stands : (b : BookState) (seat t u : ℕ) (c : Option Trial) → IsLeastFor b.tickets seat t → IsLeastFor (with_candidate_of b t c).tickets seat u → t ≡ u
least_stands b seat t u c old new =
    le_antisymm (old.least u (subst (IsOpenFor seat) (state_stands b.tickets t u c) new.free))
    (new.least t (subst (IsOpenFor seat) (sym (state_stands b.tickets t t c)) old.free))

-- an open ticket that no seat holds can be claimed
pub open_claimable : (seat : ℕ) (s : TicketState) → IsOpenFor seat s → ((holder : ℕ) → s ≡ Held holder → ⊥) → IsClaimable s
open_claimable seat s (waits_for o) free = waits
open_claimable seat s (held_for o) free = absurd (free o refl)
open_claimable seat s (rests_for o) free = rests

-- ---- what is judged

pub same_judged : (i j : Judgement) → Judged i ≡ Judged j → i ≡ j
same_judged i j e = cc

holds_new : (b : BookState) (seat t : ℕ) (trial : Trial) → state_of b.tickets t ≡ Held seat → HoldsCandidate (with_candidate_of b t (Some trial)) seat t trial
holds_new b seat t trial held = record {
  held = state_stands b.tickets t t (Some trial) ∙ held;
  candidate = ap (λ (x : Ticket). x.candidate) (ticket_same b.tickets t (with_candidate (Some trial) (ticket_at b.tickets t)) (held_is b.tickets t seat held).within);
}

-- after a call, what is judged is the candidate of the next ticket
pub aware_after : (seat t : ℕ) (b : BookState) (known : Known) (n : BookState) (after : Known) → SoloCall seat t b known n after → IsLeastFor b.tickets seat t → (u : ℕ) → IsLeastFor n.tickets seat u → IsAware n seat u after
aware_after seat t b known n after (claims l made none) old u new j is = absurd (let z : Nothing ≡ Judged j = sym none ∙ is in cc)
aware_after seat t b known n after (asks (Next trial) nothing made knows) old u new j is =
    let same : knows.0 ≡ j = same_judged knows.0 j (sym knows.3 ∙ is) in
    let is_trial : trial ≡ j.trial = sym knows.1 ∙ ap (λ (i : Judgement). i.trial) same in
    let there : t ≡ u = least_stands b seat t u (Some trial) old (subst (λ (m : BookState). IsLeastFor m.tickets seat u) made.3 new) in
    let h : HoldsCandidate (with_candidate_of b t (Some trial)) seat t trial = holds_new b seat t trial made.1.holds.state in
    subst (λ (m : BookState). HoldsCandidate m seat u j.trial) (sym made.3) (subst (λ v. HoldsCandidate (with_candidate_of b t (Some trial)) seat v j.trial) there (subst (HoldsCandidate (with_candidate_of b t (Some trial)) seat t) is_trial h))
aware_after seat t b known n after (asks Done nothing made knows) old u new j is = absurd (let z : NoneLeft ≡ Judged j = sym knows ∙ is in cc)
aware_after seat t b known n after (asks Gone nothing made knows) old u new j is = absurd (let z : NoneLeft ≡ Judged j = sym knows ∙ is in cc)
aware_after seat t b known n after (fires i firing judged made none) old u new j is = absurd (let z : Nothing ≡ Judged j = sym none ∙ is in cc)
aware_after seat t b known n after (reports i moved judged made none) old u new j is = absurd (let z : Nothing ≡ Judged j = sym none ∙ is in cc)
aware_after seat t b known n after (drops dropping left made none) old u new j is = absurd (let z : Nothing ≡ Judged j = sym none ∙ is in cc)

-- ---- a run and one call more

pub run_more : (seat calls t : ℕ) (b : BookState) (first : Known) (n : BookState) (known : Known) (m : BookState) (after : Known) → SoloRun seat calls b first n known → IsLeastFor n.tickets seat t → SoloCall seat t n known m after → SoloRun seat (suc calls) b first m after
run_more seat zero t b first n known m after run least call =
    (t, subst (λ (x : BookState). IsLeastFor x.tickets seat t) run.0 least, m, after, subst (λ k. SoloCall seat t b k m after) run.1 (subst (λ x. SoloCall seat t x known m after) run.0 call), (refl, refl))
run_more seat (suc calls) t b first n known m after run least call =
    (run.0, run.1, run.2, run.3, run.4, run_more seat calls t run.2 run.3 n known m after run.5 least call)

-- no call is made yet
pub begins : (seat : ℕ) (b : BookState) → SoloSoFar seat b 0 b Nothing
begins seat b = record { run = (refl, refl); aware = λ t least j is. absurd (cc) }

-- one more is made
pub goes_on : (seat calls t : ℕ) (b n : BookState) (known : Known) (m : BookState) (after : Known) → SoloSoFar seat b calls n known → IsLeastFor n.tickets seat t → SoloCall seat t n known m after → SoloSoFar seat b (calls + 1) m after
goes_on seat calls t b n known m after so least call = record {
  run = subst (λ many. SoloRun seat many b Nothing m after) (sym (add-one calls)) (run_more seat calls t b Nothing n known m after so.run least call);
  aware = aware_after seat t n known m after call least;
}

-- ---- why a run ends

-- as many calls were made as were asked for
pub ends_full : (seat most calls : ℕ) (b n : BookState) (known : Known) → SoloSoFar seat b calls n known → calls ≤ most → most ≤ calls → IsSolo seat most b calls n
ends_full seat most calls b n known so few many = record { made = calls; known = known; run = so.run; few = few; ends = inl (refl, inl (le_antisymm few many)) }

-- no ticket is left for the seat
pub ends_none : (seat most calls : ℕ) (b n : BookState) (known : Known) → SoloSoFar seat b calls n known → calls ≤ most → NoneFor n.tickets seat → IsSolo seat most b calls n
ends_none seat most calls b n known so few none = record { made = calls; known = known; run = so.run; few = few; ends = inl (refl, inr none) }

-- the labels are spent
pub ends_spent : (seat most calls t : ℕ) (b n : BookState) (known : Known) (m : BookState) → SoloSoFar seat b calls n known → calls < most → IsLeastFor n.tickets seat t → Claims n seat t (Err LabelsSpent) m → IsSolo seat most b (calls + 1) m
ends_spent seat most calls t b n known m so fewer least made = record {
  made = calls;
  known = known;
  run = subst (λ x. SoloRun seat calls b Nothing x known) (sym made.2) so.run;
  few = omega arith;
  ends = inr (refl, subst (IsSpentFor seat) (sym made.2) (record { ticket = t; least = least; spent = (made.0, made.1, refl) }));
}

-- memory was refused
pub cut_short : (seat most calls : ℕ) (b n : BookState) (known : Known) (m : BookState) → SoloSoFar seat b calls n known → calls < most → m ≡ n → IsCutShort seat most b m
cut_short seat most calls b n known m so fewer e = record { made = calls; known = known; run = subst (λ x. SoloRun seat calls b Nothing x known) (sym e) so.run; fewer = fewer }

-- ---- trials that are passed over

least_stays : (seat t : ℕ) (old new : List Ticket) → ((v : ℕ) → state_of new v ≡ state_of old v) → IsLeastFor old seat t → IsLeastFor new seat t
least_stays seat t old new same least = record {
  free = subst (IsOpenFor seat) (sym (same t)) least.free;
  least = λ v free. least.least v (subst (IsOpenFor seat) (same v) free);
}

least_asked : (b : BookState) (seat t : ℕ) (c : Option Trial) → IsLeastFor b.tickets seat t → IsLeastFor (with_candidate_of b t c).tickets seat t
least_asked b seat t c least = least_stays seat t b.tickets (with_candidate_of b t c).tickets (λ v. state_stands b.tickets t v c) least

least_judged : (b : BookState) (seat t : ℕ) (j : Judgement) → IsLeastFor b.tickets seat t → IsLeastFor (after_judgement b t j).tickets seat t
least_judged b seat t j least = least_stays seat t b.tickets (after_judgement b t j).tickets (λ v. states_stand b.tickets t v (going_on (after_judging j) (ticket_at b.tickets t)) refl refl) least

-- each of them is two calls
pub passes : (seat t calls k : ℕ) (first b n : BookState) → PassesTrials seat t k b n → IsLeastFor b.tickets seat t → SoloSoFar seat first calls b Nothing → SoloSoFar seat first (calls + 2 * k) n Nothing
passes seat t calls zero first b n p least so =
    subst (λ m. SoloSoFar seat first m n Nothing) (let e : calls ≡ calls + 2 * 0 = omega arith in e) (subst (λ (m : BookState). SoloSoFar seat first calls m Nothing) (sym p) so)
passes seat t calls (suc k) first b n p least so =
    let one = p.1 in
    let j = one.judged in
    let asked : IsLeastFor one.asked.tickets seat t = subst (λ (m : BookState). IsLeastFor m.tickets seat t) (sym one.turns.3) (least_asked b seat t (Some j.trial) least) in
    let told : IsLeastFor p.0.tickets seat t = subst (λ (m : BookState). IsLeastFor m.tickets seat t) (sym one.reports.2) (least_judged one.asked seat t j asked) in
    let turn = goes_on seat calls t first b Nothing one.asked (Judged j) so least (asks (Next j.trial) refl one.turns (j, refl, one.right, refl)) in
    let report = goes_on seat (calls + 1) t first one.asked (Judged j) p.0 Nothing turn asked (reports j tt refl one.reports refl) in
    subst (λ m. SoloSoFar seat first m n Nothing) (let e : calls + 1 + 1 + 2 * k ≡ calls + 2 * suc k = omega arith in e) (passes seat t (calls + 1 + 1) k first p.0 n p.2 told report)

-- ---- rounds of calls

least_passed : (seat t k : ℕ) (b n : BookState) → PassesTrials seat t k b n → IsLeastFor b.tickets seat t → IsLeastFor n.tickets seat t
least_passed seat t zero b n p least = subst (λ (m : BookState). IsLeastFor m.tickets seat t) (sym p) least
least_passed seat t (suc k) b n p least =
    let one = p.1 in
    let asked : IsLeastFor one.asked.tickets seat t = subst (λ (m : BookState). IsLeastFor m.tickets seat t) (sym one.turns.3) (least_asked b seat t (Some one.judged.trial) least) in
    least_passed seat t k p.0 n p.2 (subst (λ (m : BookState). IsLeastFor m.tickets seat t) (sym one.reports.2) (least_judged one.asked seat t one.judged asked))

-- the last one
last_two : (last : Last) (seat t calls k : ℕ) (first b n : BookState) → IsLast seat t last b n → IsLeastFor b.tickets seat t → SoloSoFar seat first (calls + 2 * k) b Nothing → SoloSoFar seat first (calls + 2 * rounds_in (record { passed = k; last = last })) n Nothing
last_two lasts.Fired seat t calls k first b n h least so =
    let j = h.judged in
    let asked : IsLeastFor h.asked.tickets seat t = subst (λ (m : BookState). IsLeastFor m.tickets seat t) (sym h.turns.3) (least_asked b seat t (Some j.trial) least) in
    let turn = goes_on seat (calls + 2 * k) t first b Nothing h.asked (Judged j) so least (asks (Next j.trial) refl h.turns (j, refl, h.right, refl)) in
    let fired = goes_on seat (calls + 2 * k + 1) t first h.asked (Judged j) n Nothing turn asked (fires j (firing.Fired h.fired) refl h.fires refl) in
    subst (λ m. SoloSoFar seat first m n Nothing) (let e : calls + 2 * k + 1 + 1 ≡ calls + 2 * (1 + k) = omega arith in e) fired
last_two lasts.Dropped seat t calls k first b n h least so =
    let asked : IsLeastFor h.asked.tickets seat t = subst (λ (m : BookState). IsLeastFor m.tickets seat t) (sym h.turns.3) (least_asked b seat t None least) in
    let turn = goes_on seat (calls + 2 * k) t first b Nothing h.asked NoneLeft so least (asks Done refl h.turns refl) in
    let ended = goes_on seat (calls + 2 * k + 1) t first h.asked NoneLeft n Nothing turn asked (drops dropping.Dropped refl h.drops refl) in
    subst (λ m. SoloSoFar seat first m n Nothing) (let e : calls + 2 * k + 1 + 1 ≡ calls + 2 * (1 + k) = omega arith in e) ended
last_two lasts.Passed seat t calls k first b n h least so =
    subst (λ (m : BookState). SoloSoFar seat first (calls + 2 * (0 + k)) m Nothing) (sym h) (subst (λ m. SoloSoFar seat first m b Nothing) (let e : calls + 2 * k ≡ calls + 2 * (0 + k) = omega arith in e) so)

-- each of them is two calls
pub rounds_two : (seat t calls : ℕ) (r : Rounds) (first b n : BookState) → MakesRounds seat t r b n → IsLeastFor b.tickets seat t → SoloSoFar seat first calls b Nothing → SoloSoFar seat first (calls + 2 * rounds_in r) n Nothing
rounds_two seat t calls r first b n h least so = last_two r.last seat t calls r.passed first h.middle n h.last (least_passed seat t r.passed b h.middle h.passes least) (passes seat t calls r.passed first b h.middle h.passes least so)

-- memory was refused in one
pub cut_rounds : (seat t most calls half : ℕ) (first b n : BookState) (known : Known) → SoloSoFar seat first calls b known → known ≡ Nothing → IsLeastFor b.tickets seat t → MakesFewer seat t half b n → calls + 2 * half ≤ most → IsCutShort seat most first n
cut_rounds seat t most calls half first b n known so none least h room = record {
  made = calls + 2 * h.passed;
  known = Nothing;
  run = (passes seat t calls h.passed first b n h.passes least (subst (SoloSoFar seat first calls b) none so)).run;
  fewer = omega (arith, h.fewer);
}

-- ---- a ticket that is claimed, and rounds of calls for it

-- it comes next for the seat that holds it
least_set : (seat t : ℕ) (ts : List Ticket) (x : Ticket) → state_of ts t ≢ Unknown → t < length ts → state_with x.goal x.holder ≡ Held seat → IsLeastFor ts seat t → IsLeastFor (slice_set ts t x) seat t
least_set seat t ts x known within holds least = record {
  free = subst (IsOpenFor seat) (sym (state_there ts t x known within ∙ holds)) (held_for seat);
  least = λ u free. from u free (after_set ts t x u);
}
  where
    from : (u : ℕ) → IsOpenFor seat (state_of (slice_set ts t x) u) → AfterSet ts t x u → t ≤ u
    from u free (is_set e within is) = omega (arith, e)
    from u free (stands is) = least.least u (subst (IsOpenFor seat) (state_elsewhere ts t u x is) free)

least_claimed : (b : BookState) (seat t l : ℕ) (n : BookState) → Claims b seat t (Ok l) n → IsLeastFor b.tickets seat t → IsLeastFor n.tickets seat t
least_claimed b seat t l n (inl h) least =
    let known : state_of b.tickets t ≢ Unknown = λ e. absurd (let z : Waiting ≡ Unknown = sym h.can.waits ∙ e in cc) in
    subst (λ (m : BookState). IsLeastFor m.tickets seat t) (sym h.after) (least_set seat t b.tickets (activated_by seat b.next) known (plain_within b.tickets t h.atom h.goal) refl least)
least_claimed b seat t l n (inr h) least =
    let known : state_of b.tickets t ≢ Unknown = λ e. absurd (let z : Resting ≡ Unknown = sym h.rests ∙ e in cc) in
    subst (λ (m : BookState). IsLeastFor m.tickets seat t) (sym h.after) (least_set seat t b.tickets (held_by seat (ticket_at b.tickets t)) known (numbered_within b.tickets t l h.goal) (ap (λ g. state_with g (Some seat)) h.goal) least)

-- the claim is one call, and each round is two
pub start_two : (seat t calls : ℕ) (r : Rounds) (first b n : BookState) → StartsRounds seat t r b n → IsLeastFor b.tickets seat t → SoloSoFar seat first calls b Nothing → SoloSoFar seat first (calls + (1 + 2 * rounds_in r)) n Nothing
start_two seat t calls r first b n h least so =
    let claimed = goes_on seat calls t first b Nothing h.claimed Nothing so least (claims h.label h.claims refl) in
    subst (λ k. SoloSoFar seat first k n Nothing) (let e : calls + 1 + 2 * rounds_in r ≡ calls + (1 + 2 * rounds_in r) = omega arith in e)
    (rounds_two seat t (calls + 1) r first h.claimed n h.makes (least_claimed b seat t h.label h.claimed h.claims least) claimed)

-- memory was refused in one
pub cut_start : (seat t most calls half whole : ℕ) (first b n : BookState) (known : Known) → SoloSoFar seat first calls b known → known ≡ Nothing → IsLeastFor b.tickets seat t → StartsFewer seat t half b n ⊎ MakesFewer seat t whole b n → calls < most → calls + 1 + 2 * half ≤ most → calls + 2 * whole ≤ most → IsCutShort seat most first n
cut_start seat t most calls half whole first b n known so none least (inl (inl e)) some room rounds = cut_short seat most calls first b known n so some e
cut_start seat t most calls half whole first b n known so none least (inl (inr h)) some room rounds =
    let claimed = goes_on seat calls t first b Nothing h.claimed Nothing (subst (SoloSoFar seat first calls b) none so) least (claims h.label h.claims refl) in
    cut_rounds seat t most (calls + 1) half first h.claimed n Nothing claimed refl (least_claimed b seat t h.label h.claimed h.claims least) h.makes room
cut_start seat t most calls half whole first b n known so none least (inr h) some room rounds = cut_rounds seat t most calls whole first b n known so none least h rounds

-- ---- answers of two kinds

pub none_of : {X : Type 0} (P : Type 0) (Q : X → Type 0) (o : Option X) → MatchOption o P Q → ((x : X) → o ≡ Some x → ⊥) → P
none_of P Q None h other = h
none_of P Q (Some x) h other = absurd (other x refl)

pub on_err : {X E : Type 0} (P : Type 0) (r : Result X E) → P → OnErr r P
on_err P (Ok x) h = tt
on_err P (Err e) h = h

-- ---- verdicts

verdict_same : (t : Trial) (v w : Verdict) → IsVerdict t v → IsVerdict t w → v ≡ w
verdict_same t verdicts.Whole verdicts.Whole h k = refl
verdict_same t verdicts.Whole verdicts.Part h k = absurd (omega (arith, h.full, k.left))
verdict_same t verdicts.Whole verdicts.Misfit h k = absurd (k.0 h)
verdict_same t verdicts.Part verdicts.Whole h k = absurd (omega (arith, k.full, h.left))
verdict_same t verdicts.Part verdicts.Part h k = refl
verdict_same t verdicts.Part verdicts.Misfit h k = absurd (k.1 h)
verdict_same t verdicts.Misfit verdicts.Whole h k = absurd (h.0 k)
verdict_same t verdicts.Misfit verdicts.Part h k = absurd (h.1 k)
verdict_same t verdicts.Misfit verdicts.Misfit h k = refl

judgement_same : (trial : Trial) (i j : Judgement) → i.trial ≡ trial → j.trial ≡ trial → IsVerdict i.trial i.verdict → IsVerdict j.trial j.verdict → i ≡ j
judgement_same trial i j e f h k =
    let trials : i.trial ≡ j.trial = e ∙ sym f in
    let found : i.verdict ≡ j.verdict = verdict_same j.trial i.verdict j.verdict (subst (λ (t : Trial). IsVerdict t i.verdict) trials h) k in
    ap (λ x. record { trial = x; verdict = i.verdict }) trials ∙ ap (λ x. record { trial = j.trial; verdict = x }) found

known_same : (turn : Turn) (k l : Known) → KnownAfter turn k → KnownAfter turn l → k ≡ l
known_same (Next trial) k l h i = h.3 ∙ ap Judged (judgement_same trial h.0 i.0 h.1 i.1 h.2 i.2) ∙ sym i.3
known_same Done k l h i = h ∙ sym i
known_same Gone k l h i = h ∙ sym i

-- ---- each call

turn_same : (b n m : BookState) (seat t : ℕ) (turn other : Turn) → Turns b seat t (Ok turn) n → Turns b seat t (Ok other) m → (turn ≡ other) × (n ≡ m)
turn_same b n m seat t (Next x) (Next y) h k =
    let l : k.0 ≡ h.0 = held_label b.tickets t k.0 h.0 k.1.holds.goal h.1.holds.goal in
    let same : x ≡ y = next_same b t h.0 x y h.2 (subst (λ z. IsNextTrial b t z y) l k.2) in
    (ap Next same, h.3 ∙ ap (λ z. with_candidate_of b t (Some z)) same ∙ sym k.3)
turn_same b n m seat t (Next x) Done h k =
    let l : k.0 ≡ h.0 = held_label b.tickets t k.0 h.0 k.1.holds.goal h.1.holds.goal in
    absurd ((subst (IsDone b t) l k.2) h.2.next.more h.2.next.beyond)
turn_same b n m seat t (Next x) Gone h k = absurd (k.2 (subst (IsLive b) (held_label b.tickets t h.0 k.0 h.1.holds.goal k.1.goal) h.1.live))
turn_same b n m seat t Done (Next y) h k =
    let l : h.0 ≡ k.0 = held_label b.tickets t h.0 k.0 h.1.holds.goal k.1.holds.goal in
    absurd ((subst (IsDone b t) l h.2) k.2.next.more k.2.next.beyond)
turn_same b n m seat t Done Done h k = (refl, h.3 ∙ sym k.3)
turn_same b n m seat t Done Gone h k = absurd (k.2 (subst (IsLive b) (held_label b.tickets t h.0 k.0 h.1.holds.goal k.1.goal) h.1.live))
turn_same b n m seat t Gone (Next y) h k = absurd (h.2 (subst (IsLive b) (held_label b.tickets t k.0 h.0 k.1.holds.goal h.1.goal) k.1.live))
turn_same b n m seat t Gone Done h k = absurd (h.2 (subst (IsLive b) (held_label b.tickets t k.0 h.0 k.1.holds.goal h.1.goal) k.1.live))
turn_same b n m seat t Gone Gone h k = (refl, h.3 ∙ sym k.3)

claim_same : (b n m : BookState) (seat t k l : ℕ) → Claims b seat t (Ok k) n → Claims b seat t (Ok l) m → n ≡ m
claim_same b n m seat t k l (inl p) (inl q) =
    let goals : Plain p.atom ≡ Plain q.atom = sym p.goal ∙ q.goal in
    let atoms : p.atom ≡ q.atom = cc in
    p.after ∙ ap (activated b seat t) atoms ∙ sym q.after
claim_same b n m seat t k l (inl p) (inr q) = absurd (let e : Waiting ≡ Resting = sym p.can.waits ∙ q.rests in cc)
claim_same b n m seat t k l (inr p) (inl q) = absurd (let e : Waiting ≡ Resting = sym q.can.waits ∙ p.rests in cc)
claim_same b n m seat t k l (inr p) (inr q) = p.after ∙ sym q.after

-- an instance over a store has one body
body_same : (rules : List (Simpagation ℕ)) → AllByRecursion IsRule rules → (store : Store) (r : ℕ) (kept removed : List ℕ) (body other : List (Atom ℕ)) → Labelled (Instances rules) store r kept removed body → Labelled (Instances rules) store r kept removed other → body ≡ other
body_same rules scoped store r kept removed body other i j =
    let k = Carry-same store kept i.kept_atoms j.kept_atoms i.kept_there j.kept_there in
    let l = Carry-same store removed i.removed_atoms j.removed_atoms i.removed_there j.removed_there in
    program_fixes rules scoped r j.kept_atoms j.removed_atoms body other (subst (λ x. Instances rules r x j.removed_atoms body) k (subst (λ x. Instances rules r i.kept_atoms x body) l i.instance)) j.instance

fired_same : (b n m : BookState) (seat t : ℕ) (trial : Trial) (f g : Fired) → AllByRecursion IsRule b.rules → Fires b t trial seat f n → Fires b t trial seat g m → n ≡ m
fired_same b n m seat t trial f g scoped h k =
    let body : h.body ≡ k.body = body_same b.rules scoped b.store trial.number (kept_labels trial) (removed_labels trial) h.body k.body h.instance k.instance in
    let l : h.label ≡ k.label = held_label b.tickets t h.label k.label h.goal k.goal in
    let lives : f.active_lives ≡ g.active_lives = h.lives ∙ ap (λ z. not (among (removed_labels trial) z)) l ∙ sym k.lives in
    h.after ∙ ap₂ (fired b seat t trial) body lives ∙ sym k.after

fire_same : (b n m : BookState) (seat t : ℕ) (j : Judgement) (x y : Firing) → AllByRecursion IsRule b.rules → FiresOrMisses b seat t j (Ok x) n → FiresOrMisses b seat t j (Ok y) m → n ≡ m
fire_same b n m seat t j firing.Missed firing.Missed scoped h k = h.2 ∙ sym k.2
fire_same b n m seat t j firing.Missed (firing.Fired g) scoped h k = absurd (h.1 k.1)
fire_same b n m seat t j (firing.Fired f) firing.Missed scoped h k = absurd (k.1 h.1)
fire_same b n m seat t j (firing.Fired f) (firing.Fired g) scoped h k = fired_same b n m seat t j.trial f g scoped h.2 k.2

drop_same : (b n m : BookState) (seat t : ℕ) (x y : Dropping) → Drops b seat t (Ok x) n → Drops b seat t (Ok y) m → n ≡ m
drop_same b n m seat t dropping.Dropped dropping.Dropped h k = h.3 ∙ sym k.3
drop_same b n m seat t dropping.Dropped dropping.Unfinished h k =
    let l : k.0 ≡ h.0 = held_label b.tickets t k.0 h.0 k.1.holds.goal h.1.goal in
    absurd (k.2 (subst (IsDone b t) (sym l) (h.2 (subst (IsLive b) l k.1.live))))
drop_same b n m seat t dropping.Unfinished dropping.Dropped h k =
    let l : h.0 ≡ k.0 = held_label b.tickets t h.0 k.0 h.1.holds.goal k.1.goal in
    absurd (h.2 (subst (IsDone b t) (sym l) (k.2 (subst (IsLive b) l h.1.live))))
drop_same b n m seat t dropping.Unfinished dropping.Unfinished h k = h.3 ∙ sym k.3

-- ---- any call

-- a ticket that is claimed isn't held, and every other call is for one that is
not_held : (b n : BookState) (seat t l : ℕ) → Claims b seat t (Ok l) n → state_of b.tickets t ≡ Held seat → ⊥
not_held b n seat t l (inl h) held = let e : Waiting ≡ Held seat = sym h.can.waits ∙ held in cc
not_held b n seat t l (inr h) held = let e : Resting ≡ Held seat = sym h.rests ∙ held in cc

turn_held : (b n : BookState) (seat t : ℕ) (turn : Turn) → Turns b seat t (Ok turn) n → state_of b.tickets t ≡ Held seat
turn_held b n seat t (Next trial) h = h.1.holds.state
turn_held b n seat t Done h = h.1.holds.state
turn_held b n seat t Gone h = h.1.state

fire_held : (b n : BookState) (seat t : ℕ) (j : Judgement) (f : Firing) → FiresOrMisses b seat t j (Ok f) n → (state_of b.tickets t ≡ Held seat) × (j.verdict ≡ verdicts.Whole)
fire_held b n seat t j firing.Missed h = (h.0.holds.held, h.0.whole)
fire_held b n seat t j (firing.Fired f) h = (h.0.holds.held, h.0.whole)

drop_held : (b n : BookState) (seat t : ℕ) (d : Dropping) → Drops b seat t (Ok d) n → state_of b.tickets t ≡ Held seat
drop_held b n seat t dropping.Dropped h = h.1.state
drop_held b n seat t dropping.Unfinished h = h.1.holds.state

-- one that is fired is whole, and one that is reported isn't
not_both : (b n m : BookState) (seat t : ℕ) (i j : Judgement) (f : Firing) (moved : Unit {0}) → i ≡ j → FiresOrMisses b seat t i (Ok f) n → Reports b seat t j (Ok moved) m → ⊥
not_both b n m seat t i j f moved e h k = k.1 (subst (λ (x : Judgement). x.verdict ≡ verdicts.Whole) e (fire_held b n seat t i f h).1)

pub call_same : (seat t : ℕ) (b : BookState) (known : Known) (n : BookState) (after : Known) (m : BookState) (other : Known) → AllByRecursion IsRule b.rules → SoloCall seat t b known n after → SoloCall seat t b known m other → (n ≡ m) × (after ≡ other)
call_same seat t b known n after m other scoped (claims k h z) (claims l i y) = (claim_same b n m seat t k l h i, z ∙ sym y)
call_same seat t b known n after m other scoped (claims k h z) (asks turn e i y) = absurd (not_held b n seat t k h (turn_held b m seat t turn i))
call_same seat t b known n after m other scoped (claims k h z) (fires j f e i y) = absurd (not_held b n seat t k h (fire_held b m seat t j f i).0)
call_same seat t b known n after m other scoped (claims k h z) (reports j u e i y) = absurd (not_held b n seat t k h i.0.held)
call_same seat t b known n after m other scoped (claims k h z) (drops d e i y) = absurd (not_held b n seat t k h (drop_held b m seat t d i))
call_same seat t b known n after m other scoped (asks turn e h z) (claims l i y) = absurd (not_held b m seat t l i (turn_held b n seat t turn h))
call_same seat t b known n after m other scoped (asks turn e h z) (asks next f i y) =
    let r = turn_same b n m seat t turn next h i in
    (r.1, known_same next after other (subst (λ x. KnownAfter x after) r.0 z) y)
call_same seat t b known n after m other scoped (asks turn e h z) (fires j f x i y) = absurd (let w : Nothing ≡ Judged j = sym e ∙ x in cc)
call_same seat t b known n after m other scoped (asks turn e h z) (reports j u x i y) = absurd (let w : Nothing ≡ Judged j = sym e ∙ x in cc)
call_same seat t b known n after m other scoped (asks turn e h z) (drops d x i y) = absurd (let w : Nothing ≡ NoneLeft = sym e ∙ x in cc)
call_same seat t b known n after m other scoped (fires j f e h z) (claims l i y) = absurd (not_held b m seat t l i (fire_held b n seat t j f h).0)
call_same seat t b known n after m other scoped (fires j f e h z) (asks turn x i y) = absurd (let w : Nothing ≡ Judged j = sym x ∙ e in cc)
call_same seat t b known n after m other scoped (fires j f e h z) (fires k g x i y) =
    let same : j ≡ k = same_judged j k (sym e ∙ x) in
    (fire_same b n m seat t k f g scoped (subst (λ v. FiresOrMisses b seat t v (Ok f) n) same h) i, z ∙ sym y)
call_same seat t b known n after m other scoped (fires j f e h z) (reports k u x i y) = absurd (not_both b n m seat t j k f u (same_judged j k (sym e ∙ x)) h i)
call_same seat t b known n after m other scoped (fires j f e h z) (drops d x i y) = absurd (let w : Judged j ≡ NoneLeft = sym e ∙ x in cc)
call_same seat t b known n after m other scoped (reports j u e h z) (claims l i y) = absurd (not_held b m seat t l i h.0.held)
call_same seat t b known n after m other scoped (reports j u e h z) (asks turn x i y) = absurd (let w : Nothing ≡ Judged j = sym x ∙ e in cc)
call_same seat t b known n after m other scoped (reports j u e h z) (fires k g x i y) = absurd (not_both b m n seat t k j g u (same_judged k j (sym x ∙ e)) i h)
call_same seat t b known n after m other scoped (reports j u e h z) (reports k v x i y) =
    (h.2 ∙ ap (after_judgement b t) (same_judged j k (sym e ∙ x)) ∙ sym i.2, z ∙ sym y)
call_same seat t b known n after m other scoped (reports j u e h z) (drops d x i y) = absurd (let w : Judged j ≡ NoneLeft = sym e ∙ x in cc)
call_same seat t b known n after m other scoped (drops d e h z) (claims l i y) = absurd (not_held b m seat t l i (drop_held b n seat t d h))
call_same seat t b known n after m other scoped (drops d e h z) (asks turn x i y) = absurd (let w : Nothing ≡ NoneLeft = sym x ∙ e in cc)
call_same seat t b known n after m other scoped (drops d e h z) (fires j g x i y) = absurd (let w : Judged j ≡ NoneLeft = sym x ∙ e in cc)
call_same seat t b known n after m other scoped (drops d e h z) (reports j u x i y) = absurd (let w : Judged j ≡ NoneLeft = sym x ∙ e in cc)
call_same seat t b known n after m other scoped (drops d e h z) (drops c x i y) = (drop_same b n m seat t d c h i, z ∙ sym y)

-- ---- a run

-- an entry that posts nothing
no_post : (b : BookState) (seat : ℕ) (e : Event ℕ) → posted_by (e ∷ []) ≡ [] → posted_by (events (with_entry b seat e)) ≡ posted_by (events b)
no_post b seat e none = ap posted_by (events_more b seat e) ∙ posts_appended (events b) (e ∷ []) ∙ ap (λ (xs : List (Atom ℕ)). posted_by (events b) ++ xs) none ∙ append-nil (posted_by (events b))

-- the rules stay, and what is posted
abbrev pub lasting : BookState → List (Simpagation ℕ) × List (Atom ℕ)
lasting b = (b.rules, posted_by (events b))

call_lasts : (seat t : ℕ) (b : BookState) (known : Known) (n : BookState) (after : Known) → SoloCall seat t b known n after → lasting n ≡ lasting b
call_lasts seat t b known n after (claims l (inl h) z) = ap lasting h.after ∙ ap (λ (xs : List (Atom ℕ)). (b.rules, xs)) (no_post b seat (Activate t b.next) refl)
call_lasts seat t b known n after (claims l (inr h) z) = ap lasting h.after
call_lasts seat t b known n after (asks (Next trial) e h z) = ap lasting h.3
call_lasts seat t b known n after (asks Done e h z) = ap lasting h.3
call_lasts seat t b known n after (asks Gone e h z) = ap lasting h.3
call_lasts seat t b known n after (fires j firing.Missed e h z) = ap lasting h.2
call_lasts seat t b known n after (fires j (firing.Fired f) e h z) =
    ap lasting h.2.after ∙ ap (λ (xs : List (Atom ℕ)). (b.rules, xs)) (no_post b seat (Fire t j.trial.number (kept_labels j.trial) (removed_labels j.trial)) refl)
call_lasts seat t b known n after (reports j u e h z) = ap lasting h.2
call_lasts seat t b known n after (drops dropping.Dropped e h z) = ap lasting h.3 ∙ ap (λ (xs : List (Atom ℕ)). (b.rules, xs)) (no_post b seat (Drop t) refl)
call_lasts seat t b known n after (drops dropping.Unfinished e h z) = ap lasting h.3

pub run_lasts : (seat calls : ℕ) (b : BookState) (known : Known) (n : BookState) (after : Known) → SoloRun seat calls b known n after → lasting n ≡ lasting b
run_lasts seat zero b known n after run = ap lasting run.0
run_lasts seat (suc calls) b known n after run = run_lasts seat calls run.2 run.3 n after run.5 ∙ call_lasts seat run.0 b known run.2 run.3 run.4

-- of two runs from one book and what is known, the first calls are one
first_same : (seat few many : ℕ) (b : BookState) (first : Known) (n m : BookState) (known other : Known) → AllByRecursion IsRule b.rules → (h : SoloRun seat (suc few) b first n known) → (k : SoloRun seat (suc many) b first m other) → AllByRecursion IsRule k.2.rules × SoloRun seat few k.2 k.3 n known
first_same seat few many b first n m known other scoped h k =
    let t : h.0 ≡ k.0 = le_antisymm (h.1.least k.0 k.1.free) (k.1.least h.0 h.1.free) in
    let same = call_same seat k.0 b first h.2 h.3 k.2 k.3 scoped (subst (λ u. SoloCall seat u b first h.2 h.3) t h.4) k.4 in
    (subst (AllByRecursion IsRule) (sym (ap (λ x. x.0) (call_lasts seat k.0 b first k.2 k.3 k.4))) scoped, subst (λ x. SoloRun seat few k.2 x n known) same.1 (subst (λ x. SoloRun seat few x h.3 n known) same.0 h.5))

-- as many calls, from one book and what is known, lead to one book, and to what is known then
pub run_same : (seat calls : ℕ) (b : BookState) (first : Known) (m n : BookState) (known other : Known) → AllByRecursion IsRule b.rules → SoloRun seat calls b first m known → SoloRun seat calls b first n other → (m ≡ n) × (known ≡ other)
run_same seat zero b first m n known other scoped h k = (h.0 ∙ sym k.0, h.1 ∙ sym k.1)
run_same seat (suc calls) b first m n known other scoped h k =
    let rest = first_same seat calls calls b first m n known other scoped h k in run_same seat calls k.2 k.3 m n known other rest.0 rest.1 k.5

-- ---- where a run ends

-- no ticket is left for the seat, or the labels are spent
abbrev pub Stops : ℕ → BookState → Type 0
Stops seat b = NoneFor b.tickets seat ⊎ IsSpentFor seat b

-- then no call is made
no_claim : (b n : BookState) (seat t l : ℕ) → Claims b seat t (Err LabelsSpent) b → Claims b seat t (Ok l) n → ⊥
no_claim b n seat t l spent (inl h) = omega (arith, spent.1, h.can.room)
no_claim b n seat t l spent (inr h) = let e : Waiting ≡ Resting = sym spent.0 ∙ h.rests in cc

waits_not_held : (b : BookState) (seat t : ℕ) → Claims b seat t (Err LabelsSpent) b → state_of b.tickets t ≡ Held seat → ⊥
waits_not_held b seat t spent held = let e : Waiting ≡ Held seat = sym spent.0 ∙ held in cc

no_call : (seat t : ℕ) (b : BookState) (known : Known) (n : BookState) (after : Known) → Claims b seat t (Err LabelsSpent) b → SoloCall seat t b known n after → ⊥
no_call seat t b known n after spent (claims l h z) = no_claim b n seat t l spent h
no_call seat t b known n after spent (asks turn e h z) = waits_not_held b seat t spent (turn_held b n seat t turn h)
no_call seat t b known n after spent (fires j f e h z) = waits_not_held b seat t spent (fire_held b n seat t j f h).0
no_call seat t b known n after spent (reports j u e h z) = waits_not_held b seat t spent h.0.held
no_call seat t b known n after spent (drops d e h z) = waits_not_held b seat t spent (drop_held b n seat t d h)

stopped : (seat t : ℕ) (b : BookState) (known : Known) (n : BookState) (after : Known) → Stops seat b → IsLeastFor b.tickets seat t → SoloCall seat t b known n after → ⊥
stopped seat t b known n after (inl none) least call = none t least.free
stopped seat t b known n after (inr spent) least call =
    let same : t ≡ spent.ticket = le_antisymm (least.least spent.ticket spent.least.free) (spent.least.least t least.free) in
    no_call seat spent.ticket b known n after spent.spent (subst (λ u. SoloCall seat u b known n after) same call)

-- no run goes on behind a place where one stops
none_longer : (seat few many : ℕ) (b : BookState) (first : Known) (n m : BookState) (known other : Known) → AllByRecursion IsRule b.rules → SoloRun seat few b first n known → SoloRun seat many b first m other → few < many → Stops seat n → ⊥
none_longer seat few zero b first n m known other scoped h k less stops = omega (arith, less)
none_longer seat zero (suc many) b first n m known other scoped h k less stops =
    stopped seat k.0 b first k.2 k.3 (subst (Stops seat) h.0 stops) k.1 k.4
none_longer seat (suc few) (suc many) b first n m known other scoped h k less stops =
    let rest = first_same seat few many b first n m known other scoped h k in none_longer seat few many k.2 k.3 n m known other rest.0 rest.1 k.5 (omega (arith, less)) stops

-- why a run ended: as many calls were made as were asked for, or it stopped
full_or_stopped : (seat most made calls : ℕ) (n : BookState) → SoloEnds seat most made calls n → (made ≡ most) ⊎ Stops seat n
full_or_stopped seat most made calls n (inl (e, inl full)) = inl full
full_or_stopped seat most made calls n (inl (e, inr none)) = inr (inl none)
full_or_stopped seat most made calls n (inr (e, spent)) = inr (inr spent)

-- calls were made, or one more
made_within : (seat most made calls : ℕ) (n : BookState) → SoloEnds seat most made calls n → made ≤ calls
made_within seat most made calls n (inl (e, why)) = omega (arith, e)
made_within seat most made calls n (inr (e, spent)) = omega (arith, e)

none_fewer : (seat most : ℕ) (b : BookState) (calls other : ℕ) (n m : BookState) → AllByRecursion IsRule b.rules → (x : IsSolo seat most b calls n) → (y : IsSolo seat most b other m) → x.made < y.made → ⊥
none_fewer seat most b calls other n m scoped x y less =
    ⊎_elim (λ full. omega (arith, less, full, made_within seat most y.made other m y.ends, y.few))
    (λ stops. none_longer seat x.made y.made b Nothing n m x.known y.known scoped x.run y.run less stops)
    (full_or_stopped seat most x.made calls n x.ends)

-- whether it ended at a claim that is refused
calls_same : (seat most made other_made calls other : ℕ) (n m : BookState) → made ≡ other_made → n ≡ m → calls ≤ most → other ≤ most → SoloEnds seat most made calls n → SoloEnds seat most other_made other m → calls ≡ other
calls_same seat most made other_made calls other n m e s few many (inl (x, why)) (inl (y, because)) = omega (arith, e, x, y)
calls_same seat most made other_made calls other n m e s few many (inl (x, inl full)) (inr (y, spent)) = absurd (omega (arith, e, full, y, many))
calls_same seat most made other_made calls other n m e s few many (inl (x, inr none)) (inr (y, spent)) = absurd (subst (λ (v : BookState). NoneFor v.tickets seat) s none spent.ticket spent.least.free)
calls_same seat most made other_made calls other n m e s few many (inr (x, spent)) (inl (y, inl full)) = absurd (omega (arith, e, full, x, few))
calls_same seat most made other_made calls other n m e s few many (inr (x, spent)) (inl (y, inr none)) = absurd (subst (λ (v : BookState). NoneFor v.tickets seat) (sym s) none spent.ticket spent.least.free)
calls_same seat most made other_made calls other n m e s few many (inr (x, spent)) (inr (y, because)) = omega (arith, e, x, y)

-- a run of at most so many calls has one end
pub solo_same : (seat most : ℕ) (b : BookState) (calls other : ℕ) (n m : BookState) → AllByRecursion IsRule b.rules → IsSolo seat most b calls n → IsSolo seat most b other m → (calls ≡ other) × (n ≡ m)
solo_same seat most b calls other n m scoped x y =
    let made : x.made ≡ y.made = le_antisymm
    (⊎_elim (λ less. absurd (none_fewer seat most b other calls m n scoped y x less)) (λ h. h) (cases_lt y.made x.made))
    (⊎_elim (λ less. absurd (none_fewer seat most b calls other n m scoped x y less)) (λ h. h) (cases_lt x.made y.made)) in
    let same = run_same seat y.made b Nothing n m x.known y.known scoped (subst (λ k. SoloRun seat k b Nothing n x.known) made x.run) y.run in
    (calls_same seat most x.made y.made calls other n m made same.0 x.few y.few x.ends y.ends, same.0)

-- ---- a run that is cut short

-- the rest of a longer run, where the shorter one ended
rest_of : (seat made more : ℕ) (b : BookState) (first : Known) (n m : BookState) (known other : Known) → AllByRecursion IsRule b.rules → SoloRun seat made b first n known → SoloRun seat (more + made) b first m other → SoloRun seat more n known m other
rest_of seat zero more b first n m known other scoped h k =
    subst (λ x. SoloRun seat more x known m other) (sym h.0) (subst (λ x. SoloRun seat more b x m other) (sym h.1) (subst (λ c. SoloRun seat c b first m other) (add-zero more) k))
rest_of seat (suc made) more b first n m known other scoped h k =
    let r = subst (λ c. SoloRun seat c b first m other) (add-suc more made) k in
    let rest = first_same seat made (more + made) b first n m known other scoped h r in rest_of seat made more r.2 r.3 n m known other rest.0 rest.1 r.5

-- what is cut short is a beginning of the run
pub cut_begins : (seat most : ℕ) (b : BookState) (calls : ℕ) (n m : BookState) → AllByRecursion IsRule b.rules → (x : IsCutShort seat most b n) → (y : IsSolo seat most b calls m) → (more : ℕ) × SoloRun seat more n x.known m y.known
cut_begins seat most b calls n m scoped x y =
    ⊎_elim (λ less. absurd (⊎_elim (λ full. omega (arith, less, full, x.fewer))
    (λ stops. none_longer seat y.made x.made b Nothing m n y.known x.known scoped y.run x.run less stops)
    (full_or_stopped seat most y.made calls m y.ends)))
    (λ le. (y.made - x.made, rest_of seat x.made (y.made - x.made) b Nothing n m x.known y.known scoped x.run (subst (λ c. SoloRun seat c b Nothing m y.known) (omega (arith, le)) y.run)))
    (cases_lt y.made x.made)
