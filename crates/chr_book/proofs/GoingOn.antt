-- Rounds of calls: trials are passed over one by one, and the last round fires what was found whole or drops the goal; those of a
-- ticket that waits are made in the store as it is once its atom is entered, which it needn't be where what fires removes it.
use Rattle.std.proofs.Common.{◌≡◌, ◌↔◌, IsTrue, MatchBool, ℕ, zero, suc, drop, get_or, List, Option, Some, Ok, refl, sym, ◌∙◌, ap, subst, slice_set, inr, ◌-◌, ◌<◌, length, take, arith, [], ◌∷◌, ◌++◌, None, ap₂, Bool, ◌≢◌, ◌==◌, ◌+◌, ◌≤◌, true, false, not, if◌then◌else◌, inl, Result, Err, OnErr}
use Rattle.std.proofs.lemmas.List.{drop_more, set-get_or, set-set, length-set, append-nil, length-append, set-append_left, length-map, append_assoc}
use Rattle.std.proofs.lemmas.Bool.{MatchBool-at_true}
use Rattle.std.proofs.lemmas.Bool.Decides.{nat_tests}
use Rattle.chr_value.specs.Atoms.{Value, Atom}
use Rattle.chr_value.proofs.Chosen.{some_is}
use Rattle.chr_rule.specs.Rules.{Simpagation, rule_at}
use Rattle.chr_log.specs.Events.{Entry, Drop, Activate, Fire}
use Rattle.chr_log.specs.declared.events.Version.TheVariants.{Two}
use Rattle.chr_model.specs.Goals.{Goal, Plain, Numbered}
use Rattle.chr_model.specs.Stores.{Store, atom_at, drop_label, without, among}
use Rattle.chr_model.specs.Programs.{Instances}
use Rattle.chr_model.proofs.Once.{Lawful-once}
use Rattle.chr_model.proofs.Older.{store_below}
use Rattle.chr_plan.specs.Plans.{PlanList}
use Rattle.chr_store.specs.Labels.{LabelledStore, GivenBefore, IsLabelled}
use Rattle.chr_search.specs.Trials.{IsNext, Space, NoneLeft, older}
use Rattle.chr_search.specs.Verdicts.{position}
use Rattle.chr_search.specs.Answers.{after_judging}
use Rattle.chr_search.specs.Passing.{PassesOne, Passes, PassesTo, IsWholeNext, IsThen, left_at}
use Rattle.chr_search.specs.declared.search.Instance.{Instance}
use Rattle.chr_search.specs.declared.search.Passed.{Passed}
use Rattle.chr_search.specs.Reach.{SearchState}
use Rattle.chr_search.specs.Judged.{Judgement}
use Rattle.chr_search.specs.declared.search.Then.{Then}
use Rattle.chr_search.specs.Positions.{beginning}
use Rattle.chr_search.specs.Wholes.{WholeTrial}
use Rattle.chr_search.specs.declared.judged.Verdict.TheVariants as verdicts
use Rattle.chr_search.specs.declared.search.Then.TheVariants as thens
use Rattle.chr_calls.specs.Turns.{Next, Done}
use Rattle.chr_calls.specs.Tickets.{Ticket, ended, going_on, ticket_at, with_candidate, waiting, activated_by, state_with, state_of, atom_in}
use Rattle.chr_calls.specs.Books.{BookState, space_of, with_tickets, with_ticket, with_entry, events, goal_state}
use Rattle.chr_calls.specs.Calls.{HoldsLive, with_candidate_of, dropped, Activates, Claims, activated}
use Rattle.chr_calls.specs.Headline.{IsKept}
use Rattle.chr_calls.proofs.Tickets.{ticket_same, numbered_within, ticket_before, waiting_is}
use Rattle.chr_calls.proofs.Turning.{turns_keep, reports_keep}
use Rattle.chr_calls.specs.declared.answers.Fired.{Fired}
use Rattle.chr_calls.proofs.Fires.{fires_keep}
use Rattle.chr_calls.proofs.Drops.{drops_keep}
use Rattle.chr_calls.specs.declared.answers.TicketState.TheVariants.{Unknown, Waiting, Held}
use Rattle.chr_calls.proofs.Claiming.{activated_keeps, claims_keep}
use Rattle.chr_calls.specs.declared.answers.Firing.TheVariants as firing
use Rattle.chr_calls.specs.declared.answers.Dropping.TheVariants as dropping
use Rattle.chr_tickets.specs.Passed.{gone_over}
use Rattle.chr_tickets.specs.Open.{with_goal, with_atom}
use Rattle.chr_book.specs.Given.{ComesNext}
use Rattle.chr_book.specs.Passed.{PassesTrial, PassesTrials, FiresTrial, DropsGoal, IsLast, MakesRounds, MakesFewer, PassesMaking, StartsRounds, StartsFewer, PassesBefore}
use Rattle.chr_book.proofs.Turns.{at_place, place_is, holds_at, holds_set, set_twice, next_turned, now_candidate, with_again, with_dropped}
use Rattle.chr_book.specs.declared.rounds.Last.{Last}
use Rattle.chr_book.specs.declared.rounds.Rounds.{Rounds}
use Rattle.chr_book.specs.Books.{book_of}
use Rattle.chr_book.specs.Firings.{MakesFound, EndsRounds, MakesBody, EntersGoal, FiresWaiting, DropsWaiting, EndsStart, fires, enters, EntersOrStays, gone_on}
use Rattle.chr_book.proofs.Fired.{rest_back, FiresWhole, IsWholeOf, next_is_live, with_fired, fires_there, fires_whole, next_fires}
use Rattle.chr_book.specs.declared.rounds.Last.TheVariants as lasts

-- ---- trials that are passed over

-- one trial
passes_one : (b : BookState) (seat t l : ℕ) (place after : List ℕ) → PassesOne (space_of b l) place after → HoldsLive b seat t l → (ticket_at b.tickets t).position ≡ place → PassesTrial seat t b (at_place b t after)
passes_one b seat t l place after one h is =
    let comes : ComesNext b seat t one.judged.trial = record { label = l; holds = h; is = record { next = subst (λ p. IsNext (space_of b l) p (position one.judged.trial)) (sym is) one.next; is = one.is; formed = one.formed } } in
    record {
      judged = one.judged;
      right = one.right;
      asked = with_candidate_of b t (Some one.judged.trial);
      turns = next_turned b seat t one.judged.trial comes;
      reports = (now_candidate b seat t one.judged.trial comes, one.other, ap (at_place b t) one.on ∙ sym (with_again b t l (Some one.judged.trial) (going_on (after_judging one.judged)) h.holds.goal));
    }

holds_on : (b : BookState) (seat t l : ℕ) (place : List ℕ) → HoldsLive b seat t l → HoldsLive (at_place b t place) seat t l
holds_on b seat t l place h = record { holds = holds_at b seat t l place h.holds; live = h.live }

-- several
passes_all : (k : ℕ) (b : BookState) (seat t l : ℕ) (place after : List ℕ) → Passes (space_of b l) (suc k) place after → HoldsLive b seat t l → (ticket_at b.tickets t).position ≡ place → PassesTrials seat t (suc k) b (at_place b t after)
passes_all zero b seat t l place after p h is = (at_place b t p.0, passes_one b seat t l place p.0 p.1 h is, ap (at_place b t) p.2)
passes_all (suc k) b seat t l place after p h is =
    let m = at_place b t p.0 in
    let twice : at_place m t after ≡ at_place b t after = ap (with_tickets b) (set_twice b.tickets t (going_on p.0 (ticket_at b.tickets t)) (going_on after) (numbered_within b.tickets t l h.holds.goal)) in
    (m, passes_one b seat t l place p.0 p.1 h is, subst (PassesTrials seat t (suc k) m) twice (passes_all k m seat t l p.0 after p.2 (holds_on b seat t l p.0 h) (place_is b t l p.0 h.holds.goal)))

-- so many trials of a held live goal are passed over where the tickets are these: its search is at a place
pub record IsPast (b : BookState) (seat t k l : ℕ) (place : List ℕ) (tickets : List Ticket) : Type 0 where
  pub passes : PassesTrials seat t k b (with_tickets b tickets)
  pub live : HoldsLive (with_tickets b tickets) seat t l
  pub at : (ticket_at tickets t).position ≡ place

pub is_past : (k : ℕ) (b : BookState) (seat t l : ℕ) (place : List ℕ) (tickets : List Ticket) → HoldsLive b seat t l → Passes (space_of b l) k (ticket_at b.tickets t).position place → tickets ≡ slice_set b.tickets t (gone_over thens.More k place (ticket_at b.tickets t)) → IsPast b seat t k l place tickets
is_past zero b seat t l place tickets h p e = subst (IsPast b seat t 0 l place) (sym (e ∙ set-get_or b.tickets t ended)) (record { passes = refl; live = h; at = sym p })
is_past (suc k) b seat t l place tickets h p e = subst (IsPast b seat t (suc k) l place) (sym e) (record {
  passes = passes_all k b seat t l (ticket_at b.tickets t).position place p h refl;
  live = holds_on b seat t l place h;
  at = place_is b t l place h.holds.goal;
})

-- no round
no_rounds : {seat t most : ℕ} {b : BookState} (n : BookState) → n ≡ b → 0 < most → MakesFewer seat t most b n
no_rounds n same some = record { passed = 0; fewer = some; passes = same }

-- so many rounds, up to where its search stands: none of them, where it stays
gone_rounds : (come : Then) (k : ℕ) (b : BookState) (seat t l most : ℕ) (place : List ℕ) (tickets : List Ticket) → HoldsLive b seat t l → Passes (space_of b l) k (ticket_at b.tickets t).position place → tickets ≡ slice_set b.tickets t (gone_over come k place (ticket_at b.tickets t)) → k < most → MakesFewer seat t most b (with_tickets b tickets)
gone_rounds thens.More k b seat t l most place tickets h p e less = record { passed = k; fewer = less; passes = (is_past k b seat t l place tickets h p e).passes }
gone_rounds thens.Whole k b seat t l most place tickets h p e less = no_rounds (with_tickets b tickets) (ap (with_tickets b) (e ∙ set-get_or b.tickets t ended)) (omega arith)
gone_rounds thens.Done k b seat t l most place tickets h p e less = no_rounds (with_tickets b tickets) (ap (with_tickets b) (e ∙ set-get_or b.tickets t ended)) (omega arith)

-- what a book keeps
pub passes_keep : (k : ℕ) (b n : BookState) (seat t : ℕ) → PassesTrials seat t k b n → IsKept b → IsKept n
passes_keep zero b n seat t p kept = subst IsKept (sym p) kept
passes_keep (suc k) b n seat t p kept =
    let one = p.1 in
    passes_keep k p.0 n seat t p.2 (reports_keep one.asked p.0 seat t one.judged (Ok tt) one.right one.reports (turns_keep b one.asked seat t (Ok (Next one.judged.trial)) one.turns kept))

-- ---- a drop

drops_last : (b : BookState) (seat t l : ℕ) → HoldsLive b seat t l → NoneLeft (space_of b l) (ticket_at b.tickets t).position → DropsGoal seat t b (dropped b seat t)
drops_last b seat t l h none =
    let x : Ticket = with_candidate None (ticket_at b.tickets t) in
    record {
      asked = with_ticket b t x;
      turns = (l, h, none, refl);
      drops = (
        l,
        holds_set b.tickets seat t l x refl refl h.holds,
        λ live. subst (NoneLeft (space_of b l)) (sym (ap (λ (y : Ticket). y.position) (ticket_same b.tickets t x (numbered_within b.tickets t l h.holds.goal)))) none,
        ap (λ ts. with_tickets (with_entry b seat (Drop t)) ts) (sym (set-set b.tickets t x ended)),
      );
    }

pub dropped_rounds : (b : BookState) (seat t k l : ℕ) (place : List ℕ) (now tickets : List Ticket) (log : List (Entry ℕ)) → IsPast b seat t k l place now → NoneLeft (space_of b l) place → tickets ≡ slice_set now t ended → log ≡ b.log ++ record { event = Drop t; seat = seat } ∷ []
    → MakesRounds seat t (record { passed = k; last = lasts.Dropped }) b (with_dropped b log tickets)
dropped_rounds b seat t k l place now tickets log past none ts es = record {
  middle = with_tickets b now;
  passes = past.passes;
  last = subst (DropsGoal seat t (with_tickets b now)) (ap₂ (λ (xs : List (Entry ℕ)) (ys : List Ticket). with_dropped b xs ys) (sym es) (sym ts))
      (drops_last (with_tickets b now) seat t l past.live (subst (NoneLeft (space_of b l)) (sym past.at) none));
}

-- ---- a firing

fires_last : (b : BookState) (seat t l : ℕ) (place : List ℕ) (rule : Simpagation ℕ) (w : WholeTrial) (binding : List (Option (Value ℕ))) (f : Fired) (log : List (Entry ℕ)) (tickets : List Ticket) → IsKept b → HoldsLive b seat t l → (ticket_at b.tickets t).position ≡ place → IsWholeNext (space_of b l) place w binding → rule_at b.rules w.number ≡ Some rule → FiresWhole seat t rule w binding f b.tickets b.log tickets log
    → FiresTrial seat t b (with_fired b log w.removed tickets)
fires_last b seat t l place rule w binding f log tickets k h is next of fw =
    let j : Judgement = record { trial = next.trial; verdict = verdicts.Whole } in
    let comes : ComesNext b seat t next.trial = record { label = l; holds = h; is = record { next = subst (λ p. IsNext (space_of b l) p (position next.trial)) (sym is) next.next; is = next.is; formed = next.formed } } in
    let whole : IsWholeOf next.trial l rule w binding = record { under = next.under; rule_is = some_is rule next.trial.rule (sym of ∙ ap (rule_at b.rules) next.number_is ∙ next.is.rule_is); number = next.number_is; kept = next.kept_are; removed = next.removed_are; label = next.label_is; past = next.past_is } in
    record {
      judged = j;
      right = next.under.whole;
      asked = with_candidate_of b t (Some next.trial);
      turns = next_turned b seat t next.trial comes;
      fired = f;
      fires = next_fires b (with_fired b log w.removed tickets) seat t j f comes refl (fires_there b seat t l j rule w binding f log tickets k (inr comes) (next_is_live b seat t next.trial comes) h.holds.goal whole fw);
    }

pub fired_rounds : (b : BookState) (seat t k l : ℕ) (place : List ℕ) (rule : Simpagation ℕ) (w : WholeTrial) (binding : List (Option (Value ℕ))) (f : Fired) (now tickets : List Ticket) (log : List (Entry ℕ)) → IsKept b → IsPast b seat t k l place now → IsWholeNext (space_of b l) place w binding → rule_at b.rules w.number ≡ Some rule → FiresWhole seat t rule w binding f now b.log tickets log
    → MakesRounds seat t (record { passed = k; last = lasts.Fired }) b (with_fired b log w.removed tickets)
fired_rounds b seat t k l place rule w binding f now tickets log kept past next of fw =
    let middle : BookState = with_tickets b now in
    record { middle = middle; passes = past.passes; last = fires_last middle seat t l place rule w binding f log tickets (passes_keep k b middle seat t past.passes kept) past.live past.at next of fw }

-- ---- the last of some rounds, by what came after the trials that were passed over

abbrev pub book_same : (rules : List (Simpagation ℕ)) (plans : PlanList) (names : List (List ℕ)) {es log : List (Entry ℕ)} {left st : LabelledStore} {xs ts : List Ticket} → es ≡ log → left ≡ st → xs ≡ ts → book_of rules plans names es left xs ≡ book_of rules plans names log st ts
book_same rules plans names {es} {log} {left} {st} {xs} {ts} e l t = ap₂ (λ (z : List (Entry ℕ)) (y : List Ticket). book_of rules plans names z left y) e t ∙ ap (λ (z : LabelledStore). book_of rules plans names log z ts) l

pub makes_same : {seat t k : ℕ} {last other : Last} {b n m : BookState} → last ≡ other → n ≡ m → MakesRounds seat t (record { passed = k; last = other }) b m → MakesRounds seat t (record { passed = k; last = last }) b n
makes_same {seat} {t} {k} {last} {other} {b} {n} {m} l e h =
    subst (λ (z : Last). MakesRounds seat t (record { passed = k; last = z }) b n) (sym l) (subst (MakesRounds seat t (record { passed = k; last = other }) b) (sym e) h)

-- nothing was found, and no ticket is new
none_more : (now pushed more : List Ticket) → pushed ≡ now ++ more → more ≡ [] → pushed ≡ now
none_more now pushed more e none = e ∙ ap (λ (m : List Ticket). now ++ m) none ∙ append-nil now

pub ended_rounds : (rules : List (Simpagation ℕ)) (plans : PlanList) (names : List (List ℕ)) (log entries : List (Entry ℕ)) (st left : LabelledStore) (ts now more pushed tickets : List Ticket) (seat t k l : ℕ) (place : List ℕ) (come : Then) (i : Instance) (binding : List (Option (Value ℕ))) (last : Last)
    → IsKept (book_of rules plans names log st ts) → IsPast (book_of rules plans names log st ts) seat t k l place now → IsThen (space_of (book_of rules plans names log st ts) l) place come i binding → MakesFound rules come i.whole binding more → pushed ≡ now ++ more → EndsRounds seat t come i.whole last pushed log st tickets entries left
    → MakesRounds seat t (record { passed = k; last = last }) (book_of rules plans names log st ts) (book_of rules plans names entries left tickets)
ended_rounds rules plans names log entries st left ts now more pushed tickets seat t k l place thens.More i binding last kept past next made e h =
    makes_same h.0 (book_same rules plans names h.2 h.3 (h.1 ∙ none_more now pushed more e made)) (record { middle = book_of rules plans names log st now; passes = past.passes; last = refl })
ended_rounds rules plans names log entries st left ts now more pushed tickets seat t k l place thens.Done i binding last kept past next made e h =
    makes_same h.0 (book_same rules plans names refl h.3 refl) (dropped_rounds (book_of rules plans names log st ts) seat t k l place now tickets entries past next (h.1 ∙ ap (λ (xs : List Ticket). slice_set xs t ended) (none_more now pushed more e made)) h.2)
ended_rounds rules plans names log entries st left ts now more pushed tickets seat t k l place thens.Whole i binding last kept past next made e h =
    let f = h.1 in
    let at : (ticket_at now t).goal ≡ Numbered i.whole.past.label = past.live.holds.goal ∙ ap Numbered (sym next.label_is) in
    makes_same h.0 (book_same rules plans names refl f.store refl) (fired_rounds (book_of rules plans names log st ts) seat t k l place made.0 i.whole binding (record { first = length now; count = length pushed - length now; active_lives = f.lives }) now tickets entries kept past next made.1
    (fires_whole seat t (length now) (length pushed) f.lives made.0 i.whole binding now more pushed tickets log entries at refl refl made.2 e f.fires))

-- memory was refused
pub fewer_rounds : (rules : List (Simpagation ℕ)) (plans : PlanList) (names : List (List ℕ)) (log entries : List (Entry ℕ)) (st left : LabelledStore) (ts now tickets : List Ticket) (seat t most : ℕ) → MakesFewer seat t most (book_of rules plans names log st ts) (book_of rules plans names log st now) → tickets ≡ now → entries ≡ log → left ≡ st → MakesFewer seat t most (book_of rules plans names log st ts) (book_of rules plans names entries left tickets)
fewer_rounds rules plans names log entries st left ts now tickets seat t most h x e s = subst (MakesFewer seat t most (book_of rules plans names log st ts)) (sym (book_same rules plans names e s x)) h

-- what is found is of a rule, and of the search's label
pub finds : (s : Space) (place : List ℕ) (come : Then) (i : Instance) (binding : List (Option (Value ℕ))) → IsThen s place come i binding → come ≡ thens.Whole → ((rule : Simpagation ℕ) × (rule_at s.rules i.whole.number ≡ Some rule)) × (i.whole.past.label ≡ s.active)
finds s place come i binding next is =
    let w : IsWholeNext s place i.whole binding = subst (λ c. IsThen s place c i binding) is next in
    ((w.trial.rule, ap (rule_at s.rules) w.number_is ∙ w.is.rule_is), w.label_is)

-- ---- the last of some rounds that passes over no trial is the same wherever the search stands

-- a ticket whose search goes on once it has passed over trials
going_alike : (come : Then) (k : ℕ) (place q : List ℕ) (x : Ticket) → going_on q (gone_over come k place x) ≡ going_on q x
going_alike thens.More zero place q x = refl
going_alike thens.More (suc k) place q x = refl
going_alike thens.Whole k place q x = refl
going_alike thens.Done k place q x = refl

gone_alike : (lives : Bool) (q : List ℕ) (x y : Ticket) → going_on q x ≡ going_on q y → gone_on lives q x ≡ gone_on lives q y
gone_alike true q x y e = e
gone_alike false q x y e = refl

ends_there : (seat t : ℕ) (come : Then) (w : WholeTrial) (last : Last) (ts : List Ticket) (x : Ticket) (log : List (Entry ℕ)) (st : LabelledStore) (new : List Ticket) (entries : List (Entry ℕ)) (after : LabelledStore) → t < length ts → ((q : List ℕ) → going_on q (ticket_at ts t) ≡ going_on q x) → (come ≡ thens.More → ticket_at ts t ≡ x)
    → EndsRounds seat t come w last ts log st new entries after → EndsRounds seat t come w last (slice_set ts t x) log st new entries after
ends_there seat t thens.More w last ts x log st new entries after within alike same h = (h.0, h.1 ∙ sym (ap (slice_set ts t) (sym (same refl)) ∙ set-get_or ts t ended), h.2, h.3)
ends_there seat t thens.Done w last ts x log st new entries after within alike same h = (h.0, h.1 ∙ sym (set-set ts t x ended), h.2, h.3)
ends_there seat t thens.Whole w last ts x log st new entries after within alike same h =
    let f = h.1 in (
      h.0,
      record {
        lives = f.lives;
        fires = record {
          lives_is = f.fires.lives_is;
          logged = f.fires.logged;
          tickets = f.fires.tickets ∙ ap (slice_set ts t) (gone_alike f.lives w.past.place (ticket_at ts t) x (alike w.past.place)) ∙ sym (set_twice ts t x (gone_on f.lives w.past.place) within);
        };
        store = f.store;
      },
    )

-- ---- the same by what the functions show

-- the ticket where the search stands, before others
record IsMade (ts pushed more : List Ticket) (t k : ℕ) (come : Then) (place : List ℕ) : Type 0 where
  pub within : t < length pushed
  pub there : ticket_at pushed t ≡ gone_over come k place (ticket_at ts t)
  pub past : slice_set pushed t (gone_over thens.More k place (ticket_at ts t)) ≡ slice_set ts t (gone_over thens.More k place (ticket_at ts t)) ++ more

is_made : (s : Space) (ts pushed : List Ticket) (t : ℕ) (come : Passed) (i : Instance) → t < length ts → (found : PassesMaking s t come i ts pushed) → IsMade ts pushed found.more t come.count come.then found.over.place
is_made s ts pushed t come i within found =
    let x : Ticket = gone_over thens.More come.count found.over.place (ticket_at ts t) in
    let now : List Ticket = slice_set ts t found.x in
    let within_now : t < length now = rw (length-set ts t found.x) within in
    record {
      within = rw found.tickets (rw (length-append now found.more) (omega arith));
      there = ap (λ (xs : List Ticket). ticket_at xs t) found.tickets ∙ ticket_before now found.more t within_now ∙ ticket_same ts t found.x within ∙ found.over.after_is;
      past = ap (λ (xs : List Ticket). slice_set xs t x) found.tickets ∙ set-append_left now found.more t x within_now ∙ ap (λ (xs : List Ticket). xs ++ found.more) (set-set ts t found.x x);
    }

pub whole_goal : (b : BookState) (pushed : List Ticket) (seat t l : ℕ) (come : Passed) (i : Instance) (w : WholeTrial) → HoldsLive b seat t l → PassesMaking (space_of b l) t come i b.tickets pushed → w ≡ i.whole → come.then ≡ thens.Whole → (ticket_at pushed t).goal ≡ Numbered w.past.label
whole_goal b pushed seat t l come i w h found same is =
    ap (λ (x : Ticket). x.goal) (is_made (space_of b l) b.tickets pushed t come i (numbered_within b.tickets t l h.holds.goal) found).there
    ∙ ap (λ (x : Ticket). x.goal) (going_alike come.then come.count found.over.place [] (ticket_at b.tickets t)) ∙ h.holds.goal
    ∙ ap Numbered (sym (finds (space_of b l) found.over.place come.then i found.binding found.over.next is).1 ∙ ap (λ (v : WholeTrial). v.past.label) (sym same))

pub makes_rounds : (rules : List (Simpagation ℕ)) (plans : PlanList) (names : List (List ℕ)) (log entries : List (Entry ℕ)) (st left : LabelledStore) (ts pushed tickets : List Ticket) (seat t l : ℕ) (come : Passed) (i : Instance) (w : WholeTrial) (last : Last)
    → IsKept (book_of rules plans names log st ts) → HoldsLive (book_of rules plans names log st ts) seat t l → PassesMaking (space_of (book_of rules plans names log st ts) l) t come i ts pushed → w ≡ i.whole → EndsRounds seat t come.then w last pushed log st tickets entries left
    → MakesRounds seat t (record { passed = come.count; last = last }) (book_of rules plans names log st ts) (book_of rules plans names entries left tickets)
makes_rounds rules plans names log entries st left ts pushed tickets seat t l come i w last kept h found same ends =
    let b : BookState = book_of rules plans names log st ts in
    let place : List ℕ = found.over.place in
    let y : Ticket = ticket_at ts t in
    let x : Ticket = gone_over thens.More come.count place y in
    let made = is_made (space_of b l) ts pushed t come i (numbered_within ts t l h.holds.goal) found in
    ended_rounds rules plans names log entries st left ts (slice_set ts t x) found.more (slice_set pushed t x) tickets seat t come.count l place come.then i found.binding last kept
    (is_past come.count b seat t l place (slice_set ts t x) h found.over.passes refl) found.over.next found.made made.past
    (ends_there seat t come.then i.whole last pushed x log st tickets entries left made.within
    (λ q. ap (going_on q) made.there ∙ going_alike come.then come.count place q y ∙ sym (going_alike thens.More come.count place q y))
    (λ is. made.there ∙ ap (λ (c : Then). gone_over c come.count place y) is)
    (subst (λ (v : WholeTrial). EndsRounds seat t come.then v last pushed log st tickets entries left) same ends))

-- where the tickets of the body are taken back
pub cut_rounds : (rules : List (Simpagation ℕ)) (plans : PlanList) (names : List (List ℕ)) (log entries : List (Entry ℕ)) (st left : LabelledStore) (ts pushed same cut : List Ticket) (seat t l first most : ℕ) (come : Passed) (i : Instance)
    → HoldsLive (book_of rules plans names log st ts) seat t l → PassesMaking (space_of (book_of rules plans names log st ts) l) t come i ts pushed → come.count < most → same ≡ pushed → cut ≡ take first same → first ≡ length ts → entries ≡ log → left ≡ st
    → MakesFewer seat t most (book_of rules plans names log st ts) (book_of rules plans names entries left cut)
cut_rounds rules plans names log entries st left ts pushed same cut seat t l first most come i h found less e back f es s =
    fewer_rounds rules plans names log entries st left ts (slice_set ts t found.x) cut seat t most
    (gone_rounds come.then come.count (book_of rules plans names log st ts) seat t l most found.over.place (slice_set ts t found.x) h found.over.passes (ap (slice_set ts t) found.over.after_is) less)
    (rest_back (slice_set ts t found.x) same cut first (found.more, e ∙ found.tickets) back (f ∙ sym (length-set ts t found.x))) es s

-- ---- what a book keeps

last_keeps : (last : Last) (b n : BookState) (seat t : ℕ) → IsLast seat t last b n → IsKept b → IsKept n
last_keeps lasts.Fired b n seat t h kept = fires_keep h.asked n seat t h.judged (Ok (firing.Fired h.fired)) h.right h.fires (turns_keep b h.asked seat t (Ok (Next h.judged.trial)) h.turns kept)
last_keeps lasts.Dropped b n seat t h kept = drops_keep h.asked n seat t (Ok dropping.Dropped) h.drops (turns_keep b h.asked seat t (Ok Done) h.turns kept)
last_keeps lasts.Passed b n seat t h kept = subst IsKept (sym h) kept

pub rounds_keep : (seat t : ℕ) (r : Rounds) (b n : BookState) → MakesRounds seat t r b n → IsKept b → IsKept n
rounds_keep seat t r b n h kept = last_keeps r.last h.middle n seat t h.last (passes_keep r.passed b h.middle seat t h.passes kept)

pub fewer_keep : (seat t most : ℕ) (b n : BookState) → MakesFewer seat t most b n → IsKept b → IsKept n
fewer_keep seat t most b n h kept = passes_keep h.passed b n seat t h.passes kept

-- ---- what the calls do

-- the state of a ticket that is set
pub state_there : (ts : List Ticket) (t : ℕ) (x : Ticket) → state_of ts t ≢ Unknown → t < length ts → state_of (slice_set ts t x) t ≡ state_with x.goal x.holder
state_there ts zero x known within = absurd (known refl)
state_there ts (suc t) x known within = grind (arith, nat_tests, length-set ts (suc t) x, ticket_same ts (suc t) x within)

-- and of one that stands as before
pub state_elsewhere : (ts : List Ticket) (t u : ℕ) (x : Ticket) → ticket_at (slice_set ts t x) u ≡ ticket_at ts u → state_of (slice_set ts t x) u ≡ state_of ts u
state_elsewhere ts t zero x is = refl
state_elsewhere ts t (suc u) x is = grind (arith, nat_tests, length-set ts t x, is)

-- and of one before others
state_before : (ts more : List Ticket) (t : ℕ) → t < length ts → state_of (ts ++ more) t ≡ state_of ts t
state_before ts more zero within = refl
state_before ts more (suc t) within = grind (arith, nat_tests, length-append ts more, ticket_before ts more (suc t) within)

-- ---- a ticket whose atom is swapped with another

plain_is : (g : Goal) (a : Atom ℕ) → Some a ≡ atom_in g → g ≡ Plain a
plain_is (Plain b) a e = ap Plain (some_is b a (sym e))
plain_is g a e = absurd (cc)

-- its atom, and the tickets then
pub record IsLent (ts now : List Ticket) (t : ℕ) (a : Atom ℕ) : Type 0 where
  pub waits : state_of ts t ≡ Waiting
  pub atom : Some a ≡ atom_in (ticket_at ts t).goal
  pub other : Atom ℕ
  pub lent_is : now ≡ slice_set ts t (with_atom other (ticket_at ts t))

pub is_lent : (ts now : List Ticket) (t : ℕ) (a other : Atom ℕ) (told : Bool) → IsTrue told → IsTrue told ↔ state_of ts t ≡ Waiting → MatchBool told (Some a ≡ atom_in (ticket_at ts t).goal) (a ≡ other) → MatchBool told (now ≡ slice_set ts t (with_atom other (ticket_at ts t))) (now ≡ ts) → IsLent ts now t a
is_lent ts now t a other told taken means atom rest = record { waits = means.0 taken; atom = MatchBool-at_true _ _ taken atom; other = other; lent_is = MatchBool-at_true _ _ taken rest }

pub waits_lent : {ts now : List Ticket} {t : ℕ} {a : Atom ℕ} → IsLent ts now t a → state_of now t ≡ Waiting
waits_lent {ts} {now} {t} {a} h =
    ap (λ (xs : List Ticket). state_of xs t) h.lent_is
    ∙ state_there ts t (with_atom h.other (ticket_at ts t)) (λ e. absurd (let z : Waiting ≡ Unknown = sym h.waits ∙ e in cc)) (waiting_is ts t h.waits).within

lent_within : {ts now : List Ticket} {t : ℕ} {a : Atom ℕ} → IsLent ts now t a → t < length now
lent_within {ts} {now} {t} h = (waiting_is now t (waits_lent h)).within

-- also where other tickets come after it
pub waits_before : {ts now : List Ticket} {t : ℕ} {a : Atom ℕ} (more pushed : List Ticket) → IsLent ts now t a → pushed ≡ now ++ more → state_of pushed t ≡ Waiting
waits_before {ts} {now} {t} {a} more pushed h e = ap (λ (xs : List Ticket). state_of xs t) e ∙ state_before now more t (lent_within h) ∙ waits_lent h

-- the ticket changes
pub lent_set : {ts now : List Ticket} {t : ℕ} {a : Atom ℕ} (y : Ticket) → IsLent ts now t a → slice_set now t y ≡ slice_set ts t y
lent_set {ts} {now} {t} y h = ap (λ (xs : List Ticket). slice_set xs t y) h.lent_is ∙ set-set ts t (with_atom h.other (ticket_at ts t)) y

pub lent_set_before : {ts now : List Ticket} {t : ℕ} {a : Atom ℕ} (more pushed : List Ticket) (y : Ticket) → IsLent ts now t a → pushed ≡ now ++ more → slice_set pushed t y ≡ slice_set ts t y ++ more
lent_set_before {ts} {now} {t} more pushed y h e = ap (λ (xs : List Ticket). slice_set xs t y) e ∙ set-append_left now more t y (lent_within h) ∙ ap (λ (xs : List Ticket). xs ++ more) (lent_set y h)

-- and where its atom is put back
pub put_back : {ts now : List Ticket} {t : ℕ} {a : Atom ℕ} → IsLent ts now t a → slice_set now t (with_atom a (ticket_at now t)) ≡ ts
put_back {ts} {now} {t} {a} h =
    let x : Ticket = ticket_at ts t in
    let there : ticket_at now t ≡ with_atom h.other x = ap (λ (xs : List Ticket). ticket_at xs t) h.lent_is ∙ ticket_same ts t (with_atom h.other x) (waiting_is ts t h.waits).within in
    lent_set (with_atom a (ticket_at now t)) h ∙ ap (slice_set ts t) (ap (with_atom a) there ∙ ap (λ (g : Goal). with_goal g x) (sym (plain_is x.goal a h.atom))) ∙ set-get_or ts t ended

pub put_back_of : {ts now left new : List Ticket} {t : ℕ} {a : Atom ℕ} (told : Bool) → IsLent ts now t a → left ≡ now → IsTrue told ↔ state_of left t ≡ Waiting → MatchBool told (new ≡ slice_set left t (with_atom a (ticket_at left t))) (new ≡ left) → new ≡ ts
put_back_of {ts} {now} {left} {new} {t} {a} told h same means rest =
    MatchBool-at_true _ _ (means.1 (ap (λ (xs : List Ticket). state_of xs t) same ∙ waits_lent h)) rest ∙ ap (λ (xs : List Ticket). slice_set xs t (with_atom a (ticket_at xs t))) same ∙ put_back h

-- the goal has entered, and its search goes on
pub goes_in : (seat t : ℕ) (place : List ℕ) (a : Atom ℕ) (ts : List Ticket) (log : List (Entry ℕ)) (st : LabelledStore) (now : List Ticket) (entries : List (Entry ℕ)) (after : LabelledStore) (new : List Ticket) → state_of ts t ≡ Waiting → EntersGoal seat t beginning a ts log st now entries after → new ≡ slice_set now t (going_on place (ticket_at now t)) → EntersGoal seat t place a ts log st new entries after
goes_in seat t place a ts log st now entries after new waits h e = record {
  tickets = e ∙ ap (λ (xs : List Ticket). slice_set xs t (going_on place (ticket_at xs t))) h.tickets ∙ set_twice ts t (activated_by seat st.next) (going_on place) (waiting_is ts t waits).within;
  logged = h.logged;
  store = h.store;
}

-- its goal is numbered then
pub entered_label : {seat t : ℕ} {place : List ℕ} {a : Atom ℕ} {ts now : List Ticket} {log es : List (Entry ℕ)} {st store : LabelledStore} → EntersGoal seat t place a ts log st now es store → state_of ts t ≡ Waiting → (ticket_at now t).goal ≡ Numbered st.next
entered_label {seat} {t} {place} {a} {ts} {now} {log} {es} {st} {store} h waits =
    ap (λ (xs : List Ticket). (ticket_at xs t).goal) h.tickets ∙ ap (λ (x : Ticket). x.goal) (ticket_same ts t (going_on place (activated_by seat st.next)) (waiting_is ts t waits).within)

-- a goal that is dropped as it enters has entered, and then its rounds have ended
pub drops_entered : (seat t : ℕ) (place : List ℕ) (a : Atom ℕ) (w : WholeTrial) (ts : List Ticket) (log : List (Entry ℕ)) (st : LabelledStore) (new : List Ticket) (entries : List (Entry ℕ)) (after : LabelledStore) → DropsWaiting seat t a ts log st new entries after → EndsStart seat t place a thens.Done w lasts.Dropped ts log st new entries after
drops_entered seat t place a w ts log st new entries after h =
    let x : Ticket = going_on place (activated_by seat st.next) in
    let activation : List (Entry ℕ) = record { event = Activate t st.next; seat = seat } ∷ [] in
    enters (slice_set ts t x) (log ++ activation) after (record { tickets = refl; logged = refl; store = h.store })
    (refl, h.tickets ∙ sym (set-set ts t x ended), h.logged ∙ sym (append_assoc log activation (record { event = Drop t; seat = seat } ∷ [])), refl)

-- ---- answers

-- memory was refused once it had entered
pub entered_back : {X E : Type 0} (seat t : ℕ) (place : List ℕ) (a : Atom ℕ) (ts now new : List Ticket) (log es entries : List (Entry ℕ)) (st store after : LabelledStore) (r : Result X E) → EntersGoal seat t place a ts log st now es store → OnErr r (new ≡ now) → OnErr r (entries ≡ es) → OnErr r (after ≡ store) → OnErr r (EntersOrStays seat t place a ts log st new entries after)
entered_back seat t place a ts now new log es entries st store after (Ok x) h e g s = tt
entered_back seat t place a ts now new log es entries st store after (Err x) h e g s = inr (record { tickets = e ∙ h.tickets; logged = g ∙ h.logged; store = s ∙ h.store })

-- ---- the book where the ticket is claimed

-- an atom under a label that no other has
entered_there : (st : Store) (n : ℕ) (a : Atom ℕ) → ((x : Atom ℕ) → atom_at st n ≡ Some x → ⊥) → atom_at (st ++ (n, a) ∷ []) n ≡ Some a
entered_there [] n a none = grind (arith, nat_tests)
entered_there ((m, b) ∷ st) n a none =
    let apart : m ≡ n → ⊥ = λ e. none b (grind (arith, nat_tests)) in
    grind (arith, nat_tests, entered_there st n a (λ x at. none x (grind (arith, nat_tests))))

-- a ticket that waits, with its atom, and a label that can be given
pub record IsReady (b : BookState) (t : ℕ) (a : Atom ℕ) : Type 0 where
  pub kept : IsKept b
  pub waits : state_of b.tickets t ≡ Waiting
  pub atom : Some a ≡ atom_in (ticket_at b.tickets t).goal
  pub room : b.next ≤ b.limit

claimed : (b : BookState) (seat t : ℕ) (a : Atom ℕ) → IsReady b t a → Claims b seat t (Ok b.next) (activated b seat t a)
claimed b seat t a h = inl (record { can = record { waits = h.waits; room = h.room }; atom = a; goal = plain_is (ticket_at b.tickets t).goal a h.atom; label = refl; after = refl })

claimed_kept : (b : BookState) (seat t : ℕ) (a : Atom ℕ) → IsReady b t a → IsKept (activated b seat t a)
claimed_kept b seat t a h = activated_keeps b seat t a (plain_is (ticket_at b.tickets t).goal a h.atom) h.kept

claimed_ticket : (b : BookState) (seat t : ℕ) (a : Atom ℕ) → IsReady b t a → ticket_at (activated b seat t a).tickets t ≡ activated_by seat b.next
claimed_ticket b seat t a h = ticket_same b.tickets t (activated_by seat b.next) (waiting_is b.tickets t h.waits).within

claimed_live : (b : BookState) (seat t : ℕ) (a : Atom ℕ) → IsReady b t a → HoldsLive (activated b seat t a) seat t b.next
claimed_live b seat t a h = record {
  holds = record {
    state = state_there b.tickets t (activated_by seat b.next) (λ e. absurd (let z : Waiting ≡ Unknown = sym h.waits ∙ e in cc)) (waiting_is b.tickets t h.waits).within;
    goal = ap (λ (x : Ticket). x.goal) (claimed_ticket b seat t a h);
  };
  live = (a, entered_there b.store b.next a (λ x at. absurd (let less : b.next < b.next = store_below (goal_state b) (Lawful-once Two (Instances b.rules) (events b) (goal_state b) h.kept.lawful) b.next x at in omega arith)));
}

-- its search stands where it does once trials were passed over
fresh : (seat l : ℕ) (come : Then) (k : ℕ) (s : Space) (place here : List ℕ) → Passes s k beginning place → here ≡ left_at come beginning place → going_on here (activated_by seat l) ≡ gone_over come k place (activated_by seat l)
fresh seat l thens.More zero s place here p e = ap (λ (q : List ℕ). going_on q (activated_by seat l)) (e ∙ p)
fresh seat l thens.More (suc k) s place here p e = ap (λ (q : List ℕ). going_on q (activated_by seat l)) e
fresh seat l thens.Whole k s place here p e = ap (λ (q : List ℕ). going_on q (activated_by seat l)) e
fresh seat l thens.Done k s place here p e = ap (λ (q : List ℕ). going_on q (activated_by seat l)) e

claimed_gone : (b : BookState) (seat t : ℕ) (come : Then) (k : ℕ) (a : Atom ℕ) (place here : List ℕ) (now : List Ticket) → IsReady b t a → Passes (space_of (activated b seat t a) b.next) k beginning place → here ≡ left_at come beginning place → now ≡ slice_set b.tickets t (going_on here (activated_by seat b.next))
    → now ≡ slice_set (activated b seat t a).tickets t (gone_over come k place (ticket_at (activated b seat t a).tickets t))
claimed_gone b seat t come k a place here now h p stands e =
    let n : BookState = activated b seat t a in
    let y : Ticket = activated_by seat b.next in
    e ∙ sym (set-set b.tickets t y (going_on here y)) ∙ ap (slice_set n.tickets t) (fresh seat b.next come k (space_of n b.next) place here p stands ∙ ap (gone_over come k place) (sym (claimed_ticket b seat t a h)))

-- its search is at the beginning before
claimed_passes : (b : BookState) (seat t k : ℕ) (a : Atom ℕ) (place : List ℕ) → IsReady b t a → Passes (space_of (activated b seat t a) b.next) k beginning place → Passes (space_of (activated b seat t a) b.next) k (ticket_at (activated b seat t a).tickets t).position place
claimed_passes b seat t k a place h p = subst (λ (x : Ticket). Passes (space_of (activated b seat t a) b.next) k x.position place) (sym (claimed_ticket b seat t a h)) p

-- it has passed over trials
claimed_past : (b : BookState) (seat t k : ℕ) (a : Atom ℕ) (place : List ℕ) → IsReady b t a → Passes (space_of (activated b seat t a) b.next) k beginning place → IsPast (activated b seat t a) seat t k b.next place (slice_set b.tickets t (going_on place (activated_by seat b.next)))
claimed_past b seat t k a place h p =
    is_past k (activated b seat t a) seat t b.next place (slice_set b.tickets t (going_on place (activated_by seat b.next))) (claimed_live b seat t a h) (claimed_passes b seat t k a place h p) (claimed_gone b seat t thens.More k a place place (slice_set b.tickets t (going_on place (activated_by seat b.next))) h p refl refl)

-- ---- the rounds

-- they end where the goal has entered
enters_rounds : (rules : List (Simpagation ℕ)) (plans : PlanList) (names : List (List ℕ)) (log es entries : List (Entry ℕ)) (st store after : LabelledStore) (ts lent_ts more pushed now new : List Ticket) (seat t k : ℕ) (a : Atom ℕ) (place here : List ℕ) (come : Then) (i : Instance) (binding : List (Option (Value ℕ))) (last : Last) → IsReady (book_of rules plans names log st ts) t a
    → IsLent ts lent_ts t a → Passes (space_of (activated (book_of rules plans names log st ts) seat t a) st.next) k beginning place → IsThen (space_of (activated (book_of rules plans names log st ts) seat t a) st.next) place come i binding → here ≡ left_at come beginning place → MakesFound rules come i.whole binding more → pushed ≡ lent_ts ++ more
    → EntersGoal seat t here a pushed log st now es store → EndsRounds seat t come i.whole last now es store new entries after
    → MakesRounds seat t (record { passed = k; last = last }) (activated (book_of rules plans names log st ts) seat t a) (book_of rules plans names entries after new)
enters_rounds rules plans names log es entries st store after ts lent_ts more pushed now new seat t k a place here come i binding last h out p next stands made e g ends =
    let b : BookState = book_of rules plans names log st ts in
    let y : Ticket = activated_by seat st.next in
    let gone : List Ticket = slice_set ts t (going_on place y) in
    let claim_log : List (Entry ℕ) = log ++ record { event = Activate t st.next; seat = seat } ∷ [] in
    let claim_store : LabelledStore = record { entries = st.entries ++ (st.next, a) ∷ []; next = st.next + 1; limit = st.limit } in
    let within : t < length pushed = (waiting_is pushed t (waits_before more pushed out e)).within in
    let there : ticket_at now t ≡ going_on here y = ap (λ (xs : List Ticket). ticket_at xs t) g.tickets ∙ ticket_same pushed t (going_on here y) within in
    ended_rounds rules plans names claim_log entries claim_store after (slice_set ts t y) gone more (slice_set now t (going_on place y)) new seat t k st.next place come i binding last (claimed_kept b seat t a h) (claimed_past b seat t k a place h p) next made
    (ap (λ (xs : List Ticket). slice_set xs t (going_on place y)) g.tickets ∙ set-set pushed t (going_on here y) (going_on place y) ∙ lent_set_before more pushed (going_on place y) out e)
    (ends_there seat t come i.whole last now (going_on place y) claim_log claim_store new entries after (rw g.tickets (rw (length-set pushed t (going_on here y)) within))
    (λ q. ap (going_on q) there)
    (λ is. there ∙ ap (λ (q : List ℕ). going_on q y) (stands ∙ ap (λ (c : Then). left_at c beginning place) is))
    (subst (λ (z : LabelledStore). EndsRounds seat t come i.whole last now claim_log z new entries after) g.store
    (subst (λ (z : List (Entry ℕ)). EndsRounds seat t come i.whole last now z store new entries after) g.logged ends)))

-- what is removed needn't have entered
dropped_entered : (l n : ℕ) (a : Atom ℕ) (st : Store) → drop_label l (st ++ (n, a) ∷ []) ≡ (if l == n then drop_label l st else drop_label l st ++ (n, a) ∷ [])
dropped_entered l n a [] = grind (arith, nat_tests)
dropped_entered l n a (e ∷ st) = grind (arith, nat_tests, dropped_entered l n a st)

without_entered : (ls : List ℕ) (st : Store) (n : ℕ) (a : Atom ℕ) → among ls n ≡ true → without ls (st ++ (n, a) ∷ []) ≡ without ls st
without_entered [] st n a h = absurd (cc)
without_entered (l ∷ ls) st n a h = grind (arith, nat_tests, dropped_entered l n a st, without_entered ls (drop_label l st) n a)

-- the next label isn't in the store
not_given : (next : ℕ) (st : Store) → GivenBefore next st → drop_label next st ≡ st
not_given next [] h = refl
not_given next (e ∷ st) h = let less : e.0 < next = h.0.1 in grind (arith, nat_tests, not_given next st h.1)

pub next_absent : (label : ℕ) (st spent : LabelledStore) → IsLabelled st → label ≡ st.next → spent.entries ≡ st.entries → drop_label label spent.entries ≡ spent.entries
next_absent label st spent h is same = ap₂ drop_label is same ∙ not_given st.next st.entries h.given ∙ sym same

-- nor is it where another is taken out
dropped_twice : (l m : ℕ) (st : Store) → drop_label l (drop_label m st) ≡ drop_label m (drop_label l st)
dropped_twice l m [] = refl
dropped_twice l m (e ∷ st) = grind (arith, nat_tests, dropped_twice l m st)

pub others_out : (ls : List ℕ) (i absent : ℕ) (st new old : Store) → i < length ls → new ≡ drop_label (get_or ls i 0) st → drop_label absent st ≡ st → without (drop i ls) st ≡ without ls old → (without (drop (i + 1) ls) new ≡ without ls old) × (drop_label absent new ≡ new)
others_out ls i absent st new old within is none left = (
  ap (without (drop (i + 1) ls)) is ∙ sym (ap (λ (xs : List ℕ). without xs st) (drop_more ls i 0 within)) ∙ left,
  ap (drop_label absent) is ∙ dropped_twice absent (get_or ls i 0) st ∙ ap (drop_label (get_or ls i 0)) none ∙ sym is,
)

-- a firing of a ticket that is gone on, under the label of its search, which is removed
fires_gone_on : (seat t l : ℕ) (rule : Simpagation ℕ) (i : Instance) (binding : List (Option (Value ℕ))) (place : List ℕ) (a : Atom ℕ) (ts lent_ts more pushed : List Ticket) (log : List (Entry ℕ)) (st : LabelledStore) (new : List Ticket) (entries : List (Entry ℕ)) (after : LabelledStore) → i.whole.past.label ≡ l → among i.whole.removed i.whole.past.label ≡ true
    → IsLent ts lent_ts t a → MakesBody rule.body binding more → pushed ≡ lent_ts ++ more → FiresWaiting seat t i.whole pushed log st new entries after
    → FiresWhole seat t rule i.whole binding (record { first = length ts; count = length more; active_lives = false }) (slice_set ts t (going_on place (activated_by seat l))) (log ++ record { event = Activate t l; seat = seat } ∷ []) new entries
fires_gone_on seat t l rule i binding place a ts lent_ts more pushed log st new entries after label own out makes e h =
    let x : Ticket = going_on place (activated_by seat l) in
    let entry : Entry ℕ = record { event = Fire t i.whole.number i.whole.kept i.whole.removed; seat = seat } in
    record {
      first = sym (length-set ts t x);
      lives = ap not (sym own);
      logged = h.logged ∙ ap (λ (z : ℕ). log ++ record { event = Activate t z; seat = seat } ∷ entry ∷ []) label ∙ sym (append_assoc log (record { event = Activate t l; seat = seat } ∷ []) (entry ∷ []));
      tickets = λ body under. (
        ap length (makes body under) ∙ length-map body waiting,
        h.tickets ∙ lent_set_before more pushed ended out e ∙ ap₂ (λ (xs ys : List Ticket). xs ++ ys) (sym (set-set ts t x ended)) (makes body under),
      );
    }

-- they end where what was found has fired
fires_rounds : (rules : List (Simpagation ℕ)) (plans : PlanList) (names : List (List ℕ)) (log entries : List (Entry ℕ)) (st after : LabelledStore) (ts lent_ts more pushed new : List Ticket) (seat t k : ℕ) (a : Atom ℕ) (place : List ℕ) (i : Instance) (binding : List (Option (Value ℕ))) → IsReady (book_of rules plans names log st ts) t a
    → IsLent ts lent_ts t a → Passes (space_of (activated (book_of rules plans names log st ts) seat t a) st.next) k beginning place → IsWholeNext (space_of (activated (book_of rules plans names log st ts) seat t a) st.next) place i.whole binding → MakesFound rules thens.Whole i.whole binding more → pushed ≡ lent_ts ++ more
    → among i.whole.removed i.whole.past.label ≡ true → FiresWaiting seat t i.whole pushed log st new entries after
    → MakesRounds seat t (record { passed = k; last = lasts.Fired }) (activated (book_of rules plans names log st ts) seat t a) (book_of rules plans names entries after new)
fires_rounds rules plans names log entries st after ts lent_ts more pushed new seat t k a place i binding h out p next made e own f =
    let b : BookState = book_of rules plans names log st ts in
    let claim : BookState = activated (book_of rules plans names log st ts) seat t a in
    let label : i.whole.past.label ≡ st.next = next.label_is in
    let now : List Ticket = slice_set ts t (going_on place (activated_by seat st.next)) in
    subst (λ (z : LabelledStore). MakesRounds seat t (record { passed = k; last = lasts.Fired }) claim (book_of rules plans names entries z new))
    (ap (λ (z : Store). record { entries = z; next = st.next + 1; limit = st.limit }) (without_entered i.whole.removed st.entries st.next a (ap (among i.whole.removed) (sym label) ∙ own)) ∙ sym f.store)
    (fired_rounds claim seat t k st.next place made.0 i.whole binding (record { first = length ts; count = length more; active_lives = false }) now new entries (claimed_kept b seat t a h) (claimed_past b seat t k a place h p) next made.1
    (fires_gone_on seat t st.next made.0 i binding place a ts lent_ts more pushed log st new entries after label own out made.2 e f))

-- the rounds, however they end
start_makes : (rules : List (Simpagation ℕ)) (plans : PlanList) (names : List (List ℕ)) (log entries : List (Entry ℕ)) (st after : LabelledStore) (ts lent_ts more pushed new : List Ticket) (seat t : ℕ) (a : Atom ℕ) (here : List ℕ) (come : Passed) (i : Instance) (binding : List (Option (Value ℕ))) (last : Last) → IsReady (book_of rules plans names log st ts) t a
    → IsLent ts lent_ts t a → PassesTo (older rules plans (st.entries ++ (st.next, a) ∷ []) st.next) come i binding beginning here → MakesFound rules come.then i.whole binding more → pushed ≡ lent_ts ++ more → EndsStart seat t here a come.then i.whole last pushed log st new entries after
    → MakesRounds seat t (record { passed = come.count; last = last }) (activated (book_of rules plans names log st ts) seat t a) (book_of rules plans names entries after new)
start_makes rules plans names log entries st after ts lent_ts more pushed new seat t a here come i binding last h out over made e (fires is own fired f) =
    makes_same fired refl (fires_rounds rules plans names log entries st after ts lent_ts more pushed new seat t come.count a over.after i binding h out over.passes (subst (λ c. IsThen (older rules plans (st.entries ++ (st.next, a) ∷ []) st.next) over.after c i binding) is over.next) (subst (λ c. MakesFound rules c i.whole binding more) is made) e own f)
start_makes rules plans names log entries st after ts lent_ts more pushed new seat t a here come i binding last h out over made e (enters now es store g ends) =
    enters_rounds rules plans names log es entries st store after ts lent_ts more pushed now new seat t come.count a over.after here come.then i binding last h out over.passes over.next over.stands made e g ends

-- the claim and the rounds
pub started : (rules : List (Simpagation ℕ)) (plans : PlanList) (names : List (List ℕ)) (log entries : List (Entry ℕ)) (st after : LabelledStore) (ts lent_ts pushed new : List Ticket) (seat t : ℕ) (a : Atom ℕ) (search : SearchState) (here : List ℕ) (come : Passed) (i : Instance) (w : WholeTrial) (last : Last) → IsReady (book_of rules plans names log st ts) t a → IsLent ts lent_ts t a
    → search ≡ record { label = st.next; place = beginning } → PassesBefore (older rules plans (st.entries ++ (st.next, a) ∷ []) search.label) come i search.place here lent_ts pushed → w ≡ i.whole → EndsStart seat t here a come.then w last pushed log st new entries after
    → StartsRounds seat t (record { passed = come.count; last = last }) (book_of rules plans names log st ts) (book_of rules plans names entries after new)
started rules plans names log entries st after ts lent_ts pushed new seat t a search here come i w last h out begun found same ends =
    let p = subst (λ (z : SearchState). PassesBefore (older rules plans (st.entries ++ (st.next, a) ∷ []) z.label) come i z.place here lent_ts pushed) begun found in record {
      label = st.next;
      claimed = activated (book_of rules plans names log st ts) seat t a;
      claims = claimed (book_of rules plans names log st ts) seat t a h;
      makes = start_makes rules plans names log entries st after ts lent_ts p.more pushed new seat t a here come i p.binding last h out p.over p.made p.tickets
          (subst (λ (v : WholeTrial). EndsStart seat t here a come.then v last pushed log st new entries after) same ends);
    }

-- a ticket that is activated doesn't wait
held_not_waiting : (ts : List Ticket) (t seat l : ℕ) (place : List ℕ) → state_of ts t ≡ Waiting → state_of (slice_set ts t (going_on place (activated_by seat l))) t ≡ Waiting → ⊥
held_not_waiting ts t seat l place waits is =
    let z : Held seat ≡ Waiting = sym (state_there ts t (going_on place (activated_by seat l)) (λ e. absurd (let y : Waiting ≡ Unknown = sym waits ∙ e in cc)) (waiting_is ts t waits).within) ∙ is in
    cc

-- memory was refused: the tickets of the body are taken back, and the atom is put back where its ticket waits
pub started_fewer : (rules : List (Simpagation ℕ)) (plans : PlanList) (names : List (List ℕ)) (log entries : List (Entry ℕ)) (st after : LabelledStore) (ts lent_ts pushed left cut new : List Ticket) (seat t most first : ℕ) (a : Atom ℕ) (search : SearchState) (here : List ℕ) (come : Passed) (i : Instance) → IsReady (book_of rules plans names log st ts) t a → IsLent ts lent_ts t a
    → search ≡ record { label = st.next; place = beginning } → PassesBefore (older rules plans (st.entries ++ (st.next, a) ∷ []) search.label) come i search.place here lent_ts pushed → come.count < most → EntersOrStays seat t here a pushed log st left entries after → cut ≡ take first left → first ≡ length lent_ts
    → (state_of cut t ≡ Waiting → new ≡ slice_set cut t (with_atom a (ticket_at cut t))) → (state_of cut t ≢ Waiting → new ≡ cut)
    → StartsFewer seat t most (book_of rules plans names log st ts) (book_of rules plans names entries after new)
started_fewer rules plans names log entries st after ts lent_ts pushed left cut new seat t most first a search here come i h out begun found less (inl same) back f put kept =
    let now : cut ≡ lent_ts = rest_back lent_ts left cut first (found.more, same.0 ∙ found.tickets) back f in
    inl (book_same rules plans names same.1 same.2 (put (ap (λ (xs : List Ticket). state_of xs t) now ∙ waits_lent out) ∙ ap (λ (xs : List Ticket). slice_set xs t (with_atom a (ticket_at xs t))) now ∙ put_back out))
started_fewer rules plans names log entries st after ts lent_ts pushed left cut new seat t most first a search here come i h out begun found less (inr g) back f put kept =
    let b : BookState = book_of rules plans names log st ts in
    let claim : BookState = activated b seat t a in
    let over = (subst (λ (z : SearchState). PassesBefore (older rules plans (st.entries ++ (st.next, a) ∷ []) z.label) come i z.place here lent_ts pushed) begun found).over in
    let gone : List Ticket = slice_set ts t (going_on here (activated_by seat st.next)) in
    let as_long : first ≡ length gone = f ∙ ap length out.lent_is ∙ length-set ts t (with_atom out.other (ticket_at ts t)) ∙ sym (length-set ts t (going_on here (activated_by seat st.next))) in
    let now : cut ≡ gone = rest_back gone left cut first (found.more, g.tickets ∙ lent_set_before found.more pushed (going_on here (activated_by seat st.next)) out found.tickets) back as_long in
    inr (record {
      label = st.next;
      claimed = claim;
      claims = claimed b seat t a h;
      makes = subst (MakesFewer seat t most claim) (sym (book_same rules plans names g.logged g.store (kept (λ is. held_not_waiting ts t seat st.next here out.waits (ap (λ (xs : List Ticket). state_of xs t) (sym now) ∙ is)) ∙ now)))
          (gone_rounds come.then come.count claim seat t st.next most over.after gone (claimed_live b seat t a h) (claimed_passes b seat t come.count a over.after h over.passes) (claimed_gone b seat t come.then come.count a over.after here gone h over.passes over.stands refl) less);
    })

-- the body was refused
pub stays_as_is : (rules : List (Simpagation ℕ)) (plans : PlanList) (names : List (List ℕ)) (log : List (Entry ℕ)) (st : LabelledStore) (ts lent_ts left new : List Ticket) (seat t most first : ℕ) (a : Atom ℕ) → IsLent ts lent_ts t a → left ≡ lent_ts → first ≡ length lent_ts → (state_of (take first left) t ≡ Waiting → new ≡ slice_set (take first left) t (with_atom a (ticket_at (take first left) t)))
    → StartsFewer seat t most (book_of rules plans names log st ts) (book_of rules plans names log st new)
stays_as_is rules plans names log st ts lent_ts left new seat t most first a out e f put =
    let here : take first left ≡ lent_ts = rest_back lent_ts left (take first left) first ([], e ∙ sym (append-nil lent_ts)) refl f in
    inl (book_same rules plans names refl refl (put (ap (λ (xs : List Ticket). state_of xs t) here ∙ waits_lent out) ∙ ap (λ (xs : List Ticket). slice_set xs t (with_atom a (ticket_at xs t))) here ∙ put_back out))

-- ---- what a book keeps

pub starts_keep : (seat t : ℕ) (r : Rounds) (b n : BookState) → StartsRounds seat t r b n → IsKept b → IsKept n
starts_keep seat t r b n h kept = rounds_keep seat t r h.claimed n h.makes (claims_keep b h.claimed seat t (Ok h.label) h.claims kept)

pub starts_fewer_keep : (seat t most : ℕ) (b n : BookState) → StartsFewer seat t most b n → IsKept b → IsKept n
starts_fewer_keep seat t most b n (inl same) kept = subst IsKept (sym same) kept
starts_fewer_keep seat t most b n (inr h) kept = fewer_keep seat t most h.claimed n h.makes (claims_keep b h.claimed seat t (Ok h.label) h.claims kept)

-- ---- the limit of the labels, and that there are perhaps more trials where the last of the rounds passed over one

pub ends_show : (seat t : ℕ) (come : Then) (w : WholeTrial) (last : Last) (ts : List Ticket) (log : List (Entry ℕ)) (st : LabelledStore) (new : List Ticket) (entries : List (Entry ℕ)) (after : LabelledStore) → EndsRounds seat t come w last ts log st new entries after → (after.limit ≡ st.limit) × (last ≡ lasts.Passed → come ≡ thens.More)
ends_show seat t thens.More w last ts log st new entries after h = (ap (λ (z : LabelledStore). z.limit) h.3, λ e. refl)
ends_show seat t thens.Done w last ts log st new entries after h = (ap (λ (z : LabelledStore). z.limit) h.3, λ e. let d : last ≡ lasts.Dropped = h.0 in absurd (cc))
ends_show seat t thens.Whole w last ts log st new entries after h = (ap (λ (z : LabelledStore). z.limit) h.1.store, λ e. let f : last ≡ lasts.Fired = h.0 in absurd (cc))

pub starts_show : (seat t : ℕ) (place : List ℕ) (a : Atom ℕ) (come : Then) (w : WholeTrial) (last : Last) (ts : List Ticket) (log : List (Entry ℕ)) (st : LabelledStore) (new : List Ticket) (entries : List (Entry ℕ)) (after : LabelledStore) → EndsStart seat t place a come w last ts log st new entries after → (after.limit ≡ st.limit) × (last ≡ lasts.Passed → come ≡ thens.More)
starts_show seat t place a come w last ts log st new entries after (fires is own fired f) = (ap (λ (z : LabelledStore). z.limit) f.store, λ e. absurd (cc))
starts_show seat t place a come w last ts log st new entries after (enters now es store g ends) =
    let show = ends_show seat t come w last now es store new entries after ends in
    (show.0 ∙ ap (λ (z : LabelledStore). z.limit) g.store, show.1)

pub stays_limit : (seat t : ℕ) (place : List ℕ) (a : Atom ℕ) (ts : List Ticket) (log : List (Entry ℕ)) (st : LabelledStore) (new : List Ticket) (entries : List (Entry ℕ)) (after : LabelledStore) → EntersOrStays seat t place a ts log st new entries after → after.limit ≡ st.limit
stays_limit seat t place a ts log st new entries after (inl same) = ap (λ (z : LabelledStore). z.limit) same.2
stays_limit seat t place a ts log st new entries after (inr g) = ap (λ (z : LabelledStore). z.limit) g.store

-- ---- a claim

pub activates : (rules : List (Simpagation ℕ)) (plans : PlanList) (names : List (List ℕ)) (log entries : List (Entry ℕ)) (st after : LabelledStore) (ts now new : List Ticket) (seat t l : ℕ) (a : Atom ℕ) → IsLent ts now t a → st.next ≤ st.limit → l ≡ st.next → EntersGoal seat t beginning a now log st new entries after → Activates (book_of rules plans names log st ts) seat t l (book_of rules plans names entries after new)
activates rules plans names log entries st after ts now new seat t l a out room label h = record {
  can = record { waits = out.waits; room = room };
  atom = a;
  goal = plain_is (ticket_at ts t).goal a out.atom;
  label = label;
  after = book_same rules plans names h.logged h.store (h.tickets ∙ lent_set (activated_by seat st.next) out);
}
