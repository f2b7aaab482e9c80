-- What a call finds of a ticket that is claimed or held, of its search and of the trial that comes next, and what the book keeps.
use Rattle.std.proofs.Common.{◌≡◌, ℕ, ◌<◌, List, length, Bool, true, false, Option, Some, None, slice_set, Ok, refl, sym, ◌∙◌, ap, subst, ◌≢◌, ◌⊎◌, inl, inr, ◌↔◌, true≢false, [], ◌∷◌, ◌++◌, MatchOption, is_some, IsTrue, ap₂, Bor, Err}
use Rattle.std.proofs.lemmas.List.{set-set}
use Rattle.std.specs.Option.{option_copied}
use Rattle.std.proofs.lemmas.Option.{none-some}
use Rattle.chr_value.specs.Atoms.{Atom}
use Rattle.chr_value.proofs.Chosen.{some_is}
use Rattle.chr_log.specs.Events.{Entry, Drop}
use Rattle.chr_model.specs.Goals.{Numbered, Goal}
use Rattle.chr_model.specs.Stores.{Store, atom_at}
use Rattle.chr_search.specs.Trials.{IsNext, NoneLeft}
use Rattle.chr_search.specs.Reach.{SearchState}
use Rattle.chr_search.specs.Verdicts.{Trial, position, IsFormed, IsTrialOf}
use Rattle.chr_search.specs.Answers.{IsToldNext, after_judging, IsAnswer}
use Rattle.chr_search.specs.Judged.{Judgement, IsVerdict}
use Rattle.chr_search.specs.declared.judged.Verdict.TheVariants.{Whole}
use Rattle.chr_search.specs.declared.search.Ask.{Ask}
use Rattle.chr_search.specs.declared.search.Ask.TheVariants as answers
use Rattle.chr_calls.specs.Turns.{Turn, Next, Done, Gone}
use Rattle.chr_calls.specs.Tickets.{Ticket, ticket_at, with_candidate, Holds, ended, going_on, state_of, IsClaimable, waits, rests, IsActive, search_with, search_in}
use Rattle.chr_calls.specs.Books.{BookState, space_of, with_tickets, with_ticket, IsLive}
use Rattle.chr_calls.specs.Calls.{HoldsLive, HoldsCandidate, IsNextTrial, Turns, with_candidate_of, MayBeDropped, after_judgement}
use Rattle.chr_calls.proofs.Tickets.{ticket_same, states_stand, numbered_within, held_label, held_is, kept_forgotten}
use Rattle.chr_calls.proofs.OneNext.{next_same, next_live}
use Rattle.chr_calls.specs.declared.answers.TicketState.{TicketState}
use Rattle.chr_calls.specs.Headline.{IsKept}
use Rattle.chr_calls.proofs.Drops.{drops_keep}
use Rattle.chr_calls.proofs.Turning.{turns_keep, reports_keep}
use Rattle.chr_calls.specs.declared.answers.TurnFault.{TurnFault}
use Rattle.chr_calls.specs.declared.answers.TicketState.TheVariants as states
use Rattle.chr_calls.specs.declared.answers.Dropping.TheVariants as dropping
use Rattle.chr_calls.specs.Turns as turn
use Rattle.chr_calls.specs.declared.answers.Turn.{Turn as CodeTurn}
use Rattle.chr_calls.specs.declared.answers.Turn.TheVariants as turns
use Rattle.chr_calls.specs.declared.answers.TurnFault.TheVariants as turn_fault
use Rattle.chr_book.specs.Books.{IsHeldSearch, HasTrialLeft}
use Rattle.chr_book.specs.Given.{ComesNext, IsAskedNext, IsToJudge, TellsCandidate}
use Rattle.chr_book.specs.Passed.{IsHeldLive}
use Rattle.chr_book.specs.Asked.{IsLiveSearch, FindsLive, IsTurn}

-- ---- whether a trial comes next

pub comes : (b : BookState) (seat t : ℕ) (s : SearchState) (trial : Trial) → IsHeldSearch b.tickets seat t s → IsFormed trial → IsNext (space_of b s.label) s.place (position trial) → IsTrialOf b.rules b.plans b.store trial → ComesNext b seat t trial
comes b seat t s trial held formed next is =
    let there : IsNextTrial b t s.label trial = record { next = subst (λ place. IsNext (space_of b s.label) place (position trial)) held.place next; is = is; formed = formed } in
    record { label = s.label; holds = record { holds = held.holds; live = next_live b t s.label trial there }; is = there }

asked_in : (b : BookState) (seat t : ℕ) (s : SearchState) (trial : Trial) (told : Option Bool) → IsHeldSearch b.tickets seat t s → IsFormed trial → IsToldNext (space_of b s.label) s.place trial told → IsAskedNext b seat t trial told
asked_in b seat t s trial None held formed none = λ other n turned.
    let l = held_label b.tickets t turned.0 s.label turned.1.holds.goal held.holds.goal in
    let next : IsNextTrial b t s.label other = subst (λ z. IsNextTrial b t z other) l turned.2 in
    (subst (NoneLeft (space_of b s.label)) held.place none) next.next.more next.next.beyond
asked_in b seat t s trial (Some true) held formed next = comes b seat t s trial held formed next.0 next.1
asked_in b seat t s trial (Some false) held formed next = (next.0, next.2, comes b seat t s next.0 held next.1 next.3 next.4)

-- what a search tells of it
pub asked_next : (b now : BookState) → b ≡ now → (seat t : ℕ) (s : SearchState) (trial : Trial) (told : Option Bool) → IsHeldSearch now.tickets seat t s → IsFormed trial → IsToldNext (space_of b s.label) s.place trial told → IsAskedNext now seat t trial told
asked_next b now e seat t s trial told held formed h =
    subst (λ (n : BookState). IsAskedNext n seat t trial told) e (asked_in b seat t s trial told (subst (λ (n : BookState). IsHeldSearch n.tickets seat t s) (sym e) held) formed h)

-- one that comes next is the one that the line of trial gives
pub one_next : (b n : BookState) (seat t : ℕ) (trial other : Trial) → ComesNext b seat t trial → Turns b seat t (Ok (Next other)) n → other ≡ trial
one_next b n seat t trial other h turned =
    let l = held_label b.tickets t turned.0 h.label turned.1.holds.goal h.holds.holds.goal in
    next_same b t h.label other trial (subst (λ z. IsNextTrial b t z other) l turned.2) h.is

-- ---- a ticket that is set

-- it is held as before, where it keeps its goal and its holder
pub holds_set : (ts : List Ticket) (seat t l : ℕ) (x : Ticket) → x.goal ≡ (ticket_at ts t).goal → x.holder ≡ (ticket_at ts t).holder → Holds ts seat t l → Holds (slice_set ts t x) seat t l
holds_set ts seat t l x goal holder h = record {
  state = states_stand ts t t x goal holder ∙ h.state;
  goal = ap (λ (y : Ticket). y.goal) (ticket_same ts t x (numbered_within ts t l h.goal)) ∙ goal ∙ h.goal;
}

-- it is set twice, the second time to what is made of it
pub set_twice : (ts : List Ticket) (t : ℕ) (x : Ticket) (f : Ticket → Ticket) → t < length ts → slice_set (slice_set ts t x) t (f (ticket_at (slice_set ts t x) t)) ≡ slice_set ts t (f x)
set_twice ts t x f within = ap (λ (y : Ticket). slice_set (slice_set ts t x) t (f y)) (ticket_same ts t x within) ∙ set-set ts t x (f x)

-- its search is at a place
abbrev pub at_place : BookState → ℕ → List ℕ → BookState
at_place b t place = with_ticket b t (going_on place (ticket_at b.tickets t))

pub place_is : (b : BookState) (t l : ℕ) (place : List ℕ) → (ticket_at b.tickets t).goal ≡ Numbered l → (ticket_at (at_place b t place).tickets t).position ≡ place
place_is b t l place g = ap (λ (z : Ticket). z.position) (ticket_same b.tickets t (going_on place (ticket_at b.tickets t)) (numbered_within b.tickets t l g))

pub holds_at : (b : BookState) (seat t l : ℕ) (place : List ℕ) → Holds b.tickets seat t l → Holds (at_place b t place).tickets seat t l
holds_at b seat t l place h = holds_set b.tickets seat t l (going_on place (ticket_at b.tickets t)) refl refl h

-- ---- the line of trial

pub next_turned : (b : BookState) (seat t : ℕ) (trial : Trial) → ComesNext b seat t trial → Turns b seat t (Ok (Next trial)) (with_candidate_of b t (Some trial))
next_turned b seat t trial h = (h.label, h.holds, h.is, refl)

-- a seat that was told the trial holds it as the candidate
pub now_candidate : (b : BookState) (seat t : ℕ) (trial : Trial) → ComesNext b seat t trial → HoldsCandidate (with_candidate_of b t (Some trial)) seat t trial
now_candidate b seat t trial h =
    let x : Ticket = with_candidate (Some trial) (ticket_at b.tickets t) in
    record {
      held = (holds_set b.tickets seat t h.label x refl refl h.holds.holds).state;
      candidate = ap (λ (y : Ticket). y.candidate) (ticket_same b.tickets t x (numbered_within b.tickets t h.label h.holds.holds.goal));
    }

-- one that it was told to be
pub told_candidate : (b : BookState) (seat t : ℕ) {shown trial : Trial} {is : Bool} → TellsCandidate b seat t shown (Some is) → is ≡ true → shown ≡ trial → HoldsCandidate b seat t trial
told_candidate b seat t {shown} h e same = subst (HoldsCandidate b seat t) same (subst (λ (told : Bool). TellsCandidate b seat t shown (Some told)) e h)

-- whatever the candidate was, what is made of the ticket is the same
pub with_again : (b : BookState) (t l : ℕ) (c : Option Trial) (f : Ticket → Ticket) → (ticket_at b.tickets t).goal ≡ Numbered l → with_ticket (with_candidate_of b t c) t (f (ticket_at (with_candidate_of b t c).tickets t)) ≡ with_ticket b t (f (with_candidate c (ticket_at b.tickets t)))
with_again b t l c f goal = ap (with_tickets b) (set_twice b.tickets t (with_candidate c (ticket_at b.tickets t)) f (numbered_within b.tickets t l goal))

-- and the line of trial answers the same, if memory doesn't run out
pub turned_again : (b n : BookState) (seat t : ℕ) (c : Option Trial) (told : Turn) → Turns b seat t (Ok told) n → Turns (with_candidate_of b t c) seat t (Ok told) n
turned_again b n seat t c told h = again told h
  where
    x : Ticket
    x = with_candidate c (ticket_at b.tickets t)

    holds : (l : ℕ) → HoldsLive b seat t l → HoldsLive (with_candidate_of b t c) seat t l
    holds l h = record { holds = holds_set b.tickets seat t l x refl refl h.holds; live = h.live }

    place : (l : ℕ) → Holds b.tickets seat t l → (ticket_at b.tickets t).position ≡ (ticket_at (slice_set b.tickets t x) t).position
    place l h = sym (ap (λ (y : Ticket). y.position) (ticket_same b.tickets t x (numbered_within b.tickets t l h.goal)))

    again : (told : Turn) → Turns b seat t (Ok told) n → Turns (with_candidate_of b t c) seat t (Ok told) n
    again (Next trial) h = (h.0, holds h.0 h.1, record { next = subst (λ p. IsNext (space_of b h.0) p (position trial)) (place h.0 h.1.holds) h.2.next; is = h.2.is; formed = h.2.formed }, h.3 ∙ sym (with_again b t h.0 c (with_candidate (Some trial)) h.1.holds.goal))
    again Done h = (h.0, holds h.0 h.1, subst (NoneLeft (space_of b h.0)) (place h.0 h.1.holds) h.2, h.3 ∙ sym (with_again b t h.0 c (with_candidate None) h.1.holds.goal))
    again Gone h = (h.0, holds_set b.tickets seat t h.0 x refl refl h.1, h.2, h.3 ∙ sym (with_again b t h.0 c (with_candidate None) h.1.goal))

-- ---- what can be claimed

pub is_claimable : (s : TicketState) → (s ≡ states.Waiting) ⊎ (s ≡ states.Resting) → IsClaimable s
is_claimable s (inl e) = subst IsClaimable (sym e) waits
is_claimable s (inr e) = subst IsClaimable (sym e) rests

pub not_claimable : (s : TicketState) → (s ≡ states.Waiting → ⊥) → (s ≡ states.Resting → ⊥) → IsClaimable s → ⊥
not_claimable _ w r waits = w refl
not_claimable _ w r rests = r refl

-- ---- the atom of a label

-- it is live where the store shows one
pub live_there : (store : Store) (l : ℕ) (found : Option (Bor (Atom ℕ))) → option_copied found ≡ atom_at store l → IsTrue (is_some found) ↔ ((a : Atom ℕ) × (atom_at store l ≡ Some a))
live_there store l None e = (λ some. absurd (cc), λ live. absurd (none-some live.0 (e ∙ live.1)))
live_there store l (Some x) e = (λ some. (x.now, sym e), λ live. refl)

-- ---- the search of a ticket that is held

pub held_in : (b now : BookState) → b ≡ now → (seat t : ℕ) (s : SearchState) → IsHeldSearch now.tickets seat t s → IsHeldSearch b.tickets seat t s
held_in b now e seat t s h = subst (λ (n : BookState). IsHeldSearch n.tickets seat t s) (sym e) h

-- an active ticket shows its search
pub shows_search : (ts : List Ticket) (t : ℕ) (found : Option (Bor SearchState)) → IsActive ts t → option_copied found ≡ search_in (ticket_at ts t) → found ≡ None → ⊥
shows_search ts t found (l, at) shown none =
    let s : SearchState = record { label = l; place = (ticket_at ts t).position } in
    let z : None ≡ Some s = sym (ap option_copied none) ∙ shown ∙ ap (λ (g : Goal). search_with g (ticket_at ts t).position) at in
    cc

-- it has a trial left where one was found
pub left_is : (b now : BookState) → b ≡ now → (s : SearchState) (found : Option (List ℕ)) (r : Bool) → r ≡ is_some found → IsLive b s.label → MatchOption found (NoneLeft (space_of b s.label) s.place) (IsNext (space_of b s.label) s.place) → IsTrue r ↔ HasTrialLeft now s
left_is b now e s found r is live h =
    subst (λ (n : BookState). IsTrue r ↔ HasTrialLeft n s) e (subst (λ q. IsTrue q ↔ HasTrialLeft b s) (sym is) (found_is found h))
  where
    found_is : (o : Option (List ℕ)) → MatchOption o (NoneLeft (space_of b s.label) s.place) (IsNext (space_of b s.label) s.place) → IsTrue (is_some o) ↔ HasTrialLeft b s
    found_is None none = (λ i. absurd (cc), λ i. absurd (i.left none))
    found_is (Some place) next = (λ i. record { live = live; left = λ none. none next.more next.beyond }, λ i. refl)

-- ---- what is kept

-- where one ticket is set, whose candidate is forgotten
pub forgotten_set : (b : BookState) (t : ℕ) (x : Ticket) (tickets : List Ticket) → tickets ≡ slice_set b.tickets t x → x.goal ≡ (ticket_at b.tickets t).goal → x.position ≡ (ticket_at b.tickets t).position → x.candidate ≡ None → IsKept b → IsKept (with_tickets b tickets)
forgotten_set b t x tickets e goal place none k = subst (λ ts. IsKept (with_tickets b ts)) (sym e) (kept_forgotten b t x goal place none k)

-- where a goal is dropped that has no trial left
abbrev pub with_dropped : BookState → List (Entry ℕ) → List Ticket → BookState
with_dropped b log tickets = record { rules = b.rules; plans = b.plans; names = b.names; limit = b.limit; log = log; store = b.store; next = b.next; tickets = tickets }

pub dropped_keeps : (b now : BookState) → b ≡ now → (seat t : ℕ) (s : SearchState) (entries : List (Entry ℕ)) (tickets : List Ticket) → IsHeldSearch now.tickets seat t s → (HasTrialLeft now s → IsTrue false) → entries ≡ b.log ++ record { event = Drop t; seat = seat } ∷ [] → tickets ≡ slice_set b.tickets t ended → IsKept b → IsKept (with_dropped b entries tickets)
dropped_keeps b now e seat t s entries tickets h not_left log ts k =
    let held = held_in b now e seat t s h in
    let none : HasTrialLeft b s → ⊥ = λ left. true≢false (sym (not_left (subst (λ (n : BookState). HasTrialLeft n s) e left))) in
    let done : MayBeDropped b t s.label = λ live. subst (NoneLeft (space_of b s.label)) held.place (λ other beyond. none (record { live = live; left = λ all. all other beyond })) in
    drops_keep b (with_dropped b entries tickets) seat t (Ok dropping.Dropped) (s.label, held.holds, done, ap₂ (with_dropped b) log ts) k

-- where the search moves on after a judged trial, which isn't whole
pub judged_keeps : (b n : BookState) (seat t : ℕ) (j : Judgement) → IsToJudge b seat t j.trial → IsVerdict j.trial j.verdict → j.verdict ≢ Whole → n ≡ after_judgement b t j → IsKept b → IsKept n
judged_keeps b n seat t j (inl h) right ne after k = reports_keep b n seat t j (Ok tt) right (h, ne, after) k
judged_keeps b n seat t j (inr h) right ne after k =
    let asked : BookState = with_candidate_of b t (Some j.trial) in
    reports_keep asked n seat t j (Ok tt) right (now_candidate b seat t j.trial h, ne, after ∙ sym (with_again b t h.label (Some j.trial) (going_on (after_judging j)) h.holds.holds.goal))
    (turns_keep b asked seat t (Ok (turn.Next j.trial)) (next_turned b seat t j.trial h) k)

pub moved_keeps : (b now : BookState) → b ≡ now → (t : ℕ) (j : Judgement) (tickets : List Ticket) → (seat : ℕ) × IsToJudge now seat t j.trial → IsVerdict j.trial j.verdict → j.verdict ≢ Whole → tickets ≡ slice_set b.tickets t (going_on (after_judging j) (ticket_at b.tickets t)) → IsKept b → IsKept (with_tickets b tickets)
moved_keeps b now e t j tickets (seat, h) right ne ts k =
    judged_keeps b (with_tickets b tickets) seat t j (subst (λ (n : BookState). IsToJudge n seat t j.trial) (sym e) h) right ne (ap (with_tickets b) ts) k

-- its ticket is active
pub active_there : (ts : List Ticket) (seat t : ℕ) → state_of ts t ≡ states.Held seat → IsActive ts t
active_there ts seat t h = let i = held_is ts t seat h in (i.label, i.goal)

judged_active : (b : BookState) (seat t : ℕ) (trial : Trial) → IsToJudge b seat t trial → IsActive b.tickets t
judged_active b seat t trial (inl h) = active_there b.tickets seat t h.held
judged_active b seat t trial (inr h) = (h.label, h.holds.holds.goal)

pub moved_active : (b now : BookState) → b ≡ now → (t : ℕ) (trial : Trial) → (seat : ℕ) × IsToJudge now seat t trial → IsActive b.tickets t
moved_active b now e t trial (seat, h) = subst (λ (n : BookState). IsActive n.tickets t) (sym e) (judged_active now seat t trial h)

-- ---- what is live

pub holds_live : (b now : BookState) → b ≡ now → (seat t : ℕ) (s : SearchState) → IsHeldSearch now.tickets seat t s → IsLive b s.label → HoldsLive now seat t s.label
holds_live b now e seat t s h live = subst (λ (n : BookState). HoldsLive n seat t s.label) e (record { holds = (held_in b now e seat t s h).holds; live = live })

-- the seat holds a ticket whose goal is live where an atom is found under its label
pub found_live : (b now : BookState) → b ≡ now → (seat t given : ℕ) (s : SearchState) (found : Option (Bor (Atom ℕ))) → IsHeldSearch now.tickets seat t s → option_copied found ≡ atom_at b.store given → given ≡ s.label → IsTrue (is_some found) ↔ IsHeldLive now seat t
found_live b now e seat t given s found h is same =
    let live = live_there b.store s.label found (is ∙ ap (atom_at b.store) same) in (
      λ some. (s.label, holds_live b now e seat t s h (live.0 some)),
      λ there.
          let label : there.0 ≡ s.label = held_label now.tickets t there.0 s.label there.1.holds.goal h.holds.goal in
          live.1 (subst (λ (n : BookState). IsLive n s.label) (sym e) (subst (IsLive now) label there.1.live)),
    )

-- ---- the search of a live goal

-- where an atom is found under its label
pub live_search : (b now : BookState) → b ≡ now → (seat t given : ℕ) (s : SearchState) (found : Option (Bor (Atom ℕ))) → IsHeldSearch now.tickets seat t s → is_some found ≡ true → option_copied found ≡ atom_at b.store given → given ≡ s.label → IsLiveSearch now seat t s
live_search b now e seat t given s found h some is same = record { holds = holds_live b now e seat t s h ((live_there b.store s.label found (is ∙ ap (atom_at b.store) same)).0 some); place = h.place }

-- what was found, under another name
pub found_as : (b : BookState) (seat t : ℕ) {found other : Option (Bor SearchState)} → FindsLive b seat t (Ok found) → found ≡ other → FindsLive b seat t (Ok other)
found_as b seat t h is = subst (λ (o : Option (Bor SearchState)). FindsLive b seat t (Ok o)) is h

pub find_refused : (b : BookState) (seat t : ℕ) (fault : TurnFault) → FindsLive b seat t (Err fault) → Turns b seat t (Err fault) b
find_refused b seat t turn_fault.NotHeld h = (h, refl)
find_refused b seat t turn_fault.NoMemory h = absurd h

-- ---- what a turn is told

pub turn_refused : (b : BookState) (seat t : ℕ) (fault : TurnFault) → IsTurn b seat t (Err fault) → Turns b seat t (Err fault) b
turn_refused b seat t turn_fault.NotHeld h = (h, refl)
turn_refused b seat t turn_fault.NoMemory h = (h.0, h.1, refl)

pub told_is : {Z : Type 0} (b : BookState) (seat t : ℕ) (told other : CodeTurn Z) → told ≡ other → IsTurn b seat t (turn.turn_of (Ok told)) → IsTurn b seat t (turn.turn_of (Ok other))
told_is {Z} b seat t told other is h = subst (λ (x : CodeTurn Z). IsTurn b seat t (turn.turn_of (Ok x))) is h

-- its ticket is active
pub told_active : {Z : Type 0} (b : BookState) (seat t : ℕ) (told : CodeTurn Z) → IsTurn b seat t (turn.turn_of (Ok told)) → IsActive b.tickets t
told_active b seat t (turns.Trial trial) h = (h.label, h.holds.holds.goal)
told_active b seat t turns.Done h = (h.0, h.1.holds.goal)
told_active b seat t turns.Gone h = (h.label, h.holds.goal)

pub told_next : {Z : Type 0} (b : BookState) (seat t : ℕ) (told : CodeTurn Z) (trial candidate : Trial) → told ≡ turns.Trial trial → candidate ≡ trial → IsTurn b seat t (turn.turn_of (Ok told)) → ComesNext b seat t candidate
told_next b seat t told trial candidate is same h = subst (ComesNext b seat t) (sym same) (told_is b seat t told (turns.Trial trial) is h)

-- its candidate is set or forgotten
pub turn_given : {Z : Type 0} (b n : BookState) (seat t : ℕ) (told : CodeTurn Z) (trial candidate : Trial) → told ≡ turns.Trial trial → candidate ≡ trial → IsTurn b seat t (turn.turn_of (Ok told)) → n ≡ with_candidate_of b t (Some candidate) → Turns b seat t (turn.turn_of (Ok told)) n
turn_given {Z} b n seat t told trial candidate is same h e =
    let next : ComesNext b seat t trial = told_next b seat t told trial trial is refl h in
    subst (λ (x : CodeTurn Z). Turns b seat t (turn.turn_of (Ok x)) n) (sym is) (next.label, next.holds, next.is, e ∙ ap (λ (x : Trial). with_candidate_of b t (Some x)) same)

pub turn_forgotten : {Z : Type 0} (b n : BookState) (seat t : ℕ) (told : CodeTurn Z) → ((trial : Trial) → told ≡ turns.Trial trial → ⊥) → IsTurn b seat t (turn.turn_of (Ok told)) → n ≡ with_candidate_of b t None → Turns b seat t (turn.turn_of (Ok told)) n
turn_forgotten b n seat t (turns.Trial trial) none h e = absurd (none trial refl)
turn_forgotten b n seat t turns.Done none h e = (h.0, h.1, h.2, e)
turn_forgotten b n seat t turns.Gone none h e = (h.label, h.holds, h.gone, e)

-- the label of the search that a ticket shows
pub label_there : (ts : List Ticket) (t : ℕ) (s : SearchState) → Some s ≡ search_in (ticket_at ts t) → (ticket_at ts t).goal ≡ Numbered s.label
label_there ts t s e = of_goal (ticket_at ts t).goal (ticket_at ts t).position e
  where
    of_goal : (g : Goal) (place : List ℕ) → Some s ≡ search_with g place → g ≡ Numbered s.label
    of_goal (Numbered l) place h = ap (λ (x : SearchState). Numbered x.label) (sym (some_is s (record { label = l; place = place }) h))
    of_goal g place h = absurd (cc)

-- which its seat holds, where a trial comes next
pub holds_searched : (b now : BookState) → b ≡ now → (seat t : ℕ) (s : Bor SearchState) (found : Option (Bor SearchState)) (trial : Trial) → option_copied found ≡ search_in (ticket_at b.tickets t) → found ≡ Some s → ComesNext now seat t trial → HoldsLive now seat t s.now.label
holds_searched b now e seat t s found trial shown is next =
    let goals : Numbered next.label ≡ Numbered s.now.label = sym next.holds.holds.goal ∙ ap (λ (n : BookState). (ticket_at n.tickets t).goal) (sym e) ∙ label_there b.tickets t s.now (ap option_copied (sym is) ∙ shown) in
    let same : next.label ≡ s.now.label = cc in
    subst (HoldsLive now seat t) same next.holds

-- ---- what comes next

pub comes_next : {Z : Type 0} (b now : BookState) → b ≡ now → (seat t : ℕ) (s : SearchState) (ask : Ask Z) (trial : Trial) → IsLiveSearch now seat t s → IsAnswer (space_of b s.label) s.place ask → ask ≡ answers.Trial trial → IsFormed trial → ComesNext now seat t trial
comes_next b now e seat t s ask trial h answer is formed =
    let next : IsNext (space_of now s.label) s.place (position trial) × IsTrialOf now.rules now.plans now.store trial = subst (λ (n : BookState). IsNext (space_of n s.label) s.place (position trial) × IsTrialOf n.rules n.plans n.store trial) e (subst (IsAnswer (space_of b s.label) s.place) is answer) in
    record { label = s.label; holds = h.holds; is = record { next = subst (λ place. IsNext (space_of now s.label) place (position trial)) h.place next.0; is = next.1; formed = formed } }

pub none_comes : {Z : Type 0} (b now : BookState) → b ≡ now → (seat t : ℕ) (s : SearchState) (ask : Ask Z) → IsLiveSearch now seat t s → IsAnswer (space_of b s.label) s.place ask → ask ≡ answers.Done → IsTurn now seat t (Ok turn.Done)
none_comes b now e seat t s ask h answer is =
    let none : NoneLeft (space_of now s.label) s.place = subst (λ (n : BookState). NoneLeft (space_of n s.label) s.place) e (subst (IsAnswer (space_of b s.label) s.place) is answer) in
    (s.label, h.holds, subst (NoneLeft (space_of now s.label)) h.place none)

-- ---- the candidate

-- what is kept where it is the next trial
pub candidate_keeps : (b now : BookState) → b ≡ now → (t : ℕ) (trial : Trial) (tickets : List Ticket) → (seat : ℕ) × ComesNext now seat t trial → tickets ≡ slice_set b.tickets t (with_candidate (Some trial) (ticket_at b.tickets t)) → IsKept b → IsKept (with_tickets b tickets)
candidate_keeps b now e t trial tickets (seat, h) ts k =
    let next : ComesNext b seat t trial = subst (λ (n : BookState). ComesNext n seat t trial) (sym e) h in
    turns_keep b (with_tickets b tickets) seat t (Ok (turn.Next trial)) (next.label, next.holds, next.is, ap (with_tickets b) ts) k
