-- Tickets of a book: reads after writes, their states, and a book of which one ticket changes but not its goal.
use Rattle.std.proofs.Common.{◌≡◌, ◌≢◌, ℕ, zero, suc, ◌<◌, ◌≤◌, Bool, true, false, nat_lt, if◌then◌else◌, List, [], ◌∷◌, ◌++◌, map, length, slice_set, Option, Some, None, refl, sym, ◌∙◌, ap, subst, arith, get_or-set_same}
use Rattle.std.proofs.Math.ListN.{get_or-map}
use Rattle.std.proofs.lemmas.List.{length-set, map-set, map-append, append-nil, get_or_append_left}
use Rattle.std.proofs.lemmas.Bool.Decides.{nat_tests}
use Rattle.std.specs.List.{AllByRecursion}
use Rattle.std.specs.Option.{option_map}
use Rattle.chr_value.specs.Atoms.{Atom, AtomIsNamed}
use Rattle.chr_value.specs.Naming.{Table}
use Rattle.chr_log.specs.Events.{Entry, Event, Post, Activate, Fire, Drop}
use Rattle.chr_log.specs.declared.events.Version.TheVariants.{Two}
use Rattle.chr_plan.specs.Plans.{ArePlans}
use Rattle.chr_model.specs.Stores.{Store}
use Rattle.chr_model.specs.Steps.{Step}
use Rattle.chr_model.specs.Goals.{Goal, Plain, Numbered, State, goal_at}
use Rattle.chr_model.specs.Goals as goals
use Rattle.chr_model.specs.Logs.{Lawful, posted_by, others, drops, strict}
use Rattle.chr_model.specs.Programs.{Instances}
use Rattle.chr_model.specs.Searches.{YoungestAreGoals}
use Rattle.chr_model.proofs.Quiet.{active_open, waiting_open}
use Rattle.chr_model.proofs.Strict.{Lawful-push}
use Rattle.chr_search.specs.Verdicts.{Trial, position}
use Rattle.chr_search.specs.Reach.{Searching}
use Rattle.chr_search.proofs.Searching.{forgotten}
use Rattle.chr_calls.specs.declared.answers.TicketState.{TicketState}
use Rattle.chr_calls.specs.declared.answers.TicketState.TheVariants.{Unknown, Waiting, Held}
use Rattle.chr_calls.specs.Tickets.{Ticket, ended, waiting, going_on, ticket_at, state_with, state_of}
use Rattle.chr_calls.specs.Books.{BookState, goal_state, events, space_of, with_ticket, with_entry}
use Rattle.chr_calls.specs.Calls.{AreNamed}
use Rattle.chr_calls.specs.Headline.{IsCandidate, IsAhead, IsKept}

pub all_map : {X : Type 0} (P Q : X → Type 0) → ((x : X) → P x → Q x) → (xs : List X) → AllByRecursion P xs → AllByRecursion Q xs
all_map P Q f [] all = tt
all_map P Q f (x ∷ xs) all = (f x all.0, all_map P Q f xs all.1)

-- ---- reads after writes

-- the goal of a ticket, in the goal state
pub goal_there : (b : BookState) (t : ℕ) → goal_at (goal_state b) t ≡ (ticket_at b.tickets t).goal
goal_there b t = get_or-map (λ (x : Ticket). x.goal) b.tickets t ended

pub ticket_same : (ts : List Ticket) (t : ℕ) (x : Ticket) → t < length ts → ticket_at (slice_set ts t x) t ≡ x
ticket_same ts t x within = get_or-set_same ts t x ended within

-- either it is the ticket that was set, or one that stands as before
pub data AfterSet (ts : List Ticket) (t : ℕ) (x : Ticket) (u : ℕ) : Type 0 where
  is_set : u ≡ t → t < length ts → ticket_at (slice_set ts t x) u ≡ x → AfterSet ts t x u
  stands : ticket_at (slice_set ts t x) u ≡ ticket_at ts u → AfterSet ts t x u

pub after_set : (ts : List Ticket) (t : ℕ) (x : Ticket) (u : ℕ) → AfterSet ts t x u
after_set [] t x u = stands refl
after_set (y ∷ ts) zero x zero = is_set refl (omega arith) refl
after_set (y ∷ ts) zero x (suc u) = stands refl
after_set (y ∷ ts) (suc t) x zero = stands refl
after_set (y ∷ ts) (suc t) x (suc u) = further (after_set ts t x u)
  where
    further : AfterSet ts t x u → AfterSet (y ∷ ts) (suc t) x (suc u)
    further (is_set e within is) = is_set (ap suc e) (omega arith) is
    further (stands is) = stands is

-- what holds of the one that is set and of each that stood holds of each after it
pub set_each : (P : ℕ → Ticket → Type 0) (ts : List Ticket) (t : ℕ) (x : Ticket) → P t x → ((u : ℕ) → P u (ticket_at ts u)) → (u : ℕ) → P u (ticket_at (slice_set ts t x) u)
set_each P ts t x one all u = of_set (after_set ts t x u)
  where
    of_set : AfterSet ts t x u → P u (ticket_at (slice_set ts t x) u)
    of_set (is_set e within is) = subst (P u) (sym is) (subst (λ v. P v x) (sym e) one)
    of_set (stands is) = subst (P u) (sym is) (all u)

-- ---- a ticket of which neither the goal nor the holder changes

-- what is told of a ticket at a place in a list so long
abbrev told : ℕ → ℕ → Ticket → TicketState
told t many x = if nat_lt t many then state_with x.goal x.holder else Unknown

told_same : (t many : ℕ) (x y : Ticket) → x.goal ≡ y.goal → x.holder ≡ y.holder → told t many x ≡ told t many y
told_same t many x y g h = ap (λ s. if nat_lt t many then s else Unknown) (ap (λ z. state_with z x.holder) g ∙ ap (λ o. state_with y.goal o) h)

-- it is in the state that it was in, and so are the others
pub states_stand : (ts : List Ticket) (t u : ℕ) (x : Ticket) → x.goal ≡ (ticket_at ts t).goal → x.holder ≡ (ticket_at ts t).holder → state_of (slice_set ts t x) u ≡ state_of ts u
states_stand ts t zero x g h = refl
states_stand ts t (suc u) x g h =
    let new : List Ticket = slice_set ts t x in
    ap (λ many. told (suc u) many (ticket_at new (suc u))) (length-set ts t x)
    ∙ set_each (λ v y. told v (length ts) y ≡ told v (length ts) (ticket_at ts v)) ts t x (told_same t (length ts) x (ticket_at ts t) g h) (λ v. refl) (suc u)

-- ---- the goals

pub goals_set : (ts : List Ticket) (t : ℕ) (x : Ticket) → map (λ (y : Ticket). y.goal) (slice_set ts t x) ≡ slice_set (map (λ (y : Ticket). y.goal) ts) t x.goal
goals_set ts t x = map-set (λ (y : Ticket). y.goal) ts t x

-- a ticket changes, but not its goal
pub goals_stay : (ts : List Ticket) (t : ℕ) (x : Ticket) → x.goal ≡ (ticket_at ts t).goal → map (λ (y : Ticket). y.goal) (slice_set ts t x) ≡ map (λ (y : Ticket). y.goal) ts
goals_stay [] t x e = refl
goals_stay (y ∷ ts) zero x e = ap (λ g. g ∷ map (λ (y : Ticket). y.goal) ts) e
goals_stay (y ∷ ts) (suc t) x e = ap (λ gs. y.goal ∷ gs) (goals_stay ts t x e)

pub state_stays : (b : BookState) (t : ℕ) (x : Ticket) → x.goal ≡ (ticket_at b.tickets t).goal → goal_state (with_ticket b t x) ≡ goal_state b
state_stays b t x e = ap (λ gs. record { goals = gs; store = b.store; next = b.next }) (goals_stay b.tickets t x e)

-- a ticket whose goal is open is within the list
pub open_within : (ts : List Ticket) (t : ℕ) → (ticket_at ts t).goal ≢ goals.Ended → t < length ts
open_within [] t ne = absurd (ne refl)
open_within (x ∷ ts) zero ne = omega arith
open_within (x ∷ ts) (suc t) ne = let i = open_within ts t ne in omega arith

pub numbered_within : (ts : List Ticket) (t l : ℕ) → (ticket_at ts t).goal ≡ Numbered l → t < length ts
numbered_within ts t l e = open_within ts t (λ z. active_open l (sym e ∙ z))

pub plain_within : (ts : List Ticket) (t : ℕ) (a : Atom ℕ) → (ticket_at ts t).goal ≡ Plain a → t < length ts
plain_within ts t a e = open_within ts t (λ z. waiting_open a (sym e ∙ z))

-- ---- tickets that are appended

pub ticket_before : (ts more : List Ticket) (t : ℕ) → t < length ts → ticket_at (ts ++ more) t ≡ ticket_at ts t
ticket_before ts more t within = get_or_append_left ts more ended t within

-- what holds of each ticket, and of each that waits, holds where some that wait are appended
pub waiting_each : (P : Ticket → Type 0) (ts : List Ticket) (as' : List (Atom ℕ)) → ((a : Atom ℕ) → P (waiting a)) → ((u : ℕ) → P (ticket_at ts u)) → (u : ℕ) → P (ticket_at (ts ++ map waiting as') u)
waiting_each P [] [] new all u = all u
waiting_each P [] (a ∷ as') new all zero = new a
waiting_each P [] (a ∷ as') new all (suc u) = waiting_each P [] as' new all u
waiting_each P (x ∷ ts) as' new all zero = all 0
waiting_each P (x ∷ ts) as' new all (suc u) = waiting_each P ts as' new (λ v. all (suc v)) u

pub goals_waiting : (as' : List (Atom ℕ)) → map (λ (y : Ticket). y.goal) (map waiting as') ≡ map Plain as'
goals_waiting [] = refl
goals_waiting (a ∷ as') = ap (λ gs. Plain a ∷ gs) (goals_waiting as')

-- the goals after one ticket is set and atoms are appended
pub goals_appended : (ts more : List Ticket) → map (λ (y : Ticket). y.goal) (ts ++ more) ≡ map (λ (y : Ticket). y.goal) ts ++ map (λ (y : Ticket). y.goal) more
goals_appended ts more = map-append (λ (y : Ticket). y.goal) ts more

-- ---- what a state tells

-- a held ticket: its goal's label, and its holder
pub record IsHeld (ts : List Ticket) (t seat : ℕ) : Type 0 where
  pub label : ℕ
  pub goal : (ticket_at ts t).goal ≡ Numbered label
  pub holder : (ticket_at ts t).holder ≡ Some seat
  pub within : t < length ts

pub record IsWaiting (ts : List Ticket) (t : ℕ) : Type 0 where
  pub atom : Atom ℕ
  pub goal : (ticket_at ts t).goal ≡ Plain atom
  pub within : t < length ts

-- a ticket whose state is known is within the list
told_is : (ts : List Ticket) (t : ℕ) (s : TicketState) → s ≢ Unknown → state_of ts t ≡ s → (t < length ts) × (state_with (ticket_at ts t).goal (ticket_at ts t).holder ≡ s)
told_is ts zero s ne h = absurd (ne (sym h))
told_is ts (suc t) s ne h = tested (nat_lt (suc t) (length ts)) refl h
  where
    tested : (c : Bool) → nat_lt (suc t) (length ts) ≡ c → (if c then state_with (ticket_at ts (suc t)).goal (ticket_at ts (suc t)).holder else Unknown) ≡ s → (suc t < length ts) × (state_with (ticket_at ts (suc t)).goal (ticket_at ts (suc t)).holder ≡ s)
    tested true e i = (grind (arith, nat_tests), i)
    tested false e i = absurd (ne (sym i))

pub held_is : (ts : List Ticket) (t seat : ℕ) → state_of ts t ≡ Held seat → IsHeld ts t seat
held_is ts t seat h =
    let w = told_is ts t (Held seat) (λ e. cc) h in
    let o = of_goal (ticket_at ts t).goal (ticket_at ts t).holder w.1 in
    record { label = o.0; goal = o.1; holder = o.2; within = w.0 }
  where
    of_goal : (g : Goal) (o : Option ℕ) → state_with g o ≡ Held seat → (l : ℕ) × (g ≡ Numbered l) × (o ≡ Some seat)
    of_goal (Plain a) o e = absurd (cc)
    of_goal (Numbered l) (Some s) e = let same : s ≡ seat = cc in (l, refl, ap Some same)
    of_goal (Numbered l) None e = absurd (cc)
    of_goal goals.Ended o e = absurd (cc)

pub waiting_is : (ts : List Ticket) (t : ℕ) → state_of ts t ≡ Waiting → IsWaiting ts t
waiting_is ts t h =
    let w = told_is ts t Waiting (λ e. cc) h in
    let o = of_goal (ticket_at ts t).goal (ticket_at ts t).holder w.1 in
    record { atom = o.0; goal = o.1; within = w.0 }
  where
    of_goal : (g : Goal) (o : Option ℕ) → state_with g o ≡ Waiting → (a : Atom ℕ) × (g ≡ Plain a)
    of_goal (Plain a) o e = (a, refl)
    of_goal (Numbered l) (Some s) e = absurd (cc)
    of_goal (Numbered l) None e = absurd (cc)
    of_goal goals.Ended o e = absurd (cc)

-- the goal of a ticket that is held has this label, and no other
pub held_label : (ts : List Ticket) (t k l : ℕ) → (ticket_at ts t).goal ≡ Numbered k → (ticket_at ts t).goal ≡ Numbered l → k ≡ l
held_label ts t k l h i = cc

-- ---- the names of a log

pub posts_appended : (xs ys : List (Event ℕ)) → posted_by (xs ++ ys) ≡ posted_by xs ++ posted_by ys
posts_appended [] ys = refl
posts_appended (Post t a ∷ es) ys = ap (λ x. a ∷ x) (posts_appended es ys)
posts_appended (Activate t l ∷ es) ys = posts_appended es ys
posts_appended (Fire t r kept removed ∷ es) ys = posts_appended es ys
posts_appended (Drop t ∷ es) ys = posts_appended es ys

-- a strict log posts the same
posted_parts : (es : List (Event ℕ)) → (posted_by (others es) ≡ posted_by es) × (posted_by (drops es) ≡ [])
posted_parts [] = (refl, refl)
posted_parts (Post t a ∷ es) = let parts = posted_parts es in (ap (λ (xs : List (Atom ℕ)). a ∷ xs) parts.0, parts.1)
posted_parts (Activate t l ∷ es) = posted_parts es
posted_parts (Fire t r kept removed ∷ es) = posted_parts es
posted_parts (Drop t ∷ es) = posted_parts es

pub posted_strict : (es : List (Event ℕ)) → posted_by (strict es) ≡ posted_by es
posted_strict es = posts_appended (others es) (drops es) ∙ ap (λ (xs : List (Atom ℕ)). posted_by (others es) ++ xs) (posted_parts es).1 ∙ append-nil (posted_by (others es)) ∙ (posted_parts es).0

-- the log with an entry more
pub events_more : (b : BookState) (seat : ℕ) (e : Event ℕ) → events (with_entry b seat e) ≡ events b ++ e ∷ []
events_more b seat e = map-append (λ x. x.event) b.log (record { event = e; seat = seat } ∷ [])

both_named : (n : ℕ) (xs ys : List (Atom ℕ)) → AllByRecursion (AtomIsNamed n) xs → AllByRecursion (AtomIsNamed n) ys → AllByRecursion (AtomIsNamed n) (xs ++ ys)
both_named n [] ys all more = more
both_named n (x ∷ xs) ys all more = (all.0, both_named n xs ys all.1 more)

-- ---- what a book keeps of a ticket

pub record IsKeptTicket (b : BookState) (x : Ticket) : Type 0 where
  pub given : (l : ℕ) → x.goal ≡ Numbered l → l < b.next
  pub searching : (l : ℕ) → x.goal ≡ Numbered l → Searching (space_of b l) x.position (option_map position x.candidate)
  pub candidates : (l : ℕ) (trial : Trial) → x.goal ≡ Numbered l → x.candidate ≡ Some trial → IsCandidate b l trial
  pub ahead : IsAhead x

pub ticket_kept : (b : BookState) → IsKept b → (t : ℕ) → IsKeptTicket b (ticket_at b.tickets t)
ticket_kept b k t = record { given = k.given t; searching = k.searching t; candidates = k.candidates t; ahead = k.ahead t }

-- a ticket without a candidate
pub kept_without : (b : BookState) (x : Ticket) → x.candidate ≡ None → ((l : ℕ) → x.goal ≡ Numbered l → (l < b.next) × Searching (space_of b l) x.position None) → IsKeptTicket b x
kept_without b x none search = record {
  given = λ l at. (search l at).0;
  searching = λ l at. subst (λ c. Searching (space_of b l) x.position (option_map position c)) (sym none) (search l at).1;
  candidates = λ l trial at is. absurd (let z : None ≡ Some trial = sym none ∙ is in cc);
  ahead = λ trial is. absurd (let z : None ≡ Some trial = sym none ∙ is in cc);
}

pub ended_kept : (b : BookState) → IsKeptTicket b ended
ended_kept b = kept_without b ended refl (λ l at. absurd (cc))

pub waiting_kept : (b : BookState) (a : Atom ℕ) → IsKeptTicket b (waiting a)
waiting_kept b a = kept_without b (waiting a) refl (λ l at. absurd (cc))

-- a ticket that stands, in another book
pub still_kept : (b n : BookState) (x : Ticket) → b.next ≤ n.next
    → ((l : ℕ) (place : List ℕ) (candidate : Option (List ℕ)) → l < b.next → Searching (space_of b l) place candidate → Searching (space_of n l) place candidate)
    → ((l : ℕ) (trial : Trial) → IsCandidate b l trial → IsCandidate n l trial) → IsKeptTicket b x → IsKeptTicket n x
still_kept b n x more searching candidate k = record {
  given = λ l at. (let low = k.given l at in omega arith);
  searching = λ l at. searching l x.position (option_map position x.candidate) (k.given l at) (k.searching l at);
  candidates = λ l trial at is. candidate l trial (k.candidates l trial at is);
  ahead = k.ahead;
}

-- one of the same rules, store and labels
abbrev beside : BookState → Table → List (Entry ℕ) → List Ticket → BookState
beside b names log tickets = record b { names = names; log = log; tickets = tickets }

pub kept_beside : (b : BookState) (names : Table) (log : List (Entry ℕ)) (tickets : List Ticket) (x : Ticket) → IsKeptTicket b x → IsKeptTicket (beside b names log tickets) x
kept_beside b names log tickets x k =
    still_kept b (beside b names log tickets) x (omega arith) (λ l place candidate low s. s) (λ l trial c. record { formed = c.formed; was = c.was; active = c.active; given = c.given }) k

-- ---- what a book keeps

pub book_kept : (b : BookState) → ArePlans b.rules b.plans → Lawful Two (Instances b.rules) (events b) (goal_state b) → YoungestAreGoals (Instances b.rules) (goal_state b) → AreNamed b (posted_by (events b)) → ((t : ℕ) → IsKeptTicket b (ticket_at b.tickets t)) → IsKept b
book_kept b plans lawful youngest named each = record {
  plans = plans;
  lawful = lawful;
  given = λ t. (each t).given;
  searching = λ t. (each t).searching;
  candidates = λ t. (each t).candidates;
  ahead = λ t. (each t).ahead;
  youngest = youngest;
  named = named;
}

-- an answer that changes nothing
pub kept_as_is : (b n : BookState) → n ≡ b → IsKept b → IsKept n
kept_as_is b n e k = subst IsKept (sym e) k

-- a step that writes an entry
abbrev stepped : BookState → ℕ → Event ℕ → Store → ℕ → List Ticket → BookState
stepped b seat e store next tickets = record b { log = b.log ++ record { event = e; seat = seat } ∷ []; store = store; next = next; tickets = tickets }

pub stepped_kept : (b : BookState) (seat : ℕ) (e : Event ℕ) (store : Store) (next : ℕ) (tickets : List Ticket) → Step Two (Instances b.rules) (goal_state b) e (goal_state (stepped b seat e store next tickets))
    → YoungestAreGoals (Instances b.rules) (goal_state (stepped b seat e store next tickets)) → AreNamed b (posted_by (e ∷ []))
    → ((t : ℕ) → IsKeptTicket (stepped b seat e store next tickets) (ticket_at tickets t)) → IsKept b → IsKept (stepped b seat e store next tickets)
stepped_kept b seat e store next tickets step youngest named each k =
    let n = stepped b seat e store next tickets in
    book_kept n k.plans
    (subst (λ es. Lawful Two (Instances b.rules) es (goal_state n)) (sym (events_more b seat e)) (Lawful-push Two (Instances b.rules) (events b) e (goal_state b) (goal_state n) k.lawful step))
    youngest
    (subst (AreNamed b) (sym (ap posted_by (events_more b seat e) ∙ posts_appended (events b) (e ∷ []))) (both_named (length b.names) (posted_by (events b)) (posted_by (e ∷ [])) k.named named))
    each

-- one ticket changes, but not its goal
pub kept_with : (b : BookState) (t : ℕ) (x : Ticket) → x.goal ≡ (ticket_at b.tickets t).goal → IsKeptTicket b x → IsKept b → IsKept (with_ticket b t x)
kept_with b t x same one k =
    let n = with_ticket b t x in
    book_kept n k.plans (subst (Lawful Two (Instances b.rules) (events b)) (sym (state_stays b t x same)) k.lawful) (subst (YoungestAreGoals (Instances b.rules)) (sym (state_stays b t x same)) k.youngest) k.named
    (set_each (λ u. IsKeptTicket n) b.tickets t x (kept_beside b b.names b.log n.tickets x one) (λ u. kept_beside b b.names b.log n.tickets (ticket_at b.tickets u) (ticket_kept b k u)))

-- its candidate is forgotten and its position stays
pub kept_forgotten : (b : BookState) (t : ℕ) (x : Ticket) → x.goal ≡ (ticket_at b.tickets t).goal → x.position ≡ (ticket_at b.tickets t).position → x.candidate ≡ None → IsKept b → IsKept (with_ticket b t x)
kept_forgotten b t x same place none k =
    kept_with b t x same
    (kept_without b x none (λ l at.
    let old = sym same ∙ at in
    (k.given t l old, subst (λ p. Searching (space_of b l) p None) (sym place) (forgotten (space_of b l) (ticket_at b.tickets t).position (option_map position (ticket_at b.tickets t).candidate) (k.searching t l old))))) k

-- its search goes on at a position
pub moved_keeps : (b : BookState) (t : ℕ) (place : List ℕ) → ((l : ℕ) → (ticket_at b.tickets t).goal ≡ Numbered l → Searching (space_of b l) place None) → IsKept b → IsKept (with_ticket b t (going_on place (ticket_at b.tickets t)))
moved_keeps b t place s k = kept_with b t (going_on place (ticket_at b.tickets t)) refl (kept_without b (going_on place (ticket_at b.tickets t)) refl (λ l at. (k.given t l at, s l at))) k
