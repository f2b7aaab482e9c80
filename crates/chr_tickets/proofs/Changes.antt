-- The list of all tickets and the slots of those that may be open; changes of an open one in its place.
use Rattle.std.proofs.Common.{◌≡◌, ◌↔◌, IsTrue, MatchBool, ℕ, zero, suc, ◌<◌, ◌≤◌, Bool, true, List, Option, length, refl, sym, ap, ◌∙◌, arith, ◌+◌, ◌-◌, ◌^◌, ◌%◌, false, [], ◌∷◌, ◌++◌, map, set, get_or, replicate, subst, ⊎_elim, None, Some, take, drop}
use Rattle.std.proofs.lemmas.Bool.{false≢true, cases_lt}
use Rattle.std.proofs.lemmas.Bool.Decides.{nat_tests}
use Rattle.chr_model.specs.Goals.{Goal, Numbered, Ended, Plain}
use Rattle.chr_calls.specs.declared.answers.TicketState.{TicketState}
use Rattle.chr_calls.specs.Tickets.{Ticket, ended, ticket_at, state_with, state_of, marked, IsActive, IsClaimable, waits, rests, IsStray, waiting}
use Rattle.chr_tickets.specs.declared.ticket.Goal.{Goal as CodeGoal}
use Rattle.chr_tickets.specs.Open.{shown, state_in, IsActiveGoal, shown_ticket}
use Rattle.std.specs.Option.{IsSome, MatchOption}
use Rattle.std.proofs.lemmas.List.{set-get_or, get_or_past, get_or_append_left, get_or-append_right, get_or-map, get_or-replicate, set-append_right, length-append, length-map, length-replicate, map-set, get_or_default, get_or-set_same, get_or_push, set_at, take_at, get_or-drop, length-drop, drop-set-add}
use Rattle.std.proofs.Math.ListN.{length-set}
use Rattle.chr_calls.proofs.Tickets.{is_set, stands, after_set}
use Rattle.chr_tickets.specs.Listed.{Slot, shown_or_ended, listed, StartsOpen, AreUnmarked, AreSlots, HasTicket}
use Rattle.chr_tickets.specs.declared.ticket.Ticket.{Ticket as CodeTicket}
use Rattle.chr_value.specs.Atoms.{Value, Atom}
use Rattle.chr_search.specs.Trials.{Space}
use Rattle.chr_search.specs.declared.search.Instance.{Instance}
use Rattle.chr_search.specs.declared.search.Passed.{Passed}
use Rattle.chr_search.specs.declared.search.Then.{Then}
use Rattle.chr_search.specs.declared.search.Then.TheVariants as thens
use Rattle.chr_tickets.specs.Passed.{gone_over, PassesOver}
use Rattle.chr_calls.specs.declared.answers.TicketState.TheVariants as states
use Rattle.chr_tickets.specs.declared.ticket.Goal.TheVariants as goals

-- ---- an open ticket

pub shown_open : {Z : Type 0} (goal : CodeGoal Z) (mark : Bool) → (shown goal mark).goal ≡ Ended → ⊥
shown_open (goals.Waiting atom) mark e = cc
shown_open (goals.Active search candidate holder) mark e = cc

pub shown_stray : {Z : Type 0} (goal : CodeGoal Z) (mark : Bool) → (shown goal mark).stray ≡ mark
shown_stray (goals.Waiting atom) mark = refl
shown_stray (goals.Active search candidate holder) mark = refl

pub shown_marked : {Z : Type 0} (goal : CodeGoal Z) (mark other : Bool) → shown goal mark ≡ marked mark (shown goal other)
shown_marked (goals.Waiting atom) mark other = refl
shown_marked (goals.Active search candidate holder) mark other = refl

-- ---- its state

pub state_found : (xs : List Ticket) (t : ℕ) (s : TicketState) → state_of xs t ≡ s → (s ≡ states.Unknown → ⊥) → state_in (ticket_at xs t) ≡ s
state_found xs zero s e known = absurd (known (sym e))
state_found xs (suc t) s e known = grind (arith, nat_tests)

pub state_known : (xs : List Ticket) (t : ℕ) → 1 ≤ t → t < length xs → state_of xs t ≡ state_in (ticket_at xs t)
state_known xs zero one l = absurd (omega arith)
state_known xs (suc t) one l = grind (arith, nat_tests)

active_by : (goal : Goal) (holder : Option ℕ) → state_with goal holder ≡ states.Resting → IsActiveGoal goal
active_by (Numbered l) holder e = (l, refl)
active_by g holder e = absurd (cc)

claimable : (s : TicketState) → IsClaimable s → (s ≡ states.Unknown → ⊥) × (s ≡ states.Ended → ⊥)
claimable _ waits = (λ e. cc, λ e. cc)
claimable _ rests = (λ e. cc, λ e. cc)

-- ---- it has not ended

pub waiting_open : (L : List Ticket) (t : ℕ) → state_of L t ≡ states.Waiting → ticket_at L t ≡ ended → ⊥
waiting_open L t is e = let z : state_in ended ≡ states.Waiting = ap state_in (sym e) ∙ state_found L t states.Waiting is (λ k. cc) in cc

pub resting_open : (L : List Ticket) (t : ℕ) → state_of L t ≡ states.Resting → ticket_at L t ≡ ended → ⊥
resting_open L t is e = let z : state_in ended ≡ states.Resting = ap state_in (sym e) ∙ state_found L t states.Resting is (λ k. cc) in cc

pub claimable_open : (L : List Ticket) (t : ℕ) → IsClaimable (state_of L t) → ticket_at L t ≡ ended → ⊥
claimable_open L t is e =
    let apart = claimable (state_of L t) is in
    apart.1 (sym (ap state_in (sym e) ∙ state_found L t (state_of L t) refl apart.0))

pub active_open : (L : List Ticket) (t : ℕ) → IsActive L t → ticket_at L t ≡ ended → ⊥
active_open L t is e = let z : Ended ≡ Numbered is.0 = ap (λ (x : Ticket). x.goal) (sym e) ∙ is.1 in cc

pub stray_open : (L : List Ticket) (t : ℕ) → IsStray L t → ticket_at L t ≡ ended → ⊥
stray_open L t is e = false≢true (ap (λ (x : Ticket). x.stray) (sym e) ∙ is)

-- ---- it waits

pub waiting_here : (L : List Ticket) (t : ℕ) (x : Ticket) → ticket_at L t ≡ x → state_of L t ≡ states.Waiting → state_in x ≡ states.Waiting
waiting_here L t x e is = ap state_in (sym e) ∙ state_found L t states.Waiting is (λ k. cc)

pub never_waits : (L : List Ticket) (t : ℕ) → ticket_at L t ≡ ended → IsTrue false ↔ state_of L t ≡ states.Waiting
never_waits L t e = (λ no. absurd (false≢true no), λ is. absurd (waiting_open L t is e))

-- ---- it is active

pub resting_active : (L : List Ticket) (t : ℕ) (x : Ticket) → ticket_at L t ≡ x → state_of L t ≡ states.Resting → IsActiveGoal x.goal
resting_active L t x e is = active_by x.goal x.holder (ap state_in (sym e) ∙ state_found L t states.Resting is (λ k. cc))

pub active_here : (L : List Ticket) (t : ℕ) (x : Ticket) → ticket_at L t ≡ x → IsActive L t → IsActiveGoal x.goal
active_here L t x e is = (is.0, ap (λ (y : Ticket). y.goal) (sym e) ∙ is.1)

-- ---- the list of all tickets, and the queue of those from the first open one on

pub length_listed : {Z : Type 0} (first : ℕ) (slots : List (Slot Z)) → length (listed first slots) ≡ first + length slots
unfolding listed
length_listed first slots = length-append (replicate first ended) (map shown_or_ended slots) ∙ (let a = length-replicate first ended in let b = length-map slots shown_or_ended in omega arith)

-- ---- what it has at a number

pub read_before : {Z : Type 0} (first : ℕ) (slots : List (Slot Z)) (t : ℕ) → t < first → ticket_at (listed first slots) t ≡ ended
unfolding listed
read_before first slots t l = get_or_append_left (replicate first ended) (map shown_or_ended slots) ended t (let a = length-replicate first ended in omega arith) ∙ get_or-replicate first t ended ended l

pub read_at : {Z : Type 0} (first : ℕ) (slots : List (Slot Z)) (k : ℕ) (slot : Slot Z) → k < length slots → slot ≡ get_or slots k slot → ticket_at (listed first slots) (first + k) ≡ shown_or_ended slot
unfolding listed
read_at first slots k slot l is =
    get_or-append_right (replicate first ended) (map shown_or_ended slots) first (first + k) ended (length-replicate first ended) (omega arith)
    ∙ ap (λ j. ticket_at (map shown_or_ended slots) j) (let e : first + k - first ≡ k = omega arith in e)
    ∙ get_or-map shown_or_ended slots k slot ended l
    ∙ ap shown_or_ended (sym is)

pub read_past : {Z : Type 0} (first : ℕ) (slots : List (Slot Z)) (t : ℕ) → first + length slots ≤ t → ticket_at (listed first slots) t ≡ ended
read_past first slots t l = get_or_past (listed first slots) t ended (let a = length_listed first slots in omega arith)

-- ---- where a ticket's slot stands, behind those of tickets that have ended

pub record Stands {Z : Type 0} (first gone : ℕ) (slots : List (Slot Z)) (t k : ℕ) : Type 0 where
  pub at : first + k ≡ t
  pub behind : gone ≤ k
  pub within : k < length slots

-- k is what `place_of` gives, behind them and within the slots
pub placed : {Z : Type 0} {first gone m : ℕ} {slots : List (Slot Z)} (t k : ℕ) → AreSlots first gone slots m → (first + k) % 2 ^ 64 ≡ t → gone ≤ k → k < length slots → Stands first gone slots t k
placed {Z} {first} {gone} {m} {slots} t k g is behind within = record { at = (let fits = g.queued.fits in let l = length-drop gone slots in omega arith); behind = behind; within = within }

-- or beyond the last slot
pub missing : {Z : Type 0} {first gone m : ℕ} {slots : List (Slot Z)} {L : List Ticket} (t k : ℕ) → AreSlots first gone slots m → listed (first + gone) (drop gone slots) ≡ L → (first + k) % 2 ^ 64 ≡ t → k < 2 ^ 64 → length slots ≤ k → ticket_at L t ≡ ended
missing {Z} {first} {gone} {m} {slots} {L} t k g e is small past =
    ap (λ xs. ticket_at xs t) (sym e)
    ∙ ⊎_elim
    (λ l. read_before (first + gone) (drop gone slots) t l)
    (λ l. read_past (first + gone) (drop gone slots) t (let fits = g.queued.fits in let within = g.within in let d = length-drop gone slots in omega arith))
    (cases_lt t (first + gone))

-- or before
pub passed : {Z : Type 0} {first gone m : ℕ} {slots : List (Slot Z)} {L : List Ticket} (t k : ℕ) → AreSlots first gone slots m → listed (first + gone) (drop gone slots) ≡ L → (first + k) % 2 ^ 64 ≡ t → k < gone → ticket_at L t ≡ ended
passed {Z} {first} {gone} {m} {slots} {L} t k g e is before =
    ap (λ xs. ticket_at xs t) (sym e)
    ∙ read_before (first + gone) (drop gone slots) t (let fits = g.queued.fits in omega arith)

-- what the list has there
pub here : {Z : Type 0} {first gone t k : ℕ} {slots : List (Slot Z)} {L : List Ticket} {slot : Slot Z} → Stands first gone slots t k → listed (first + gone) (drop gone slots) ≡ L → slot ≡ get_or slots k slot → ticket_at L t ≡ shown_or_ended slot
here {Z} {first} {gone} {t} {k} {slots} {L} {slot} s e is =
    let at : t ≡ first + gone + (k - gone) = (let a = s.at in let b = s.behind in omega arith) in
    let same : k ≡ gone + (k - gone) = (let b = s.behind in omega arith) in
    ap (λ xs. ticket_at xs t) (sym e)
    ∙ ap (λ u. ticket_at (listed (first + gone) (drop gone slots)) u) at
    ∙ read_at (first + gone) (drop gone slots) (k - gone) slot (let b = s.behind in let w = s.within in let d = length-drop gone slots in omega arith)
    (is ∙ ap (λ j. get_or slots j slot) same ∙ sym (get_or-drop gone slots (k - gone) slot))

-- as many tickets as slots and those before
pub length_shown : {Z : Type 0} {first gone m : ℕ} {slots : List (Slot Z)} {L : List Ticket} → AreSlots first gone slots m → listed (first + gone) (drop gone slots) ≡ L → length L ≡ first + length slots
length_shown {Z} {first} {gone} {m} {slots} g e =
    ap length (sym e) ∙ length_listed (first + gone) (drop gone slots) ∙ (let within = g.within in let d = length-drop gone slots in omega arith)

-- and whether it waits
pub waits_there : {Z : Type 0} {first gone t k m : ℕ} {slots : List (Slot Z)} {L : List Ticket} (told : Bool) (x : Ticket) → AreSlots first gone slots m → Stands first gone slots t k → listed (first + gone) (drop gone slots) ≡ L → ticket_at L t ≡ x → IsTrue told ↔ state_in x ≡ states.Waiting → IsTrue told ↔ state_of L t ≡ states.Waiting
waits_there {Z} {first} {gone} {t} {k} {m} {slots} {L} told x g s shows there means =
    let long = length_shown g shows in
    let one : 1 ≤ t = (let some = g.queued.some in let at = s.at in let behind = s.behind in omega arith) in
    let given : t < length L = (let within = s.within in let at = s.at in omega arith) in
    (λ yes. state_known L t one given ∙ ap state_in there ∙ means.0 yes, λ is. means.1 (waiting_here L t x there is))

-- ---- after a change of one slot

listed_set : {Z : Type 0} (first : ℕ) (slots : List (Slot Z)) (k : ℕ) (slot : Slot Z) → listed first (set slots k slot) ≡ set (listed first slots) (first + k) (shown_or_ended slot)
unfolding listed
listed_set first slots k slot =
    ap (λ xs. replicate first ended ++ xs) (map-set shown_or_ended slots k slot ∙ ap (λ j. set (map shown_or_ended slots) j (shown_or_ended slot)) (let e : k ≡ first + k - first = omega arith in e))
    ∙ sym (set-append_right (replicate first ended) (map shown_or_ended slots) first (first + k) (shown_or_ended slot) (length-replicate first ended) (omega arith))

set_behind : {Z : Type 0} (gone k : ℕ) (slots : List (Slot Z)) (slot : Slot Z) → gone ≤ k → drop gone (set slots k slot) ≡ set (drop gone slots) (k - gone) slot
set_behind gone k slots slot behind = ap (λ j. drop gone (set slots j slot)) (let e : k ≡ gone + (k - gone) = omega arith in e) ∙ drop-set-add gone slots (k - gone) slot

pub put : {Z : Type 0} {first gone t k : ℕ} {slots : List (Slot Z)} {L : List Ticket} (slot : Slot Z) → Stands first gone slots t k → listed (first + gone) (drop gone slots) ≡ L → listed (first + gone) (drop gone (set slots k slot)) ≡ set L t (shown_or_ended slot)
put {Z} {first} {gone} {t} {k} {slots} {L} slot s e =
    let at : first + gone + (k - gone) ≡ t = (let a = s.at in let b = s.behind in omega arith) in
    ap (listed (first + gone)) (set_behind gone k slots slot s.behind)
    ∙ listed_set (first + gone) (drop gone slots) (k - gone) slot
    ∙ ap (λ u. set (listed (first + gone) (drop gone slots)) u (shown_or_ended slot)) at
    ∙ ap (λ xs. set xs t (shown_or_ended slot)) e

starts_set : {Z : Type 0} (slots : List (Slot Z)) (k : ℕ) (slot : Slot Z) → (k ≡ 0 → IsSome slot) → StartsOpen slots → StartsOpen (set slots k slot)
starts_set [] k slot some h = h
starts_set (first ∷ slots) zero slot some h = some refl
starts_set (first ∷ slots) (suc k) slot some h = h

-- ---- marks

pub unmarked_set : (L : List Ticket) (m n t : ℕ) (x : Ticket) → AreUnmarked L m → n ≤ m → (t < n → x.stray ≡ false) → AreUnmarked (set L t x) n
unmarked_set L m n t x u le h q l = elim (after_set L t x q) [
  | is_set same within is ↦ ap (λ (y : Ticket). y.stray) is ∙ h (omega arith)
  | stands is ↦ ap (λ (y : Ticket). y.stray) is ∙ u q (omega arith)
]

-- the slots after a change of one, which makes x of its ticket
pub kept : {Z : Type 0} {first gone t k m : ℕ} {slots : List (Slot Z)} {L : List Ticket} (n : ℕ) (x : Ticket) (slot : Slot Z) → AreSlots first gone slots m → listed (first + gone) (drop gone slots) ≡ L → listed (first + gone) (drop gone (set slots k slot)) ≡ set L t x → gone ≤ k → (k ≡ gone → IsSome slot) → n ≤ m → (t < n → x.stray ≡ false) → AreSlots first gone (set slots k slot) n
kept {Z} {first} {gone} {t} {k} {m} {slots} {L} n x slot g e after behind some le h =
    let l = length-set slots k slot in
    let within = g.within in
    let fits = g.queued.fits in
    let d = length-drop gone slots in
    let d_set = length-drop gone (set slots k slot) in
    record {
      within = omega arith;
      queued = record {
        some = g.queued.some;
        fits = omega arith;
        starts = subst StartsOpen (sym (set_behind gone k slots slot behind)) (starts_set (drop gone slots) (k - gone) slot (λ z. some (omega arith)) g.queued.starts);
        marks = subst (λ xs. AreUnmarked xs n) (sym after) (unmarked_set L m n t x (subst (λ xs. AreUnmarked xs m) e g.queued.marks) le h);
      };
    }

-- of a ticket that keeps its mark
pub same_mark : {Z : Type 0} {first gone m : ℕ} {slots : List (Slot Z)} {L : List Ticket} (t : ℕ) → AreSlots first gone slots m → listed (first + gone) (drop gone slots) ≡ L → t < m → (ticket_at L t).stray ≡ false
same_mark t g e l = ap (λ xs. (ticket_at xs t).stray) (sym e) ∙ g.queued.marks t l

-- ---- a ticket that has not ended

is_some : {Z : Type 0} (slot : Slot Z) → (shown_or_ended slot ≡ ended → ⊥) → IsSome slot
is_some None live = absurd (live refl)
is_some (Some x) live = refl

stands_open : {Z : Type 0} {first gone m : ℕ} {slots : List (Slot Z)} {L : List Ticket} {t : ℕ} → AreSlots first gone slots m → listed (first + gone) (drop gone slots) ≡ L → (ticket_at L t ≡ ended → ⊥) → Stands first gone slots t (t - first)
stands_open {Z} {first} {gone} {m} {slots} {L} {t} g shows live =
    let ends : ticket_at (listed (first + gone) (drop gone slots)) t ≡ ended → ⊥ = λ e. live (ap (λ xs. ticket_at xs t) (sym shows) ∙ e) in
    let given : first + gone ≤ t = ⊎_elim (λ l. absurd (ends (read_before (first + gone) (drop gone slots) t l))) (λ l. l) (cases_lt t (first + gone)) in
    let long : first + gone + length (drop gone slots) ≡ first + length slots = (let within = g.within in let d = length-drop gone slots in omega arith) in
    record {
      at = omega arith;
      behind = omega arith;
      within = ⊎_elim (λ l. l) (λ past. absurd (ends (read_past (first + gone) (drop gone slots) t (omega arith)))) (cases_lt (t - first) (length slots));
    }

pub open_at : {Z : Type 0} {first gone m : ℕ} {slots : List (Slot Z)} {L : List Ticket} {t : ℕ} → AreSlots first gone slots m → listed (first + gone) (drop gone slots) ≡ L → (ticket_at L t ≡ ended → ⊥) → HasTicket first slots t
open_at {Z} {first} {gone} {m} {slots} {L} {t} g shows live =
    let s = stands_open g shows live in
    record {
      given = (let at = s.at in omega arith);
      within = s.within;
      some = is_some (get_or slots (t - first) None) (λ e. live (here s shows (get_or_default slots (t - first) None (get_or slots (t - first) None) s.within) ∙ e));
    }

-- its place is the only one that has its number
pub only_place : {Z : Type 0} {first : ℕ} {slots : List (Slot Z)} {t k : ℕ} → HasTicket first slots t → t < 2 ^ 64 → (first + k) % 2 ^ 64 ≡ t → k < 2 ^ 64 → k ≡ t - first
only_place o small is within = let given = o.given in omega arith

-- what its slot has
pub seen : {Z : Type 0} {first gone m : ℕ} {slots : List (Slot Z)} {L : List Ticket} {x : CodeTicket Z} (t : ℕ) → AreSlots first gone slots m → listed (first + gone) (drop gone slots) ≡ L → (ticket_at L t ≡ ended → ⊥) → Some x ≡ get_or slots (t - first) (Some x) → ticket_at L t ≡ shown_ticket x
seen t g shows live is = here (stands_open g shows live) shows is

-- ---- once it has changed

pub changed : {Z : Type 0} {first gone m : ℕ} {slots : List (Slot Z)} {L : List Ticket} {x : CodeTicket Z} (t : ℕ) (f : Ticket → Ticket) (w : CodeTicket Z) → AreSlots first gone slots m → listed (first + gone) (drop gone slots) ≡ L → (ticket_at L t ≡ ended → ⊥) → Some x ≡ get_or slots (t - first) (Some x) → (ticket_at L t ≡ shown_ticket x → shown_ticket w ≡ f (shown_ticket x)) → listed (first + gone) (drop gone (set slots (t - first) (Some w))) ≡ set L t (f (ticket_at L t))
changed {Z} {first} {gone} {m} {slots} {L} {x} t f w g shows live is becomes =
    put (Some w) (stands_open g shows live) shows
    ∙ ap (set L t) (becomes (seen t g shows live is) ∙ ap f (sym (seen t g shows live is)))

-- where no ticket below n is marked then
pub still_queued : {Z : Type 0} {first gone m : ℕ} {slots : List (Slot Z)} {L : List Ticket} {x : CodeTicket Z} (t n : ℕ) (f : Ticket → Ticket) (w : CodeTicket Z) → AreSlots first gone slots m → listed (first + gone) (drop gone slots) ≡ L → (ticket_at L t ≡ ended → ⊥) → Some x ≡ get_or slots (t - first) (Some x) → (ticket_at L t ≡ shown_ticket x → shown_ticket w ≡ f (shown_ticket x)) → n ≤ m → (t < n → (f (ticket_at L t)).stray ≡ false) → AreSlots first gone (set slots (t - first) (Some w)) n
still_queued {Z} {first} {gone} {m} {slots} {L} {x} t n f w g shows live is becomes le unmarked =
    kept n (f (ticket_at L t)) (Some w) g shows (changed t f w g shows live is becomes) (let s = stands_open g shows live in s.behind) (λ z. refl) le unmarked

-- ---- one that has changed where this is told, and else is as it was

pub changed_where : {after : List Ticket} {x : Ticket} (L : List Ticket) (y : Ticket) (told : Bool) (t : ℕ) (f : Ticket → Ticket) → ticket_at L t ≡ x → after ≡ set L t y → MatchBool told (y ≡ f x) (y ≡ x) → MatchBool told (after ≡ set L t (f (ticket_at L t))) (after ≡ L)
changed_where L y true t f there e h = e ∙ ap (set L t) (h ∙ ap f (sym there))
changed_where L y false t f there e h = e ∙ ap (set L t) (h ∙ sym there) ∙ set-get_or L t ended

-- ---- a ticket whose search passes over trials, in its place

-- it keeps its mark
keeps_mark : (come : Then) (n : ℕ) (place : List ℕ) (x : Ticket) → (gone_over come n place x).stray ≡ x.stray
keeps_mark thens.More zero place x = refl
keeps_mark thens.More (suc n) place x = refl
keeps_mark thens.Whole n place x = refl
keeps_mark thens.Done n place x = refl

pub still_unmarked : {s : Space} {passed : Passed} {instance : Instance} {binding : List (Option (Value ℕ))} {x after : Ticket} → PassesOver s passed instance binding x after → x.stray ≡ false → after.stray ≡ false
still_unmarked {s} {passed} {instance} {binding} {x} {after} over unmarked = ap (λ (y : Ticket). y.stray) over.after_is ∙ keeps_mark passed.then passed.count over.place x ∙ unmarked

-- the tickets then, and what they have there
pub tickets_are : {Z : Type 0} {first gone m : ℕ} {slots : List (Slot Z)} {L : List Ticket} {x : CodeTicket Z} (t : ℕ) (w : CodeTicket Z) → AreSlots first gone slots m → listed (first + gone) (drop gone slots) ≡ L → (ticket_at L t ≡ ended → ⊥) → Some x ≡ get_or slots (t - first) (Some x) → listed (first + gone) (drop gone (set slots (t - first) (Some w))) ≡ set L t (shown_ticket w)
tickets_are t w g shows live is = changed t (λ y. shown_ticket w) w g shows live is (λ e. refl)

pub ticket_is : (L : List Ticket) (t : ℕ) (x : Ticket) → (ticket_at L t ≡ ended → ⊥) → ticket_at (set L t x) t ≡ x
ticket_is L t x live = get_or-set_same L t x ended (⊎_elim (λ l. l) (λ past. absurd (live (get_or_past L t ended past))) (cases_lt t (length L)))

-- ---- the last ticket, whose atom is made in its place

-- a ticket that comes last
pub made_is : (before : List Ticket) {tickets : List Ticket} {t : ℕ} (x : Ticket) → t ≡ length before → tickets ≡ before ++ x ∷ [] → ticket_at tickets t ≡ x
made_is before {tickets} {t} x at are = ap (λ (xs : List Ticket). ticket_at xs t) are ∙ get_or_push before x ended t (sym at)

pub made_set : (before : List Ticket) {tickets : List Ticket} {t : ℕ} (x y : Ticket) → t ≡ length before → tickets ≡ before ++ x ∷ [] → set tickets t y ≡ before ++ y ∷ []
made_set before {tickets} {t} x y at are = ap (λ (xs : List Ticket). set xs t y) are ∙ set_at before x [] y t (sym at)

pub made_gone : (before : List Ticket) {tickets : List Ticket} {t : ℕ} (x y : Ticket) → t ≡ length before → tickets ≡ before ++ x ∷ [] → take t (set tickets t y) ≡ before
made_gone before {tickets} {t} x y at are = ap (take t) (made_set before x y at are) ∙ take_at before (y ∷ []) t (sym at)

pub made_open : (before : List Ticket) {tickets : List Ticket} {t : ℕ} (a : Atom ℕ) → t ≡ length before → tickets ≡ before ++ waiting a ∷ [] → ticket_at tickets t ≡ ended → ⊥
made_open before a at are e = let z : Plain a ≡ Ended = ap (λ (x : Ticket). x.goal) (sym (made_is before (waiting a) at are) ∙ e) in cc

-- its slot is the last
pub made_last : {Z : Type 0} {first gone m : ℕ} {slots : List (Slot Z)} (before : List Ticket) {tickets : List Ticket} {t : ℕ} (x : Ticket) → AreSlots first gone slots m → listed (first + gone) (drop gone slots) ≡ tickets → t ≡ length before → tickets ≡ before ++ x ∷ [] → first + length slots ≡ t + 1
made_last before x g shows at are = sym (length_shown g shows) ∙ ap length are ∙ length-append before (x ∷ []) ∙ ap (λ n. n + 1) (sym at)

-- what comes, where the arguments have values, and where one has none
pub adds : {made told : Option (Atom ℕ)} (before after : List Ticket) → made ≡ told → MatchOption told (after ≡ before) (λ atom. after ≡ before ++ waiting atom ∷ []) → MatchOption made (after ≡ before) (λ atom. after ≡ before ++ waiting atom ∷ [])
adds before after is h = subst (λ o. MatchOption o (after ≡ before) (λ atom. after ≡ before ++ waiting atom ∷ [])) (sym is) h
