-- Tickets that come and go at the ends of the slots, and walks over them.
use Rattle.std.proofs.Common.{◌≡◌, ℕ, zero, suc, ◌+◌, ◌-◌, ◌^◌, ◌%◌, ◌<◌, ◌≤◌, min, max, false, List, [], ◌∷◌, ◌++◌, map, Some, None, length, take, drop, get_or, set, replicate, refl, sym, ap, subst, ◌∙◌, ⊎_elim, arith, append-nil, append_assoc, Bool, true, true-eqb}
use Rattle.std.specs.Option.{IsSome}
use Rattle.std.proofs.lemmas.Bool.{cases_lt, cases_eq, false≢true, false_from_ne_true}
use Rattle.std.proofs.lemmas.List.{get_or_past, get_or_append_left, get_or_push, get_or-take, length-append, length-take, length-replicate, map-append, take-append-le, take-map, take-replicate, replicate-append-replicate, length-drop, drop_more, drop-set, drop-take, drop_all, get_or-drop, take-set-le, take_more_same, take_rest, drop-set-lt, drop-append-le}
use Rattle.std.proofs.lemmas.List.Edits.{swap_is, length-swap}
use Rattle.std.specs.List.{swap, SwappedAt}
use Rattle.std.proofs.Math.Seq.{take-append-add, drop-nil}
use Rattle.chr_model.specs.Goals.{Ended}
use Rattle.chr_calls.specs.Tickets.{Ticket, ended, ticket_at, AreQuiet, state_of, IsStray, IsOpenFor, waits_for, held_for, rests_for, IsLeastFor, NoneFor}
use Rattle.chr_tickets.specs.declared.ticket.Ticket.{Ticket as CodeTicket}
use Rattle.chr_tickets.specs.Open.{shown_ticket, state_in, is_open_for}
use Rattle.chr_tickets.specs.Listed.{Slot, shown_or_ended, listed, StartsOpen, AreUnmarked, AreQueued, AreSlots}
use Rattle.chr_tickets.proofs.Changes.{Stands, placed, put, here, length_shown, read_before, read_at, read_past, unmarked_set, kept, shown_open, state_found, state_known}
use borrow.Author.Count.{below_more}
use Rattle.std.proofs.lemmas.Bool.Decides.{nat_tests}
use Rattle.chr_calls.specs.declared.answers.TicketState.{TicketState}
use Rattle.chr_calls.specs.declared.answers.TicketState.TheVariants as states

-- ---- the first slots hold nothing that counts

listed_over : {Z : Type 0} (first : ℕ) (slots : List (Slot Z)) → listed (first + 1) slots ≡ listed first (None ∷ slots)
unfolding listed
listed_over first slots =
    ap (λ xs. xs ++ map shown_or_ended slots) (sym (replicate-append-replicate first 1 ended))
    ∙ append_assoc (replicate first ended) (ended ∷ []) (map shown_or_ended slots)

-- a step over an empty slot
pub over_empty : {Z : Type 0} (first k : ℕ) (slots : List (Slot Z)) (slot : Slot Z) → k < length slots → slot ≡ None → slot ≡ get_or slots k slot → listed (first + (k + 1)) (drop (k + 1) slots) ≡ listed (first + k) (drop k slots)
over_empty {Z} first k slots slot within none is =
    ap (λ n. listed n (drop (k + 1) slots)) (let e : first + (k + 1) ≡ first + k + 1 = omega arith in e)
    ∙ listed_over (first + k) (drop (k + 1) slots)
    ∙ ap (λ (x : Slot Z). listed (first + k) (x ∷ drop (k + 1) slots)) (sym none ∙ is)
    ∙ ap (listed (first + k)) (sym (drop_more slots k slot within))

-- what stays, where some of the slots that are gone are let go
pub drop_twice : {X : Type 0} (n m : ℕ) (xs : List X) → drop m (drop n xs) ≡ drop (n + m) xs
drop_twice zero m xs = ap (λ k. drop k xs) (let e : m ≡ zero + m = omega arith in e)
drop_twice (suc n) m [] = drop-nil m ∙ sym (drop-nil (suc n + m))
drop_twice (suc n) m (x ∷ xs) = drop_twice n m xs ∙ ap (λ k. drop k (x ∷ xs)) (let e : suc (n + m) ≡ suc n + m = omega arith in e)

-- ---- a ticket ends

-- no mark comes then
pub unmarked_end : {Z : Type 0} {first gone m : ℕ} {slots : List (Slot Z)} {L M : List Ticket} (t : ℕ) → AreSlots first gone slots m → listed (first + gone) (drop gone slots) ≡ L → M ≡ set L t ended → AreUnmarked M m
unmarked_end {Z} {first} {gone} {m} {slots} {L} t g e after = subst (λ xs. AreUnmarked xs m) (sym after) (unmarked_set L m m t ended (subst (λ xs. AreUnmarked xs m) e g.queued.marks) (omega arith) (λ l. refl))

-- that of the first slot that counts
pub ended_first : {Z : Type 0} {first gone m : ℕ} {slots : List (Slot Z)} {L : List Ticket} (t k : ℕ) → AreSlots first gone slots m → listed (first + gone) (drop gone slots) ≡ L → (first + k) % 2 ^ 64 ≡ t → k ≡ gone → k < length slots → listed (first + (k + 1)) (drop (k + 1) slots) ≡ set L t ended
ended_first {Z} {first} {gone} {m} {slots} {L} t k g e is at within =
    let one : first + (k + 1) ≡ first + gone + 1 = omega arith in
    let next : k + 1 ≡ gone + 1 = omega arith in
    let inside : gone < length slots = omega arith in
    ap (λ n. listed n (drop (k + 1) slots)) one
    ∙ ap (λ n. listed (first + gone + 1) (drop n slots)) next
    ∙ listed_over (first + gone) (drop (gone + 1) slots)
    ∙ ap (listed (first + gone)) (sym (drop-set slots gone None inside))
    ∙ put None (placed t gone g (subst (λ n. (first + n) % 2 ^ 64 ≡ t) at is) (omega arith) inside) e

pub slots_first : {Z : Type 0} {first gone m : ℕ} {slots : List (Slot Z)} {L : List Ticket} (t next : ℕ) → AreSlots first gone slots m → listed (first + gone) (drop gone slots) ≡ L → gone ≤ next → next ≤ length slots → StartsOpen (drop next slots) → listed (first + next) (drop next slots) ≡ set L t ended → AreSlots first next slots m
slots_first {Z} {first} {gone} {m} {slots} {L} t next g e on within starts after =
    let some = g.queued.some in
    let fits = g.queued.fits in
    let inside = g.within in
    let d = length-drop gone slots in
    let d_next = length-drop next slots in
    record {
      within = within;
      queued = record { some = omega arith; fits = omega arith; starts = starts; marks = unmarked_end t g e after };
    }

-- that of a slot behind it, which is emptied
pub ended_behind : {Z : Type 0} {first gone m : ℕ} {slots : List (Slot Z)} {L : List Ticket} (t k : ℕ) → AreSlots first gone slots m → listed (first + gone) (drop gone slots) ≡ L → (first + k) % 2 ^ 64 ≡ t → gone < k → k < length slots → listed (first + gone) (drop gone (set slots k None)) ≡ set L t ended
ended_behind t k g e at behind within = put None (placed t k g at (omega arith) within) e

pub slots_behind : {Z : Type 0} {first gone m : ℕ} {slots : List (Slot Z)} {L : List Ticket} (t k : ℕ) → AreSlots first gone slots m → listed (first + gone) (drop gone slots) ≡ L → (first + k) % 2 ^ 64 ≡ t → gone < k → k < length slots → AreSlots first gone (set slots k None) m
slots_behind t k g e at behind within = kept _ ended None g e (ended_behind t k g e at behind within) (omega arith) (λ z. absurd (omega arith)) (omega arith) (λ l. refl)

-- ---- open slots move to the front

-- the slots before a place are those that counted, and those behind are as they were
pub record Moves {Z : Type 0} (gone at : ℕ) (before slots : List (Slot Z)) : Type 0 where
  pub long : length slots ≡ length before
  pub front : take at slots ≡ take at (drop gone before)
  pub back : drop (gone + at) slots ≡ drop (gone + at) before

pub moves_none : {Z : Type 0} (gone : ℕ) (slots : List (Slot Z)) → Moves gone 0 slots slots
moves_none gone slots = record { long = refl; front = refl; back = refl }

swap_sets : {Z : Type 0} (gone at : ℕ) (slots : List (Slot Z)) → gone + at < length slots → swap slots at (gone + at) ≡ set (set slots at (get_or slots (gone + at) None)) (gone + at) (get_or slots at None)
swap_sets gone at slots within = sym (swap_is slots at (gone + at) None (omega arith) within)

pub moves_more : {Z : Type 0} {gone at : ℕ} {before slots after : List (Slot Z)} → Moves gone at before slots → gone + at < length slots → after ≡ swap slots at (gone + at) → SwappedAt slots after at (gone + at) → Moves gone (at + 1) before after
moves_more {Z} {gone} {at} {before} {slots} {after} m within is by =
    let sets = is ∙ swap_sets gone at slots within in
    let long : length after ≡ length before = ap length is ∙ length-swap slots at (gone + at) ∙ m.long in
    let d = length-drop gone before in
    let old = m.long in
    let last : get_or after at None ≡ get_or (drop gone before) at None =
    by.0 None
    ∙ ap (λ n. get_or slots n None) (let e : gone + at ≡ gone + at + 0 = omega arith in e)
    ∙ sym (get_or-drop (gone + at) slots 0 None)
    ∙ ap (λ xs. get_or xs 0 None) m.back
    ∙ get_or-drop (gone + at) before 0 None
    ∙ ap (λ n. get_or before n None) (let e : gone + at + 0 ≡ gone + at = omega arith in e)
    ∙ sym (get_or-drop gone before at None) in
    let front : take at after ≡ take at (drop gone before) =
    ap (take at) sets
    ∙ take-set-le at (set slots at (get_or slots (gone + at) None)) (gone + at) (get_or slots at None) (omega arith)
    ∙ take-set-le at slots at (get_or slots (gone + at) None) (omega arith)
    ∙ m.front in
    let one : gone + (at + 1) ≡ gone + at + 1 = omega arith in
    record {
      long = long;
      front = take_more_same after (drop gone before) at None (omega arith) (omega arith) front last;
      back =
          ap (drop (gone + (at + 1))) sets
          ∙ drop-set-lt (gone + (at + 1)) (set slots at (get_or slots (gone + at) None)) (gone + at) (get_or slots at None) (omega arith)
          ∙ drop-set-lt (gone + (at + 1)) slots at (get_or slots (gone + at) None) (omega arith)
          ∙ ap (λ n. drop n slots) one
          ∙ sym (drop_twice (gone + at) 1 slots)
          ∙ ap (drop 1) m.back
          ∙ drop_twice (gone + at) 1 before
          ∙ ap (λ n. drop n before) (sym one);
    }

pub moved : {Z : Type 0} {gone at : ℕ} {before slots : List (Slot Z)} → Moves gone at before slots → at ≡ length before - gone → take at slots ≡ drop gone before
moved {Z} {gone} {at} {before} {slots} m e = m.front ∙ ap (λ n. take n (drop gone before)) e ∙ take_rest before gone

-- ---- once slots are let go

-- the slots, and the numbers of how many are gone and of the first
pub record Went {Z : Type 0} (first gone went start left : ℕ) (before slots : List (Slot Z)) : Type 0 where
  pub some : went ≤ gone
  pub slots_are : slots ≡ drop went before
  pub start_is : start ≡ first + went
  pub left_is : left ≡ gone - went

rest_is : {Z : Type 0} {first gone went start left : ℕ} {before slots : List (Slot Z)} → Went first gone went start left before slots → drop left slots ≡ drop gone before
rest_is {Z} {first} {gone} {went} {start} {left} {before} {slots} w =
    ap (drop left) w.slots_are ∙ drop_twice went left before ∙ ap (λ n. drop n before) (let s = w.some in let l = w.left_is in let e : went + left ≡ gone = omega arith in e)

same_start : {Z : Type 0} {first gone went start left : ℕ} {before slots : List (Slot Z)} → Went first gone went start left before slots → start + left ≡ first + gone
same_start w = let some = w.some in let at = w.start_is in let left = w.left_is in omega arith

pub listed_went : {Z : Type 0} {first gone went start left : ℕ} {before slots : List (Slot Z)} → Went first gone went start left before slots → listed (start + left) (drop left slots) ≡ listed (first + gone) (drop gone before)
listed_went {Z} {first} {gone} {went} {start} {left} {before} {slots} w = ap (λ n. listed n (drop left slots)) (same_start w) ∙ ap (listed (first + gone)) (rest_is w)

pub slots_went : {Z : Type 0} {first gone went start left m : ℕ} {before slots : List (Slot Z)} → Went first gone went start left before slots → AreSlots first gone before m → AreSlots start left slots m
slots_went {Z} {first} {gone} {went} {start} {left} {m} {before} {slots} w g = record {
  within = (let some = w.some in let is = w.left_is in let within = g.within in let e = ap length w.slots_are in let d = length-drop went before in omega arith);
  queued = subst (λ n. AreQueued n (drop left slots) m) (sym (same_start w)) (subst (λ xs. AreQueued (first + gone) xs m) (sym (rest_is w)) g.queued);
}

-- ---- a slot comes last

listed_push : {Z : Type 0} (first : ℕ) (slots : List (Slot Z)) (x : CodeTicket Z) → listed first (slots ++ Some x ∷ []) ≡ listed first slots ++ shown_ticket x ∷ []
unfolding listed
listed_push first slots x = ap (λ xs. replicate first ended ++ xs) (map-append shown_or_ended slots (Some x ∷ [])) ∙ sym (append_assoc (replicate first ended) (map shown_or_ended slots) (shown_ticket x ∷ []))

starts_push : {Z : Type 0} (slots : List (Slot Z)) (x : CodeTicket Z) → StartsOpen slots → StartsOpen (slots ++ Some x ∷ [])
starts_push [] x h = refl
starts_push (slot ∷ slots) x h = h

pub unmarked_push : (L : List Ticket) (m : ℕ) (x : Ticket) → AreUnmarked L m → x.stray ≡ false → AreUnmarked (L ++ x ∷ []) m
unmarked_push L m x u h t l =
    ⊎_elim
    (λ w. ap (λ (y : Ticket). y.stray) (get_or_append_left L (x ∷ []) ended t w) ∙ u t l)
    (λ past. ⊎_elim
    (λ last. ap (λ (y : Ticket). y.stray) (get_or_push L x ended t (sym last)) ∙ h)
    (λ out. ap (λ (y : Ticket). y.stray) (get_or_past (L ++ x ∷ []) t ended (let e = length-append L (x ∷ []) in omega arith)))
    (cases_eq t (length L)))
    (cases_lt t (length L))

pub pushed : {Z : Type 0} {first gone m : ℕ} {slots : List (Slot Z)} {L : List Ticket} (x : CodeTicket Z) → AreSlots first gone slots m → listed (first + gone) (drop gone slots) ≡ L → listed (first + gone) (drop gone (slots ++ Some x ∷ [])) ≡ L ++ shown_ticket x ∷ []
pushed {Z} {first} {gone} {m} {slots} x g e =
    ap (listed (first + gone)) (drop-append-le gone slots (Some x ∷ []) g.within)
    ∙ listed_push (first + gone) (drop gone slots) x
    ∙ ap (λ (xs : List Ticket). xs ++ shown_ticket x ∷ []) e

pub slots_push : {Z : Type 0} {first gone m : ℕ} {slots : List (Slot Z)} (x : CodeTicket Z) → AreSlots first gone slots m → first + length slots + 1 < 2 ^ 64 → (shown_ticket x).stray ≡ false → AreSlots first gone (slots ++ Some x ∷ []) m
slots_push {Z} {first} {gone} {m} {slots} x g l h =
    let within = g.within in
    let long = length-append slots (Some x ∷ []) in
    let d = length-drop gone (slots ++ Some x ∷ []) in
    record {
      within = omega arith;
      queued = record {
        some = g.queued.some;
        fits = omega arith;
        starts = subst StartsOpen (sym (drop-append-le gone slots (Some x ∷ []) g.within)) (starts_push (drop gone slots) x g.queued.starts);
        marks = subst (λ xs. AreUnmarked xs m) (sym (pushed x g refl)) (unmarked_push (listed (first + gone) (drop gone slots)) m (shown_ticket x) g.queued.marks h);
      };
    }

-- ---- the last slots go

take_within : {Z : Type 0} (first next : ℕ) (slots : List (Slot Z)) → next ≤ first → take next (listed first slots) ≡ listed {Z = Z} next []
unfolding listed
take_within {Z} first next slots l =
    take-append-le next (replicate first ended) (map shown_or_ended slots) (let e = length-replicate first ended in omega arith)
    ∙ take-replicate next first ended l
    ∙ sym (append-nil (replicate next ended))

take_beyond : {Z : Type 0} (first k : ℕ) (slots : List (Slot Z)) → take (first + k) (listed first slots) ≡ listed first (take k slots)
unfolding listed
take_beyond first k slots =
    ap (λ n. take (n + k) (replicate first ended ++ map shown_or_ended slots)) (sym (length-replicate first ended))
    ∙ take-append-add (replicate first ended) (map shown_or_ended slots) k
    ∙ ap (λ xs. replicate first ended ++ xs) (take-map shown_or_ended k slots)

-- k is how many stay, and start the number of the first then
take_queue : {Z : Type 0} (first next k start : ℕ) (slots : List (Slot Z)) → k ≡ next - first → start ≡ min first next → listed start (take k slots) ≡ take next (listed first slots)
take_queue first next k start slots e f =
    ⊎_elim
    (λ l. ap (λ n. listed n (take k slots)) (let s : start ≡ first = omega arith in s) ∙ sym (take_beyond first k slots) ∙ ap (λ n. take n (listed first slots)) (let s : first + k ≡ next = omega arith in s))
    (λ l. ap (λ n. listed n (take k slots)) (let s : start ≡ next = omega arith in s) ∙ ap (λ n. listed next (take n slots)) (let s : k ≡ 0 = omega arith in s) ∙ sym (take_within first next slots l))
    (cases_lt first next)

starts_take : {Z : Type 0} (slots : List (Slot Z)) (k : ℕ) → StartsOpen slots → StartsOpen (take k slots)
starts_take slots zero h = tt
starts_take [] (suc k) h = h
starts_take (slot ∷ slots) (suc k) h = h

unmarked_take : (L : List Ticket) (m n : ℕ) → AreUnmarked L m → AreUnmarked (take n L) m
unmarked_take L m n u t l =
    ⊎_elim
    (λ w. ap (λ (y : Ticket). y.stray) (get_or-take n L t ended w) ∙ u t l)
    (λ past. ap (λ (y : Ticket). y.stray) (get_or_past (take n L) t ended (let e = length-take n L in omega arith)))
    (cases_lt t n)

queued_take : {Z : Type 0} (first next k start m : ℕ) (slots : List (Slot Z)) → AreQueued first slots m → 1 ≤ next → k ≡ next - first → start ≡ min first next → AreQueued start (take k slots) m
queued_take first next k start m slots g one e f = record {
  some = (let s = g.some in omega arith);
  fits = (let s = g.fits in let z = length-take k slots in omega arith);
  starts = starts_take slots k g.starts;
  marks = subst (λ xs. AreUnmarked xs m) (sym (take_queue first next k start slots e f)) (unmarked_take (listed first slots) m next g.marks);
}

-- how many slots stay, the number of the first then, and how many are gone
pub record Cut (first gone next k start left : ℕ) : Type 0 where
  pub k_is : k ≡ next - first
  pub start_is : start ≡ min first next
  pub left_is : left ≡ min gone k

drop_take : {Z : Type 0} {first gone next k start left : ℕ} (slots : List (Slot Z)) → Cut first gone next k start left → drop left (take k slots) ≡ take (next - (first + gone)) (drop gone slots)
drop_take {Z} {first} {gone} {next} {k} {start} {left} slots c =
    let k_is = c.k_is in
    let left_is = c.left_is in
    ⊎_elim
    (λ l. drop_all left (take k slots) (let t = length-take k slots in omega arith) ∙ ap (λ n. take n (drop gone slots)) (let e : 0 ≡ next - (first + gone) = omega arith in e))
    (λ l.
    ap (λ n. drop left (take n slots)) (let e : k ≡ gone + (next - (first + gone)) = omega arith in e)
    ∙ ap (λ n. drop n (take (gone + (next - (first + gone))) slots)) (let e : left ≡ gone = omega arith in e)
    ∙ drop-take gone (next - (first + gone)) slots)
    (cases_lt k gone)

cut_start : {first gone next k start left : ℕ} → Cut first gone next k start left → start + left ≡ min (first + gone) next
cut_start c = let k_is = c.k_is in let start_is = c.start_is in let left_is = c.left_is in omega arith

pub taken : {Z : Type 0} {first gone next k start left : ℕ} {L : List Ticket} (slots : List (Slot Z)) → Cut first gone next k start left → listed (first + gone) (drop gone slots) ≡ L → listed (start + left) (drop left (take k slots)) ≡ take next L
taken {Z} {first} {gone} {next} {k} {start} {left} slots c e =
    ap (listed (start + left)) (drop_take slots c)
    ∙ take_queue (first + gone) next (next - (first + gone)) (start + left) (drop gone slots) refl (cut_start c)
    ∙ ap (take next) e

pub slots_take : {Z : Type 0} {first gone next k start left m : ℕ} {slots : List (Slot Z)} → Cut first gone next k start left → AreSlots first gone slots m → 1 ≤ next → AreSlots start left (take k slots) m
slots_take {Z} {first} {gone} {next} {k} {start} {left} {m} {slots} c g one = record {
  within = (let within = g.within in let t = length-take k slots in let left_is = c.left_is in omega arith);
  queued = subst (λ xs. AreQueued (start + left) xs m) (sym (drop_take slots c)) (queued_take (first + gone) next (next - (first + gone)) (start + left) m (drop gone slots) g.queued one refl (cut_start c));
}

-- ---- no ticket is given

pub listed_none : (Z : Type 0) → listed {Z = Z} 1 [] ≡ ended ∷ []
unfolding listed
listed_none Z = refl

pub slots_none : {Z : Type 0} (m : ℕ) → AreSlots {Z = Z} 1 0 [] m
unfolding listed
slots_none m = record { within = omega arith; queued = record { some = omega arith; fits = omega arith; starts = tt; marks = none } }
  where
    none : (t : ℕ) → t < m → (ticket_at (ended ∷ []) t).stray ≡ false
    none zero l = refl
    none (suc t) l = refl

-- ---- no ticket is open

pub quiet : {Z : Type 0} (first : ℕ) (slots : List (Slot Z)) (L : List Ticket) → listed first slots ≡ L → length slots ≡ 0 → AreQuiet L
quiet first slots L e none t =
    ap (λ xs. (ticket_at xs t).goal) (sym e) ∙ ⊎_elim
    (λ l. ap (λ (x : Ticket). x.goal) (read_before first slots t l))
    (λ past. ap (λ (x : Ticket). x.goal) (read_past first slots t (omega arith)))
    (cases_lt t first)

first_open : {Z : Type 0} (first : ℕ) (slot : Slot Z) (slots : List (Slot Z)) → IsSome slot → (ticket_at (listed first (slot ∷ slots)) first).goal ≡ Ended → ⊥
first_open first None slots some e = absurd (cc)
first_open first (Some x) slots some e =
    shown_open x.goal x.stray
    (sym (ap (λ (y : Ticket). y.goal) (ap (λ n. ticket_at (listed first (Some x ∷ slots)) n) (let z : first ≡ first + 0 = omega arith in z) ∙ read_at first (Some x ∷ slots) 0 (Some x) (omega arith) refl)) ∙ e)

pub not_quiet : {Z : Type 0} (first : ℕ) (slots : List (Slot Z)) (L : List Ticket) → StartsOpen slots → listed first slots ≡ L → AreQuiet L → length slots ≡ 0
not_quiet first [] L some e q = refl
not_quiet first (slot ∷ slots) L some e q = absurd (first_open first slot slots some (ap (λ xs. (ticket_at xs first).goal) e ∙ q first))

-- ---- walks over the queue from its front

-- no ticket below a number passes a test
abbrev pub NonePassBelow : (Ticket → Bool) → List Ticket → ℕ → Type 0
NonePassBelow p L n = (t : ℕ) → t < n → p (ticket_at L t) ≡ false

pub below_first : {Z : Type 0} (p : Ticket → Bool) (first : ℕ) (slots : List (Slot Z)) (L : List Ticket) → p ended ≡ false → listed first slots ≡ L → NonePassBelow p L first
below_first p first slots L fails e t l = ap (λ xs. p (ticket_at xs t)) (sym e) ∙ ap p (read_before first slots t l) ∙ fails

-- what each has that is at or after a number that the walk has come to
pub least : (p : Ticket → Bool) (L : List Ticket) (n u : ℕ) → NonePassBelow p L n → p (ticket_at L u) ≡ true → n ≤ u
least p L n u h passes = ⊎_elim (λ l. absurd (false≢true (sym (h u l) ∙ passes))) (λ le. le) (cases_lt u n)

pub none_left : {Z : Type 0} {first gone m : ℕ} {slots : List (Slot Z)} {L : List Ticket} (p : Ticket → Bool) (n : ℕ) → p ended ≡ false → AreSlots first gone slots m → listed (first + gone) (drop gone slots) ≡ L → NonePassBelow p L n → first + length slots ≤ n → (u : ℕ) → p (ticket_at L u) ≡ true → ⊥
none_left {Z} {first} {gone} {m} {slots} {L} p n fails g e h past u passes =
    let long = length_shown g e in
    false≢true (sym (ap p (get_or_past L u ended (let l = least p L n u h passes in omega arith)) ∙ fails) ∙ passes)

-- what it has at a place
pub at_place : {Z : Type 0} {first gone m : ℕ} {slots : List (Slot Z)} {L : List Ticket} {slot : Slot Z} (k : ℕ) → AreSlots first gone slots m → listed (first + gone) (drop gone slots) ≡ L → gone ≤ k → k < length slots → slot ≡ get_or slots k slot → ticket_at L (first + k) ≡ shown_or_ended slot
at_place {Z} {first} {gone} {m} {slots} {L} {slot} k g e behind l is =
    let stands : Stands first gone slots (first + k) k = record { at = refl; behind = behind; within = l } in
    here stands e is

-- a step over a slot whose ticket fails
pub next_place : {Z : Type 0} {first gone m : ℕ} {slots : List (Slot Z)} {L : List Ticket} {slot : Slot Z} (p : Ticket → Bool) (k : ℕ) → AreSlots first gone slots m → listed (first + gone) (drop gone slots) ≡ L → gone ≤ k → k < length slots → slot ≡ get_or slots k slot → NonePassBelow p L (first + k) → p (shown_or_ended slot) ≡ false → NonePassBelow p L (first + (k + 1))
next_place {Z} {first} {gone} {m} {slots} {L} {slot} p k g e behind l is h fails = subst (NonePassBelow p L) (let z : first + k + 1 ≡ first + (k + 1) = omega arith in z) (below_more (λ t. p (ticket_at L t) ≡ false) (first + k) h (ap p (at_place k g e behind l is) ∙ fails))

-- ---- marks

-- where the walk begins
pub below_start : {Z : Type 0} {first gone m : ℕ} {slots : List (Slot Z)} {L : List Ticket} (start : ℕ) → AreSlots first gone slots m → listed (first + gone) (drop gone slots) ≡ L → start ≡ max (m - first) gone → NonePassBelow (λ (x : Ticket). x.stray) L (first + start)
below_start {Z} {first} {gone} {m} {slots} {L} start g e is t l =
    ⊎_elim
    (λ before. below_first (λ (x : Ticket). x.stray) (first + gone) (drop gone slots) L refl e t before)
    (λ after. ap (λ xs. (ticket_at xs t).stray) (sym e) ∙ g.queued.marks t (omega arith))
    (cases_lt t (first + gone))

-- what the walk has found: marks from a number on
pub slots_least : {Z : Type 0} {first gone m : ℕ} {slots : List (Slot Z)} {L : List Ticket} (n : ℕ) → AreSlots first gone slots m → listed (first + gone) (drop gone slots) ≡ L → ((u : ℕ) → IsStray L u → n ≤ u) → AreSlots first gone slots n
slots_least {Z} {first} {gone} {m} {slots} {L} n g e h = record {
  within = g.within;
  queued = record { some = g.queued.some; fits = g.queued.fits; starts = g.queued.starts; marks = subst (λ xs. AreUnmarked xs n) (sym e) (λ t l. false_from_ne_true (ticket_at L t).stray (λ e. (let le : n ≤ t = h t e in omega arith))) };
}

-- ---- a ticket that no other seat holds

-- the test
abbrev pub free : ℕ → Ticket → Bool
free seat x = is_open_for seat (state_in x)

open_for : (seat : ℕ) (s : TicketState) → is_open_for seat s ≡ true → IsOpenFor seat s
open_for seat states.Waiting h = waits_for seat
open_for seat (states.Held holder) h = let e : holder ≡ seat = true-eqb holder seat (sym h) in subst (λ z. IsOpenFor seat (states.Held z)) (sym e) (held_for seat)
open_for seat states.Resting h = rests_for seat
open_for seat s h = absurd (false≢true h)

is_open : (seat : ℕ) (s : TicketState) → IsOpenFor seat s → is_open_for seat s ≡ true
is_open _ _ (waits_for seat) = refl
is_open _ _ (held_for seat) = grind (arith, nat_tests)
is_open _ _ (rests_for seat) = refl

free_there : (seat : ℕ) (L : List Ticket) (t : ℕ) → IsOpenFor seat (state_of L t) → free seat (ticket_at L t) ≡ true
free_there seat L t h =
    let yes = is_open seat (state_of L t) h in
    ap (is_open_for seat) (state_found L t (state_of L t) refl (λ u. false≢true (sym (ap (is_open_for seat) u) ∙ yes))) ∙ yes

pub least_for : (seat : ℕ) (L : List Ticket) (t : ℕ) → NonePassBelow (free seat) L t → 1 ≤ t → t < length L → free seat (ticket_at L t) ≡ true → IsLeastFor L seat t
least_for seat L t h one l passes = record {
  free = subst (IsOpenFor seat) (sym (state_known L t one l)) (open_for seat (state_in (ticket_at L t)) passes);
  least = λ u k. least (free seat) L t u h (free_there seat L u k);
}

pub none_for : (seat : ℕ) (L : List Ticket) → ((u : ℕ) → free seat (ticket_at L u) ≡ true → ⊥) → NoneFor L seat
none_for seat L h t k = h t (free_there seat L t k)
