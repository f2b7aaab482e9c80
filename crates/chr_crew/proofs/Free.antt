-- Tickets that wait or rest.
use Rattle.std.proofs.Common.{◌≡◌, ℕ, zero, suc, ◌+◌, ◌<◌, ◌≤◌, ◌⊎◌, inl, inr, Bool, true, false, nat_lt, if◌then◌else◌, List, [], ◌∷◌, ◌++◌, length, get_or, Option, Some, None, refl, sym, ◌∙◌, ap, subst, arith}
use Rattle.std.specs.Prelude.{Contains}
use Rattle.std.specs.List.Sorted.{IsStrictlyIncreasing}
use Rattle.std.proofs.Math.ListN.{get_or-append}
use Rattle.std.proofs.lemmas.List.{get_or_push, length_push}
use Rattle.std.proofs.lemmas.List.Elements.{Contains-get_or, Contains-push, Contains-push_cases, Contains-append_left}
use Rattle.std.proofs.lemmas.Bool.{cases_lt}
use Rattle.std.proofs.lemmas.Bool.Decides.{nat_tests}
use Rattle.chr_model.specs.Goals.{Goal, Plain, Numbered}
use Rattle.chr_model.specs.Goals as goals
use Rattle.chr_calls.specs.declared.answers.TicketState.{TicketState}
use Rattle.chr_calls.specs.declared.answers.TicketState.TheVariants.{Unknown, Waiting, Held, Resting, Ended}
use Rattle.chr_calls.specs.Tickets.{Ticket, ticket_at, state_with, state_of, IsClaimable, waits, rests}
use Rattle.chr_crew.specs.Pools.{AreFree}

-- ---- what a state tells

-- a ticket that was given is within the list, and this is what its goal and its holder tell
given_is : (ts : List Ticket) (t : ℕ) (s : TicketState) → (s ≡ Unknown → ⊥) → state_of ts t ≡ s → (1 ≤ t) × (t < length ts) × (state_with (ticket_at ts t).goal (ticket_at ts t).holder ≡ s)
given_is ts zero s known h = absurd (known (sym h))
given_is ts (suc t) s known h = tested (nat_lt (suc t) (length ts)) refl h
  where
    tested : (c : Bool) → nat_lt (suc t) (length ts) ≡ c → (if c then state_with (ticket_at ts (suc t)).goal (ticket_at ts (suc t)).holder else Unknown) ≡ s → (1 ≤ suc t) × (suc t < length ts) × (state_with (ticket_at ts (suc t)).goal (ticket_at ts (suc t)).holder ≡ s)
    tested true e i = (omega arith, grind (arith, nat_tests), i)
    tested false e i = absurd (known (sym i))

-- the state of a ticket that was given
given_state : (ts : List Ticket) (t : ℕ) → 1 ≤ t → t < length ts → state_of ts t ≡ state_with (ticket_at ts t).goal (ticket_at ts t).holder
given_state ts zero low within = absurd (omega arith)
given_state ts (suc t) low within =
    let test : nat_lt (suc t) (length ts) ≡ true = grind (arith, nat_tests) in
    ap (λ c. if c then state_with (ticket_at ts (suc t)).goal (ticket_at ts (suc t)).holder else Unknown) test

claimable_known : (s : TicketState) → IsClaimable s → s ≡ Unknown → ⊥
claimable_known Waiting waits e = cc
claimable_known Resting rests e = cc
claimable_known Unknown c e = elim c [ ]
claimable_known (Held seat) c e = elim c [ ]
claimable_known Ended c e = elim c [ ]

claimable_within : (ts : List Ticket) (t : ℕ) → IsClaimable (state_of ts t) → (1 ≤ t) × (t < length ts)
claimable_within ts t c = let g = given_is ts t (state_of ts t) (claimable_known (state_of ts t) c) refl in (g.0, g.1)

-- an unknown ticket is past all
pub unknown_past : (ts : List Ticket) (t : ℕ) → 1 ≤ t → state_of ts t ≡ Unknown → length ts ≤ t
unknown_past ts t low h = by_cases (cases_lt t (length ts))
  where
    known : (x : Goal) (o : Option ℕ) → state_with x o ≡ Unknown → ⊥
    known (Plain a) o e = cc
    known (Numbered l) (Some s) e = cc
    known (Numbered l) None e = cc
    known goals.Ended o e = cc

    by_cases : (t < length ts) ⊎ (length ts ≤ t) → length ts ≤ t
    by_cases (inl within) = absurd (known (ticket_at ts t).goal (ticket_at ts t).holder (sym (given_state ts t low within) ∙ h))
    by_cases (inr past) = past

-- a ticket that waits or rests can be claimed
pub claimable_free : (s : TicketState) → (s ≡ Waiting) ⊎ (s ≡ Resting) → IsClaimable s
claimable_free s (inl is) = subst IsClaimable (sym is) waits
claimable_free s (inr is) = subst IsClaimable (sym is) rests

-- a ticket in a state in which it can't be claimed
pub not_claimable : (s other : TicketState) → s ≡ other → (IsClaimable other → ⊥) → IsClaimable s → ⊥
not_claimable s other is none c = none (subst IsClaimable is c)

pub unclaimable_held : (seat : ℕ) → IsClaimable (Held seat) → ⊥
unclaimable_held seat c = elim c [ ]

pub unclaimable_ended : IsClaimable Ended → ⊥
unclaimable_ended c = elim c [ ]

-- ---- those that wait or rest

-- the same of those below a number
pub record AreFreeBelow (tickets : List Ticket) (n : ℕ) (free : List ℕ) : Type 0 where
  pub rising : IsStrictlyIncreasing free
  pub are : (t : ℕ) → Contains free t → (t < n) × IsClaimable (state_of tickets t)
  pub all : (t : ℕ) → t < n → IsClaimable (state_of tickets t) → Contains free t

pub none_below : (tickets : List Ticket) → AreFreeBelow tickets 1 []
none_below tickets = record {
  rising = λ k within. absurd (omega arith);
  are = λ t c. absurd (let within = c.1 in omega arith);
  all = λ t below c. absurd (let low = (claimable_within tickets t c).0 in omega arith);
}

rising_more : (free : List ℕ) (n : ℕ) → IsStrictlyIncreasing free → ((t : ℕ) → Contains free t → t < n) → IsStrictlyIncreasing (free ++ n ∷ [])
rising_more free n rising below k within = by_cases (cases_lt (k + 1) (length free))
  where
    long : length (free ++ n ∷ []) ≡ length free + 1
    long = length_push free n

    here : k < length free
    here = omega (arith, within, long)

    first : get_or (free ++ n ∷ []) k 0 ≡ get_or free k 0
    first = get_or-append free (n ∷ []) 0 k here

    by_cases : (k + 1 < length free) ⊎ (length free ≤ k + 1) → get_or (free ++ n ∷ []) k 0 < get_or (free ++ n ∷ []) (k + 1) 0
    by_cases (inl inside) = omega (arith, first, get_or-append free (n ∷ []) 0 (k + 1) inside, rising k inside)
    by_cases (inr last) =
        omega (arith, first, get_or_push free n 0 (k + 1) (omega (arith, last, here)), below (get_or free k 0) (Contains-get_or free k 0 here))

pub free_more : (tickets : List Ticket) (n : ℕ) (free : List ℕ) → AreFreeBelow tickets n free → IsClaimable (state_of tickets n) → AreFreeBelow tickets (n + 1) (free ++ n ∷ [])
free_more tickets n free f c = record {
  rising = rising_more free n f.rising (λ t in'. (f.are t in').0);
  are = λ t in'. is_one t (Contains-push_cases free n t in');
  all = λ t below claimable. is_there t (cases_lt t n) below claimable;
}
  where
    is_one : (t : ℕ) → Contains free t ⊎ (n ≡ t) → (t < n + 1) × IsClaimable (state_of tickets t)
    is_one t (inl in') = (let low = (f.are t in').0 in omega arith, (f.are t in').1)
    is_one t (inr same) = (omega (arith, same), subst (λ u. IsClaimable (state_of tickets u)) same c)

    is_there : (t : ℕ) → (t < n) ⊎ (n ≤ t) → t < n + 1 → IsClaimable (state_of tickets t) → Contains (free ++ n ∷ []) t
    is_there t (inl low) below claimable = Contains-append_left free (n ∷ []) t (f.all t low claimable)
    is_there t (inr high) below claimable = let same : n ≡ t = omega (arith, high, below) in subst (Contains (free ++ n ∷ [])) same (Contains-push free n)

pub free_same : (tickets : List Ticket) (n : ℕ) (free : List ℕ) → AreFreeBelow tickets n free → (IsClaimable (state_of tickets n) → ⊥) → AreFreeBelow tickets (n + 1) free
free_same tickets n free f none = record {
  rising = f.rising;
  are = λ t in'. (let low = (f.are t in').0 in omega arith, (f.are t in').1);
  all = λ t below claimable. is_there t (cases_lt t n) below claimable;
}
  where
    is_there : (t : ℕ) → (t < n) ⊎ (n ≤ t) → t < n + 1 → IsClaimable (state_of tickets t) → Contains free t
    is_there t (inl low) below claimable = f.all t low claimable
    is_there t (inr high) below claimable = let same : t ≡ n = omega (arith, high, below) in absurd (none (subst (λ u. IsClaimable (state_of tickets u)) same claimable))

pub free_all : (tickets : List Ticket) (n : ℕ) (free : List ℕ) → AreFreeBelow tickets n free → length tickets ≤ n → AreFree tickets free
free_all tickets n free f all = record {
  rising = f.rising;
  exactly = λ t. (λ in'. (f.are t in').1, λ claimable. f.all t (let within = (claimable_within tickets t claimable).1 in omega (arith, within, all)) claimable);
}
