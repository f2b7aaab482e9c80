-- What calls do to a book: which atoms they post, that they keep what it keeps, and that no search moves back.
use Rattle.std.proofs.Common.{◌≡◌, ℕ, ◌+◌, ◌<◌, ◌≤◌, Bool, true, false, List, [], ◌∷◌, ◌++◌, length, length-append, None, refl, sym, ◌∙◌, ap, subst, arith, slice_set, true≢false, append-nil, append_assoc}
use Rattle.std.proofs.lemmas.List.{length-set}
use Rattle.chr_value.specs.Atoms.{Atom}
use Rattle.chr_log.specs.Events.{Event}
use Rattle.chr_model.specs.Goals.{Plain, Numbered}
use Rattle.chr_model.specs.Goals as goals
use Rattle.chr_model.specs.Logs.{posted_by}
use Rattle.chr_search.specs.Positions.{at_or_after}
use Rattle.chr_search.specs.Verdicts.{Trial, position}
use Rattle.chr_search.specs.declared.judged.Verdict.{Verdict}
use Rattle.chr_search.specs.declared.judged.Verdict.TheVariants as verdicts
use Rattle.chr_search.specs.Answers.{after_verdict}
use Rattle.chr_search.proofs.Positions.{after_itself, after_by}
use Rattle.chr_search.proofs.Searching.{moves_after, moves_past}
use Rattle.chr_calls.specs.Tickets.{Ticket, going_on, ticket_at}
use Rattle.chr_calls.specs.Books.{BookState, events, with_ticket, with_entry}
use Rattle.chr_calls.specs.Calls.{HoldsCandidate}
use Rattle.chr_calls.specs.Headline.{IsKept}
use Rattle.chr_calls.specs.Moves.{MovesOn}
use Rattle.chr_calls.proofs.Tickets.{set_each, ticket_same, ticket_before, held_is, posts_appended, events_more, kept_forgotten}

-- ---- positions

pub is_false : (c : Bool) → (c ≡ true → ⊥) → c ≡ false
is_false true h = absurd (h refl)
is_false false h = refl

-- where a search goes on from its candidate
pub judged_on : (place : List ℕ) (trial : Trial) (v : Verdict) → at_or_after place (position trial) ≡ true → (at_or_after place (after_verdict v (position trial)) ≡ true) × (at_or_after (after_verdict v (position trial)) place ≡ false)
judged_on place trial verdicts.Part h = moves_after place (position trial) h
judged_on place trial verdicts.Whole h = moves_past place (position trial) (λ e. cc) h
judged_on place trial verdicts.Misfit h = moves_past place (position trial) (λ e. cc) h

-- ---- tickets

-- what becomes of a ticket: one that waits may become anything, a search stays or moves on, and what has ended stays so
pub data Comes (x y : Ticket) : Type 0 where
  was_plain : (a : Atom ℕ) → x.goal ≡ Plain a → Comes x y
  is_searched : x.goal ≡ y.goal → at_or_after x.position y.position ≡ true → Comes x y
  is_over : y.goal ≡ goals.Ended → Comes x y

same_comes : (x y : Ticket) → y ≡ x → Comes x y
same_comes x y e = subst (Comes x) (sym e) (is_searched refl (after_itself x.position))

comes_by : (x y z : Ticket) → Comes x y → Comes y z → Comes x z
comes_by x y z (was_plain a e) f = was_plain a e
comes_by x y z (is_searched e h) (was_plain a f) = was_plain a (e ∙ f)
comes_by x y z (is_searched e h) (is_searched f i) = is_searched (e ∙ f) (after_by x.position y.position z.position h i)
comes_by x y z (is_searched e h) (is_over f) = is_over f
comes_by x y z (is_over e) (was_plain a f) = absurd (let w : goals.Ended ≡ Plain a = sym e ∙ f in cc)
comes_by x y z (is_over e) (is_searched f i) = is_over (sym f ∙ e)
comes_by x y z (is_over e) (is_over f) = is_over f

pub record Follow (old new : List Ticket) : Type 0 where
  pub more : length old ≤ length new
  pub each : (t : ℕ) → t < length old → Comes (ticket_at old t) (ticket_at new t)

pub follow_by : (xs ys zs : List Ticket) → Follow xs ys → Follow ys zs → Follow xs zs
follow_by xs ys zs f g =
    let le : length xs ≤ length ys = f.more in
    let le2 : length ys ≤ length zs = g.more in
    record { more = omega arith; each = λ t within. comes_by (ticket_at xs t) (ticket_at ys t) (ticket_at zs t) (f.each t within) (g.each t (let low : t < length xs = within in omega arith)) }

-- one is set
pub set_follows : (ts : List Ticket) (t : ℕ) (x : Ticket) → Comes (ticket_at ts t) x → Follow ts (slice_set ts t x)
set_follows ts t x c = record {
  more = (let e : length (slice_set ts t x) ≡ length ts = length-set ts t x in omega arith);
  each = λ u within. set_each (λ v y. Comes (ticket_at ts v) y) ts t x c (λ v. same_comes (ticket_at ts v) (ticket_at ts v) refl) u;
}

-- some are appended
pub more_follow : (ts more : List Ticket) → Follow ts (ts ++ more)
more_follow ts more = record { more = (let e : length (ts ++ more) ≡ length ts + length more = length-append ts more in omega arith); each = λ t within. same_comes (ticket_at ts t) (ticket_at (ts ++ more) t) (ticket_before ts more t within) }

-- ---- a call that writes no entry and changes no goal

pub record Searches (b n : BookState) : Type 0 where
  pub silent : events n ≡ events b
  pub many : length n.tickets ≡ length b.tickets
  pub goals : (u : ℕ) → (ticket_at b.tickets u).goal ≡ (ticket_at n.tickets u).goal
  pub kept : IsKept b → IsKept n
  pub on : IsKept b → (u : ℕ) → at_or_after (ticket_at b.tickets u).position (ticket_at n.tickets u).position ≡ true

pub searches_same : (b n : BookState) → n ≡ b → Searches b n
searches_same b n e = subst (Searches b) (sym e) (record { silent = refl; many = refl; goals = λ u. refl; kept = λ k. k; on = λ k u. after_itself (ticket_at b.tickets u).position })

pub searches_by : (b m n : BookState) → Searches b m → Searches m n → Searches b n
searches_by b m n f g = record {
  silent = g.silent ∙ f.silent;
  many = g.many ∙ f.many;
  goals = λ u. f.goals u ∙ g.goals u;
  kept = λ k. g.kept (f.kept k);
  on = λ k u. after_by (ticket_at b.tickets u).position (ticket_at m.tickets u).position (ticket_at n.tickets u).position (f.on k u) (g.on (f.kept k) u);
}

-- one ticket is set: its search goes on, or stays, and perhaps its candidate is forgotten
pub searches_set : (b n : BookState) (t : ℕ) (x : Ticket) → n ≡ with_ticket b t x → x.goal ≡ (ticket_at b.tickets t).goal → (IsKept b → IsKept (with_ticket b t x)) → (IsKept b → at_or_after (ticket_at b.tickets t).position x.position ≡ true) → Searches b n
searches_set b n t x is same kept on = subst (Searches b) (sym is) (record {
  silent = refl;
  many = length-set b.tickets t x;
  goals = set_each (λ u y. (ticket_at b.tickets u).goal ≡ y.goal) b.tickets t x (sym same) (λ u. refl);
  kept = kept;
  on = λ k. set_each (λ u y. at_or_after (ticket_at b.tickets u).position y.position ≡ true) b.tickets t x (on k) (λ u. after_itself (ticket_at b.tickets u).position);
})

pub searches_stay : (b n : BookState) (t : ℕ) (x : Ticket) → n ≡ with_ticket b t x → x.goal ≡ (ticket_at b.tickets t).goal → x.position ≡ (ticket_at b.tickets t).position → (IsKept b → IsKept (with_ticket b t x)) → Searches b n
searches_stay b n t x is same place kept = searches_set b n t x is same kept (λ k. subst (λ p. at_or_after (ticket_at b.tickets t).position p ≡ true) (sym place) (after_itself (ticket_at b.tickets t).position))

pub searches_forget : (b n : BookState) (t : ℕ) (x : Ticket) → n ≡ with_ticket b t x → x.goal ≡ (ticket_at b.tickets t).goal → x.position ≡ (ticket_at b.tickets t).position → x.candidate ≡ None → Searches b n
searches_forget b n t x is same place none = searches_stay b n t x is same place (kept_forgotten b t x same place none)

-- ---- a search that moves on

pub on_from : (b : BookState) (seat t : ℕ) (trial : Trial) (v : Verdict) → IsKept b → HoldsCandidate b seat t trial → MovesOn b t (with_ticket b t (going_on (after_verdict v (position trial)) (ticket_at b.tickets t)))
on_from b seat t trial v k h =
    let x = ticket_at b.tickets t in
    let y = going_on (after_verdict v (position trial)) x in
    subst (λ (z : Ticket). at_or_after z.position x.position ≡ false) (sym (ticket_same b.tickets t y (held_is b.tickets t seat h.held).within)) (judged_on x.position trial v (k.ahead t trial h.candidate)).1

-- before or after that it stays or goes on
pub first_stays : (b m n : BookState) (t : ℕ) → IsKept b → Searches b m → MovesOn m t n → MovesOn b t n
first_stays b m n t k f g = is_false _ (λ e. true≢false (sym (after_by (ticket_at n.tickets t).position (ticket_at b.tickets t).position (ticket_at m.tickets t).position e (f.on k t)) ∙ g))

pub then_stays : (b m n : BookState) (t : ℕ) → IsKept m → MovesOn b t m → Searches m n → MovesOn b t n
then_stays b m n t k f g = is_false _ (λ e. true≢false (sym (after_by (ticket_at m.tickets t).position (ticket_at n.tickets t).position (ticket_at b.tickets t).position (g.on k t) e) ∙ f))

-- ---- any call

-- the book after a call has posted these more
abbrev pub HasPosted : BookState → BookState → List (Atom ℕ) → Type 0
HasPosted b n atoms = posted_by (events n) ≡ posted_by (events b) ++ atoms

pub record Leads (b n : BookState) (atoms : List (Atom ℕ)) : Type 0 where
  pub posted : HasPosted b n atoms
  pub kept : IsKept b → IsKept n
  pub follows : IsKept b → Follow b.tickets n.tickets

pub leads_search : (b n : BookState) → Searches b n → Leads b n []
leads_search b n s = record {
  posted = ap posted_by s.silent ∙ sym (append-nil (posted_by (events b)));
  kept = s.kept;
  follows = λ k. record { more = (let e : length n.tickets ≡ length b.tickets = s.many in omega arith); each = λ t within. is_searched (s.goals t) (s.on k t) };
}

pub leads_same : (b n : BookState) → n ≡ b → Leads b n []
leads_same b n e = leads_search b n (searches_same b n e)

-- one that writes an entry
pub leads_entry : (b n m : BookState) (seat : ℕ) (e : Event ℕ) → n ≡ m → events m ≡ events (with_entry b seat e) → (IsKept b → IsKept m) → (IsKept b → Follow b.tickets m.tickets) → Leads b n (posted_by (e ∷ []))
leads_entry b n m seat e is entry kept follows =
    subst (λ (z : BookState). Leads b z (posted_by (e ∷ []))) (sym is) (record { posted = ap posted_by (entry ∙ events_more b seat e) ∙ posts_appended (events b) (e ∷ []); kept = kept; follows = follows })

pub leads_by : (b m n : BookState) (xs ys : List (Atom ℕ)) → Leads b m xs → Leads m n ys → Leads b n (xs ++ ys)
leads_by b m n xs ys f g = record {
  posted = g.posted ∙ ap (λ (zs : List (Atom ℕ)). zs ++ ys) f.posted ∙ append_assoc (posted_by (events b)) xs ys;
  kept = λ k. g.kept (f.kept k);
  follows = λ k. follow_by b.tickets m.tickets n.tickets (f.follows k) (g.follows (f.kept k));
}
