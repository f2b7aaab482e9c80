-- A trial that is fired, and one that is missed.
use Rattle.std.proofs.Common.{◌≡◌, ℕ, zero, suc, ◌+◌, ◌<◌, ◌≤◌, inl, inr, Bool, true, false, not, ◌==◌, ltb, if◌then◌else◌, List, [], ◌∷◌, ◌++◌, map, length, length-append, Option, Some, None, Result, Ok, Err, refl, sym, ◌∙◌, ap, ap₂, subst, arith, slice_set, true≢false, true-eqb}
use Rattle.std.specs.List.{AllByRecursion}
use Rattle.std.proofs.lemmas.Bool.Decides.{nat_tests}
use Rattle.std.proofs.lemmas.List.{length-set}
use Rattle.chr_value.specs.Atoms.{Atom}
use Rattle.chr_log.specs.Events.{Fire}
use Rattle.chr_log.specs.declared.events.Version.TheVariants.{Two}
use Rattle.chr_model.specs.Stores.{Store, atom_at, without, among, Distinct, Labelled}
use Rattle.chr_model.specs.Goals.{Goal, Numbered, goal_at}
use Rattle.chr_model.specs.Steps.{Step}
use Rattle.chr_model.specs.Steps as steps
use Rattle.chr_model.specs.Programs.{Instances}
use Rattle.chr_model.specs.Searches.{YoungestAreGoals}
use Rattle.chr_model.proofs.Stores.{atom_at-kept, atom_at-without, among-itself, among-more}
use Rattle.chr_model.proofs.Youngest.{young_simplified, young_propagated}
use Rattle.chr_plan.specs.Orders.{heads_of}
use Rattle.chr_search.specs.Positions.{at_or_after, past}
use Rattle.chr_search.specs.Verdicts.{Placed, Trial, labels, position, label_at, labels_from, kept_labels, removed_labels, IsFormed, IsWhole, WasTrialOf}
use Rattle.chr_search.specs.Reach.{HasNoMore, over, Searching}
use Rattle.chr_search.specs.declared.judged.Verdict.TheVariants as verdicts
use Rattle.chr_search.specs.Judged.{Judgement, IsVerdict}
use Rattle.chr_search.specs.Answers.{after_verdict}
use Rattle.chr_search.proofs.Searching.{shrunk, moved_past}
use Rattle.chr_search.proofs.Outcomes.{gone_none}
use Rattle.chr_calls.specs.declared.answers.Firing.{Firing}
use Rattle.chr_calls.specs.declared.answers.Firing.TheVariants as firing
use Rattle.chr_calls.specs.declared.answers.Fired.{Fired}
use Rattle.chr_calls.specs.declared.answers.FireFault.{FireFault}
use Rattle.chr_calls.specs.declared.answers.FireFault.TheVariants as fire
use Rattle.chr_calls.specs.Tickets.{Ticket, ended, waiting, going_on, ticket_at}
use Rattle.chr_calls.specs.Books.{BookState, goal_state, space_of, with_ticket}
use Rattle.chr_calls.specs.Calls.{AreLive, FiresOrMisses, fired_ticket, fired}
use Rattle.chr_calls.specs.Headline.{IsCandidate, IsKept}
use Rattle.chr_calls.specs.Moves.{MovesOn}
use Rattle.chr_calls.proofs.Tickets.{all_map, set_each, goal_there, goals_set, goals_stay, goals_waiting, goals_appended, waiting_each, IsKeptTicket, ticket_kept, kept_without, ended_kept, waiting_kept, still_kept, stepped_kept, moved_keeps, ticket_same, ticket_before, held_is}
use Rattle.chr_calls.proofs.Turning.{searching_of}
use Rattle.chr_calls.proofs.Leading.{is_false, judged_on, Comes, is_searched, is_over, follow_by, set_follows, more_follow, searches_set, on_from, Leads, leads_search, leads_same, leads_entry}

-- ---- a trial of which a label has left the store

-- of labels that aren't all in the store, one that has left it
one_gone : (store : Store) (ps : List Placed) → (AllByRecursion (λ p. (atom : Atom ℕ) × (atom_at store p.label ≡ Some atom)) ps → ⊥) → (l : ℕ) × (among (map (λ (p : Placed). p.label) ps) l ≡ true) × (atom_at store l ≡ None)
one_gone store [] none = absurd (none tt)
one_gone store (p ∷ ps) none =
    elim (atom_at store p.label) as (λ o. (atom_at store p.label ≡ o) → (l : ℕ) × (among (p.label ∷ map (λ (q : Placed). q.label) ps) l ≡ true) × (atom_at store l ≡ None)) [
      | None ↦ λ e. (p.label, among-itself p.label (map (λ (q : Placed). q.label) ps), e)
      | Some a ↦ λ e.
          let more = one_gone store ps (λ all. none ((a, e), all)) in
          (more.0, among-more p.label (map (λ (q : Placed). q.label) ps) more.0 more.1, more.2)
    ] refl

-- the search of its ticket goes on past it
past_gone : (b : BookState) (t l g : ℕ) (trial : Trial) → (ticket_at b.tickets t).goal ≡ Numbered l → (ticket_at b.tickets t).candidate ≡ Some trial → among (labels trial) g ≡ true
    → (store : Store) → HasNoMore (space_of b l) store → atom_at store g ≡ None → IsKept b → Searching (over (space_of b l) store) (past (position trial)) None
past_gone b t l g trial at c named store less gone k =
    let place : List ℕ = (ticket_at b.tickets t).position in
    moved_past (over (space_of b l) store) place (position trial) (shrunk (space_of b l) k.plans store less place (Some (position trial)) (searching_of b t trial k c l at)) (gone_none (over (space_of b l) store) trial g named gone)

missed_kept : (b : BookState) (t : ℕ) (trial : Trial) → (ticket_at b.tickets t).candidate ≡ Some trial → (AreLive b trial → ⊥) → IsKept b → IsKept (with_ticket b t (going_on (past (position trial)) (ticket_at b.tickets t)))
missed_kept b t trial c dead k =
    let gone = one_gone b.store trial.placed dead in
    moved_keeps b t (past (position trial)) (λ l at. past_gone b t l gone.0 trial at c gone.1 b.store (λ m a seen h. h) gone.2 k) k

-- ---- the labels of a whole trial

-- what has a label, at its head
own_head : (P : Placed → Type 0) (ps : List Placed) → Distinct (map (λ (p : Placed). p.head) ps) → AllByRecursion P ps → (l : ℕ) → among (map (λ (p : Placed). p.label) ps) l ≡ true → (p : Placed) × P p × (among (map (λ (q : Placed). q.head) ps) p.head ≡ true) × (label_at ps p.head ≡ l)
own_head P [] d all l i = absurd (cc)
own_head P (p ∷ ps) d all l i =
    elim (p.label == l) as (λ b. (p.label == l ≡ b) → (q : Placed) × P q × (among (p.head ∷ map (λ (r : Placed). r.head) ps) q.head ≡ true) × (label_at (p ∷ ps) q.head ≡ l)) [
      | true ↦ λ e. (p, all.0, among-itself p.head (map (λ (q : Placed). q.head) ps), first (true-eqb p.label l (sym e)))
      | false ↦ λ e.
          let more = own_head P ps d.1 all.1 l (grind (arith, nat_tests)) in
          (more.0, more.1, among-more p.head (map (λ (q : Placed). q.head) ps) more.0.head more.2, ap (λ (c : Bool). if c then p.label else label_at ps more.0.head) (apart more.0.head more.2) ∙ more.3)
    ] refl
  where
    first : p.label ≡ l → label_at (p ∷ ps) p.head ≡ l
    first e = ap (λ (c : Bool). if c then p.label else label_at ps p.head) (let q : (p.head == p.head) ≡ true = grind (arith, nat_tests) in q) ∙ e

    apart : (h : ℕ) → among (map (λ (q : Placed). q.head) ps) h ≡ true → (p.head == h) ≡ false
    apart h j = is_false (p.head == h) (λ e. true≢false (sym j ∙ ap (among (map (λ (q : Placed). q.head) ps)) (sym (true-eqb p.head h (sym e))) ∙ d.0))

-- the labels at some heads in turn have the label at each of these
label_from : (ps : List Placed) (h n k : ℕ) → h ≤ k → k < h + n → among (labels_from ps h n) (label_at ps k) ≡ true
label_from ps h zero k low high = absurd (omega arith)
label_from ps h (suc n) k low high =
    elim (h == k) as (λ b. (h == k ≡ b) → among (label_at ps h ∷ labels_from ps (suc h) n) (label_at ps k) ≡ true) [
      | true ↦ λ e. subst (λ z. among (label_at ps h ∷ labels_from ps (suc h) n) (label_at ps z) ≡ true) (true-eqb h k (sym e)) (among-itself (label_at ps h) (labels_from ps (suc h) n))
      | false ↦ λ e. among-more (label_at ps h) (labels_from ps (suc h) n) (label_at ps k) (label_from ps (suc h) n k (grind (arith, nat_tests)) (omega arith))
    ] refl

label_named : (ps : List Placed) (h : ℕ) → among (map (λ (p : Placed). p.head) ps) h ≡ true → among (map (λ (p : Placed). p.label) ps) (label_at ps h) ≡ true
label_named [] h i = absurd (cc)
label_named (p ∷ ps) h i =
    elim (p.head == h) as (λ b. (p.head == h ≡ b) → among (p.label ∷ map (λ (q : Placed). q.label) ps) (if b then p.label else label_at ps h) ≡ true) [
      | true ↦ λ e. among-itself p.label (map (λ (q : Placed). q.label) ps)
      | false ↦ λ e. among-more p.label (map (λ (q : Placed). q.label) ps) (label_at ps h) (label_named ps h (grind (arith, nat_tests)))
    ] refl

-- a label of a trial that isn't removed is kept
kept_else : (trial : Trial) → IsFormed trial → (l : ℕ) → among (labels trial) l ≡ true → among (removed_labels trial) l ≡ false → among (kept_labels trial) l ≡ true
kept_else trial f l i stays =
    let a : ℕ = length trial.rule.kept in
    let b : ℕ = length trial.rule.removed in
    let all : length (heads_of trial.rule) ≡ a + b = length-append trial.rule.kept trial.rule.removed in
    let h = own_head (λ p. (1 ≤ p.head) × (p.head ≤ length (heads_of trial.rule)) × (p.label ≤ 4294967295)) trial.placed f.distinct f.within l i in
    let low : 1 ≤ h.0.head = h.1.0 in
    let high : h.0.head ≤ length (heads_of trial.rule) = h.1.1 in
    elim (ltb h.0.head (suc a)) as (λ c. (ltb h.0.head (suc a) ≡ c) → among (kept_labels trial) l ≡ true) [
      | true ↦ λ e.
          let less : h.0.head < suc a = grind (arith, nat_tests) in
          subst (λ z. among (kept_labels trial) z ≡ true) h.3 (label_from trial.placed 1 a h.0.head low (omega arith))
      | false ↦ λ e.
          let more : suc a ≤ h.0.head = grind (arith, nat_tests) in
          absurd (true≢false (sym (subst (λ z. among (removed_labels trial) z ≡ true) h.3 (label_from trial.placed (suc a) b h.0.head more (omega arith))) ∙ stays))
    ] refl

-- a whole trial has a removed label
one_removed : (trial : Trial) → IsFormed trial → length trial.placed ≡ length (heads_of trial.rule) → (l : ℕ) × (among (labels trial) l ≡ true) × (among (removed_labels trial) l ≡ true)
one_removed trial f full =
    let a : ℕ = length trial.rule.kept in
    let b : ℕ = length trial.rule.removed in
    let all : length (heads_of trial.rule) ≡ a + b = length-append trial.rule.kept trial.rule.removed in
    let some : 0 < b = f.scoped.limits.removed in
    (label_at trial.placed (suc a), label_named trial.placed (suc a) (f.full full (suc a) (omega arith) (omega arith)), label_from trial.placed (suc a) b (suc a) (omega arith) (omega arith))

-- ---- a firing

-- the tickets after it
abbrev tickets_fired : List Ticket → ℕ → Trial → List (Atom ℕ) → Bool → List Ticket
tickets_fired ts t trial body lives = slice_set ts t (fired_ticket (ticket_at ts t) trial lives) ++ map waiting body

-- the store after it, which has no more than before
abbrev store_fired : BookState → Trial → Store
store_fired b trial = without (removed_labels trial) b.store

no_more : (b : BookState) (trial : Trial) (l : ℕ) → HasNoMore (space_of b l) (store_fired b trial)
no_more b trial l m a seen h = (atom_at-kept (removed_labels trial) b.store m a h).0

was_before : (b : BookState) (trial other : Trial) → WasTrialOf b.rules b.plans b.store other → WasTrialOf b.rules b.plans (store_fired b trial) other
was_before b trial other w = record {
  rule_is = w.rule_is;
  order = w.order;
  order_is = w.order_is;
  heads_are = w.heads_are;
  atoms = all_map (λ (p : Placed). (a : Atom ℕ) → atom_at b.store p.label ≡ Some a → a ≡ p.atom) (λ (p : Placed). (a : Atom ℕ) → atom_at (store_fired b trial) p.label ≡ Some a → a ≡ p.atom)
      (λ p was a h. was a (atom_at-kept (removed_labels trial) b.store p.label a h).0) other.placed w.atoms;
}

-- the step that it is
state_fired : (b : BookState) (seat t : ℕ) (trial : Trial) (body : List (Atom ℕ)) (lives : Bool) (gs : List Goal) → map (λ (y : Ticket). y.goal) (slice_set b.tickets t (fired_ticket (ticket_at b.tickets t) trial lives)) ≡ gs
    → goal_state (fired b seat t trial body lives) ≡ steps.replaced (record { goals = gs; store = b.store; next = b.next }) (removed_labels trial) body
state_fired b seat t trial body lives gs e =
    ap (λ (hs : List Goal). record { goals = hs; store = store_fired b trial; next = b.next })
    (goals_appended (slice_set b.tickets t (fired_ticket (ticket_at b.tickets t) trial lives)) (map waiting body) ∙ ap₂ (λ (xs ys : List Goal). xs ++ ys) e (goals_waiting body))

record Outcome (b : BookState) (seat t : ℕ) (trial : Trial) (body : List (Atom ℕ)) (lives : Bool) : Type 0 where
  pub step : Step Two (Instances b.rules) (goal_state b) (Fire t trial.number (kept_labels trial) (removed_labels trial)) (goal_state (fired b seat t trial body lives))
  pub youngest : YoungestAreGoals (Instances b.rules) (goal_state (fired b seat t trial body lives))

not_not : (b c : Bool) → b ≡ not c → c ≡ not b
not_not b true e = ap not (sym e)
not_not b false e = ap not (sym e)

outcome : (b : BookState) (seat t l : ℕ) (trial : Trial) (body : List (Atom ℕ)) (lives : Bool) → (ticket_at b.tickets t).goal ≡ Numbered l → Labelled (Instances b.rules) b.store trial.number (kept_labels trial) (removed_labels trial) body
    → lives ≡ not (among (removed_labels trial) l) → (among (removed_labels trial) l ≡ false → among (kept_labels trial) l ≡ true) → IsKept b → Outcome b seat t trial body lives
outcome b seat t l trial body true at i e kept k =
    let after : goal_state (fired b seat t trial body true) ≡ steps.replaced (goal_state b) (removed_labels trial) body = state_fired b seat t trial body true (goal_state b).goals (goals_stay b.tickets t (going_on (past (position trial)) (ticket_at b.tickets t)) refl) in
    record {
      step = inr (record { label = l; body = body; numbered = goal_there b t ∙ at; stands = kept (not_not true (among (removed_labels trial) l) e); instance = i; after = after });
      youngest = subst (YoungestAreGoals (Instances b.rules)) (sym after) (young_propagated (Instances b.rules) (goal_state b) (removed_labels trial) body k.youngest);
    }
outcome b seat t l trial body false at i e kept k =
    let after : goal_state (fired b seat t trial body false) ≡ steps.replaced (steps.ended (goal_state b) t) (removed_labels trial) body = state_fired b seat t trial body false (steps.ended (goal_state b) t).goals (goals_set b.tickets t ended) in
    let removed : among (removed_labels trial) l ≡ true = not_not false (among (removed_labels trial) l) e in
    let numbered : goal_at (goal_state b) t ≡ Numbered l = goal_there b t ∙ at in
    record {
      step = inl (record { label = l; body = body; numbered = numbered; stands = removed; instance = i; after = after });
      youngest = subst (YoungestAreGoals (Instances b.rules)) (sym after) (young_simplified (Instances b.rules) (goal_state b) t l (removed_labels trial) body numbered removed k.youngest);
    }

fired_kept : (b : BookState) (seat t l : ℕ) (trial : Trial) (body : List (Atom ℕ)) (lives : Bool) → (ticket_at b.tickets t).goal ≡ Numbered l → (ticket_at b.tickets t).candidate ≡ Some trial → IsWhole trial
    → Labelled (Instances b.rules) b.store trial.number (kept_labels trial) (removed_labels trial) body → lives ≡ not (among (removed_labels trial) l) → IsKept b → IsKept (fired b seat t trial body lives)
fired_kept b seat t l trial body lives at c w i e k =
    let cand = k.candidates t l trial at c in
    let o = outcome b seat t l trial body lives at i e (kept_else trial cand.formed l cand.active) k in
    let one = one_removed trial cand.formed w.full in
    let dead : atom_at store one.0 ≡ None = atom_at-without (removed_labels trial) b.store one.0 ∙ ap (λ (z : Bool). if z then None else atom_at b.store one.0) one.2 in
    stepped_kept b seat (Fire t trial.number (kept_labels trial) (removed_labels trial)) store b.next (tickets_fired b.tickets t trial body lives) o.step o.youngest tt
    (waiting_each (IsKeptTicket n) (slice_set b.tickets t (fired_ticket (ticket_at b.tickets t) trial lives)) body (waiting_kept n)
    (set_each (λ u. IsKeptTicket n) b.tickets t (fired_ticket (ticket_at b.tickets t) trial lives) (own one.0 one.1 dead lives) (λ u. still_kept b n (ticket_at b.tickets u) (omega arith) searching candidate (ticket_kept b k u)))) k
  where
    n : BookState
    n = fired b seat t trial body lives

    store : Store
    store = store_fired b trial

    own : (g : ℕ) → among (labels trial) g ≡ true → atom_at store g ≡ None → (stays : Bool) → IsKeptTicket n (fired_ticket (ticket_at b.tickets t) trial stays)
    own g named dead true = kept_without n (going_on (past (position trial)) (ticket_at b.tickets t)) refl (λ m h. (k.given t m h, past_gone b t m g trial h c named store (no_more b trial m) dead k))
    own g named dead false = ended_kept n

    searching : (m : ℕ) (place : List ℕ) (o : Option (List ℕ)) → m < b.next → Searching (space_of b m) place o → Searching (space_of n m) place o
    searching m place o less s = shrunk (space_of b m) k.plans store (no_more b trial m) place o s

    candidate : (m : ℕ) (other : Trial) → IsCandidate b m other → IsCandidate n m other
    candidate m other old = record { formed = old.formed; was = was_before b trial other old.was; active = old.active; given = old.given }

-- the ticket of a trial that fires
fired_comes : (b : BookState) (t : ℕ) (trial : Trial) (lives : Bool) → (ticket_at b.tickets t).candidate ≡ Some trial → IsKept b → Comes (ticket_at b.tickets t) (fired_ticket (ticket_at b.tickets t) trial lives)
fired_comes b t trial true c k = is_searched refl (judged_on (ticket_at b.tickets t).position trial verdicts.Whole (k.ahead t trial c)).0
fired_comes b t trial false c k = is_over refl

pub fires_lead : (b n : BookState) (seat t : ℕ) (j : Judgement) (answer : Result Firing FireFault) → IsVerdict j.trial j.verdict → FiresOrMisses b seat t j answer n → Leads b n []
fires_lead b n seat t j (Err fire.NotHeld) right f = leads_same b n f.1
fires_lead b n seat t j (Err fire.Stale) right f = leads_same b n f.1
fires_lead b n seat t j (Err fire.NotWhole) right f = leads_same b n f.2
fires_lead b n seat t j (Err fire.NoMemory) right f = leads_same b n f.2
fires_lead b n seat t j (Ok firing.Missed) right f =
    let moved : n ≡ with_ticket b t (going_on (past (position j.trial)) (ticket_at b.tickets t)) = f.2 ∙ ap (λ v. with_ticket b t (going_on (after_verdict v (position j.trial)) (ticket_at b.tickets t))) f.0.whole in
    leads_search b n
    (searches_set b n t (going_on (past (position j.trial)) (ticket_at b.tickets t)) moved refl (missed_kept b t j.trial f.0.holds.candidate f.1) (λ k. (judged_on (ticket_at b.tickets t).position j.trial verdicts.Whole (k.ahead t j.trial f.0.holds.candidate)).0))
fires_lead b n seat t j (Ok (firing.Fired g)) right f =
    let w : IsWhole j.trial = subst (IsVerdict j.trial) f.0.whole right in
    let x : Ticket = fired_ticket (ticket_at b.tickets t) j.trial g.active_lives in
    leads_entry b n (fired b seat t j.trial f.2.body g.active_lives) seat (Fire t j.trial.number (kept_labels j.trial) (removed_labels j.trial)) f.2.after refl
    (fired_kept b seat t f.2.label j.trial f.2.body g.active_lives f.2.goal f.0.holds.candidate w f.2.instance f.2.lives)
    (λ k. follow_by b.tickets (slice_set b.tickets t x) (slice_set b.tickets t x ++ map waiting f.2.body)
    (set_follows b.tickets t x (fired_comes b t j.trial g.active_lives f.0.holds.candidate k)) (more_follow (slice_set b.tickets t x) (map waiting f.2.body)))

pub fires_keep : (b n : BookState) (seat t : ℕ) (j : Judgement) (answer : Result Firing FireFault) → IsVerdict j.trial j.verdict → FiresOrMisses b seat t j answer n → IsKept b → IsKept n
fires_keep b n seat t j answer right f = (fires_lead b n seat t j answer right f).kept

-- ---- its search moves on

pub missed_moves : (b n : BookState) (seat t : ℕ) (j : Judgement) → FiresOrMisses b seat t j (Ok firing.Missed) n → IsKept b → MovesOn b t n
missed_moves b n seat t j h k = subst (MovesOn b t) (sym h.2) (on_from b seat t j.trial j.verdict k h.0.holds)

pub fired_moves : (b n : BookState) (seat t : ℕ) (j : Judgement) (f : Fired) → FiresOrMisses b seat t j (Ok (firing.Fired f)) n → f.active_lives ≡ true → IsKept b → MovesOn b t n
fired_moves b n seat t j f h lives k =
    let x : Ticket = ticket_at b.tickets t in
    let y : Ticket = going_on (past (position j.trial)) x in
    let is : n ≡ fired b seat t j.trial h.2.body true = h.2.after ∙ ap (fired b seat t j.trial h.2.body) lives in
    let low : t < length b.tickets = (held_is b.tickets t seat h.0.holds.held).within in
    let e : length (slice_set b.tickets t y) ≡ length b.tickets = length-set b.tickets t y in
    let there : ticket_at (slice_set b.tickets t y ++ map waiting h.2.body) t ≡ y = ticket_before (slice_set b.tickets t y) (map waiting h.2.body) t (omega arith) ∙ ticket_same b.tickets t y low in
    subst (MovesOn b t) (sym is)
    (subst (λ (z : Ticket). at_or_after z.position x.position ≡ false) (sym there) (judged_on x.position j.trial verdicts.Whole (k.ahead t j.trial h.0.holds.candidate)).1)
