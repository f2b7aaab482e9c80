-- Sums over the first elements of a list.
use Rattle.std.proofs.Common.{◌≡◌, ℕ, zero, suc, ◌+◌, ◌<◌, ◌≤◌, List, [], ◌∷◌, take, slice_get, Some, arith, ◌⊎◌, inl, inr, true, ◌++◌, refl, sym, ◌∙◌, ap, ap₂, subst, ◌≢◌}
use Rattle.std.specs.List.{sum_by}
use Rattle.std.proofs.lemmas.List.Sums.{sum_by-cons}
use Rattle.chr_value.specs.Atoms.{Atom}
use Rattle.chr_rule.specs.Rules.{Simpagation}
use Rattle.chr_log.specs.Events.{Event, Post, Activate, Fire, Drop}
use Rattle.chr_log.specs.declared.events.Version.{Version}
use Rattle.chr_model.specs.Abstract.{Rules}
use Rattle.chr_model.specs.Stores.{Labelled, among, atom_at, Store, Carry}
use Rattle.chr_model.specs.Goals.{Plain, Ended, State, start, goal_at}
use Rattle.chr_model.specs.Steps.{Simplify, Propagate, Step}
use Rattle.chr_model.specs.Logs.{Lawful}
use Rattle.chr_model.specs.Programs.{Instances}
use Rattle.chr_model.proofs.Stores.{Labelled-there, among-itself, among-right}
use Rattle.chr_model.proofs.Quiet.{place_within, waiting_open}
use Rattle.chr_model.proofs.Once.{Lawful-once}
use Rattle.chr_model.proofs.Older.{store_below, store_from_one}
use Rattle.chr_causes.specs.Origins.{IsLawful, next_ticket, tickets_of, Makes, IsOrigin}
use Rattle.chr_causes.proofs.Places.{around, run_tickets, labels_of, run_next, run_zero}
use Rattle.chr_causes.specs.declared.origins.Origin.{Origin}
use Rattle.chr_causes.specs.Causes.{heads_of, IsHeadFor}

-- with one element more
pub sum_more : {X : Type 0} (f : X → ℕ) (xs : List X) (i : ℕ) (x : X) → slice_get xs i ≡ Some x → sum_by f (take (suc i) xs) ≡ sum_by f (take i xs) + f x
sum_more f [] i x h = absurd (cc)
sum_more f (y ∷ ys) zero x h = let same : y ≡ x = cc in grind (arith, sum_by-cons f y [], same)
sum_more f (y ∷ ys) (suc i) x h = omega (arith, sum_by-cons f y (take (suc i) ys), sum_by-cons f y (take i ys), sum_more f ys i x h)

-- with more elements it is no less
pub sum_rises : {X : Type 0} (f : X → ℕ) (xs : List X) (i j : ℕ) → i ≤ j → sum_by f (take i xs) ≤ sum_by f (take j xs)
sum_rises f [] zero j h = omega arith
sum_rises f [] (suc i) (suc j) h = omega arith
sum_rises f (y ∷ ys) zero j h = omega arith
sum_rises f (y ∷ ys) (suc i) (suc j) h = omega (arith, sum_by-cons f y (take i ys), sum_by-cons f y (take j ys), sum_rises f ys i j (omega arith))
sum_rises f ys i j h = grind arith

-- an element counts in each prefix that has it
pub sum_below : {X : Type 0} (f : X → ℕ) (xs : List X) (i j : ℕ) (x : X) → slice_get xs i ≡ Some x → i < j → sum_by f (take i xs) + f x ≤ sum_by f (take j xs)
sum_below f xs i j x h lt = omega (arith, sum_more f xs i x h, sum_rises f xs (suc i) j (omega arith))

-- ---- what an event of a lawful log says of the events before it

-- An activation is of a ticket that was made before, and gives the next label. The heads of a firing were given before.
abbrev pub Fits : List (Simpagation ℕ) → List (Event ℕ) → Event ℕ → Type 0
Fits rules before (Post t a) = t ≡ next_ticket rules before
Fits rules before (Activate t l) = (0 < t) × (t < next_ticket rules before) × (l ≡ sum_by labels_of before + 1)
Fits rules before (Fire t r kept removed) = (h : ℕ) → among (kept ++ removed) h ≡ true → (0 < h) × (h < sum_by labels_of before + 1)
Fits rules before (Drop t) = Unit {0}

ticket_above_zero : (s : State) (t : ℕ) (a : Atom ℕ) → goal_at s t ≡ Plain a → goal_at s 0 ≡ Ended → 0 < t
ticket_above_zero s zero a at none = absurd (waiting_open a (sym at ∙ none))
ticket_above_zero s (suc t) a at none = omega arith

pub fired_instance : (I : Rules) (s : State) (t r : ℕ) (kept removed : List ℕ) (n : State) → (Simplify I s t r kept removed n ⊎ Propagate I s t r kept removed n) → (body : List (Atom ℕ)) × Labelled I s.store r kept removed body
fired_instance I s t r kept removed n (inl h) = (h.body, h.instance)
fired_instance I s t r kept removed n (inr h) = (h.body, h.instance)

-- the heads of a firing are in the store before it
pub head_there : (v : Version) (I : Rules) (s : State) (t r : ℕ) (kept removed : List ℕ) (n : State) → Step v I s (Fire t r kept removed) n → (h : ℕ) → among (kept ++ removed) h ≡ true → (a : Atom ℕ) × (atom_at s.store h ≡ Some a)
head_there v I s t r kept removed n step h has =
    let i = fired_instance I s t r kept removed n step in
    Labelled-there I s.store r kept removed i.0 h has i.1

step_fits : (v : Version) (rules : List (Simpagation ℕ)) (before : List (Event ℕ)) (s : State) (e : Event ℕ) (n : State) → Lawful v (Instances rules) before s → Step v (Instances rules) s e n → Fits rules before e
step_fits v rules before s (Post t a) n run h = omega (arith, h.ticket, run_tickets v rules before start s run)
step_fits v rules before s (Activate t l) n run h = grind (arith, place_within, waiting_open, run_zero, ticket_above_zero, run_tickets, run_next)
step_fits v rules before s (Fire t r kept removed) n run h = λ k has.
    let there = head_there v (Instances rules) s t r kept removed n h k has in
    let below : k < s.next = store_below s (Lawful-once v (Instances rules) before s run) k there.0 there.1 in
    let above : 1 ≤ k = store_from_one v (Instances rules) before s run k there.0 there.1 in
    (omega arith, omega (arith, run_next v (Instances rules) before start s run))
step_fits v rules before s (Drop t) n run h = tt

pub event_fits : (rules : List (Simpagation ℕ)) (log : List (Event ℕ)) → IsLawful rules log → (i : ℕ) (e : Event ℕ) → slice_get log i ≡ Some e → Fits rules (take i log) e
event_fits rules log lawful i e h =
    let r = around lawful.version (Instances rules) log start i e lawful.last lawful.lawful h in
    step_fits lawful.version rules (take i log) r.before e r.after r.first r.step

-- ---- a label has one origin, and the heads for it have lower labels

-- numbers of which neither is below the other
both_ways : (i j : ℕ) → (i < j → ⊥) → (j < i → ⊥) → i ≡ j
both_ways i j p q = omega arith

-- one entry gives a label
pub one_place : (rules : List (Simpagation ℕ)) (log : List (Event ℕ)) → IsLawful rules log → (i j t u l : ℕ) → slice_get log i ≡ Some (Activate t l) → slice_get log j ≡ Some (Activate u l) → i ≡ j
one_place rules log lawful i j t u l at_i at_j =
    let fit_i : Fits rules (take i log) (Activate t l) = event_fits rules log lawful i (Activate t l) at_i in
    let fit_j : Fits rules (take j log) (Activate u l) = event_fits rules log lawful j (Activate u l) at_j in
    both_ways i j
    (λ h. omega (arith, fit_i.2, fit_j.2, sum_below labels_of log i j (Activate t l) at_i h))
    (λ h. omega (arith, fit_i.2, fit_j.2, sum_below labels_of log j i (Activate u l) at_j h))

-- one entry made a ticket
pub one_maker : (rules : List (Simpagation ℕ)) (log : List (Event ℕ)) (m k p q t : ℕ) → Makes rules log m p t → Makes rules log k q t → (m ≡ k) × (p ≡ q)
one_maker rules log m k p q t a b =
    let same : m ≡ k = both_ways m k
    (λ h. omega (arith, a.within, b.within, a.number, b.number, sum_below (tickets_of rules) log m k a.event a.there h))
    (λ h. omega (arith, a.within, b.within, a.number, b.number, sum_below (tickets_of rules) log k m b.event b.there h)) in
    let sums : sum_by (tickets_of rules) (take m log) ≡ sum_by (tickets_of rules) (take k log) = ap (λ n. sum_by (tickets_of rules) (take n log)) same in
    (same, omega (arith, a.number, b.number))

-- a ticket below the next one was made before
pub made_before : (rules : List (Simpagation ℕ)) (log : List (Event ℕ)) (m p t i : ℕ) → Makes rules log m p t → t < next_ticket rules (take i log) → m < i
made_before rules log m p t i a below = let not : i ≤ m → ⊥ = λ h. omega (arith, a.number, sum_rises (tickets_of rules) log i m h) in omega arith

abbrev pub origin_at : ℕ → ℕ → ℕ → Origin
origin_at i m p = record { activated = i; made = m; nth = p }

-- a label has one origin
pub one_origin : (rules : List (Simpagation ℕ)) (log : List (Event ℕ)) → IsLawful rules log → (l : ℕ) (a b : Origin) → IsOrigin rules log l a → IsOrigin rules log l b → a ≡ b
one_origin rules log lawful l a b p q =
    let place : a.activated ≡ b.activated = one_place rules log lawful a.activated b.activated p.ticket q.ticket l p.gives q.gives in
    let gives : Some (Activate p.ticket l) ≡ Some (Activate q.ticket l) = sym p.gives ∙ ap (slice_get log) place ∙ q.gives in
    let ticket : p.ticket ≡ q.ticket = cc in
    let maker = one_maker rules log a.made b.made a.nth b.nth q.ticket (subst (λ t. Makes rules log a.made a.nth t) ticket p.makes) q.makes in
    ap (λ i. origin_at i a.made a.nth) place ∙ ap₂ (origin_at b.activated) maker.0 maker.1

heads_fit : (rules : List (Simpagation ℕ)) (before : List (Event ℕ)) (e : Event ℕ) → Fits rules before e → (h : ℕ) → among (heads_of e) h ≡ true → (0 < h) × (h < sum_by labels_of before + 1)
heads_fit rules before (Fire t r kept removed) fit h has = fit h has
heads_fit rules before e fit h has = absurd (cc)

-- a head for a label is a lower label
pub head_below : (rules : List (Simpagation ℕ)) (log : List (Event ℕ)) → IsLawful rules log → (l h : ℕ) → IsHeadFor rules log l h → (0 < h) × (h < l)
head_below rules log lawful l h head =
    let o = head.origin in
    let fit : Fits rules (take o.activated log) (Activate head.from.ticket l) = event_fits rules log lawful o.activated (Activate head.from.ticket l) head.from.gives in
    let before : o.made < o.activated = made_before rules log o.made o.nth head.from.ticket o.activated head.from.makes fit.1 in
    let at = heads_fit rules (take o.made log) head.event (event_fits rules log lawful o.made head.event head.there) h head.has in
    let rise : sum_by labels_of (take o.made log) ≤ sum_by labels_of (take o.activated log) = sum_rises labels_of log o.made o.activated (omega arith) in
    (at.0, omega (arith, fit.2, at.1))

-- ---- heads were in the store, and where there is no head there was a post

pub heads_there : (v : Version) (rules : List (Simpagation ℕ)) (log : List (Event ℕ)) (last : State) → Lawful v (Instances rules) log last → (place t r : ℕ) (kept removed : List ℕ) → slice_get log place ≡ Some (Fire t r kept removed) → (s : State) × Lawful v (Instances rules) (take place log) s × ((head : ℕ) → among (kept ++ removed) head ≡ true → (a : Atom ℕ) × (atom_at s.store head ≡ Some a))
heads_there v rules log last run place t r kept removed h =
    let w = around v (Instances rules) log start place (Fire t r kept removed) last run h in
    (w.before, w.first, head_there v (Instances rules) w.before t r kept removed w.after w.step)

-- labels that carry atoms are some, where the atoms are
some_label : (store : Store) (ls : List ℕ) (as' : List (Atom ℕ)) → Carry store ls as' → as' ≢ [] → (l : ℕ) × (among ls l ≡ true)
some_label store [] [] c some = absurd (some refl)
some_label store (l ∷ ls) (a ∷ as') c some = (l, among-itself l ls)
some_label store ls as' c some = absurd c

fired_head : (rules : List (Simpagation ℕ)) (log : List (Event ℕ)) → IsLawful rules log → (place t r : ℕ) (kept removed : List ℕ) → slice_get log place ≡ Some (Fire t r kept removed) → (h : ℕ) × (among (kept ++ removed) h ≡ true)
fired_head rules log lawful place t r kept removed h =
    let w = around lawful.version (Instances rules) log start place (Fire t r kept removed) lawful.last lawful.lawful h in
    let i = fired_instance (Instances rules) w.before t r kept removed w.after w.step in
    let l = some_label w.before.store removed i.1.removed_atoms i.1.removed_there i.1.instance.2.some_removed in
    (l.0, among-right kept removed l.0 l.1)

pub leaf_posted : (rules : List (Simpagation ℕ)) (log : List (Event ℕ)) → IsLawful rules log → (label : ℕ) (origin : Origin) → IsOrigin rules log label origin → ((head : ℕ) → IsHeadFor rules log label head → ⊥) → (t : ℕ) × (a : Atom ℕ) × (slice_get log origin.made ≡ Some (Post t a))
leaf_posted rules log lawful label origin from none = by_event from.makes.event from.makes.there from.makes.within
  where
    by_event : (e : Event ℕ) → slice_get log origin.made ≡ Some e → origin.nth < tickets_of rules e → (t : ℕ) × (a : Atom ℕ) × (slice_get log origin.made ≡ Some (Post t a))
    by_event (Post t a) there within = (t, a, there)
    by_event (Activate t l) there within = absurd (omega arith)
    by_event (Fire t r kept removed) there within =
        let h = fired_head rules log lawful origin.made t r kept removed there in
        absurd (none h.0 (record { origin = origin; from = from; event = Fire t r kept removed; there = there; has = h.1 }))
    by_event (Drop t) there within = absurd (omega arith)
