-- Makers and origins, entry by entry.
use Rattle.std.proofs.Common.{◌≡◌, ℕ, ◌+◌, ◌-◌, ◌<◌, ◌≤◌, ◌⊎◌, inl, inr, List, [], ◌∷◌, ◌++◌, length, take, get_or, slice_get, Some, refl, sym, ◌∙◌, ap, subst, arith, add-one}
use Rattle.std.specs.List.{sum_by}
use Rattle.std.specs.Option.{option_map}
use Rattle.std.proofs.lemmas.List.{length_push}
use Rattle.std.proofs.lemmas.Option.{slice_get-map, slice_get_read, slice_get_within, gets}
use Rattle.std.proofs.lemmas.Grind.{common_steps}
use Rattle.chr_rule.specs.Rules.{Simpagation}
use Rattle.chr_log.specs.declared.events.Event.{Event as CodeEvent}
use Rattle.chr_log.specs.declared.events.Event.TheVariants as events
use Rattle.chr_log.specs.Events.{Event, Activate, event_of, events_of}
use Rattle.chr_causes.specs.declared.origins.Origin.{Origin}
use Rattle.chr_causes.specs.declared.origins.Maker.{Maker}
use Rattle.chr_causes.specs.Origins.{IsLawful, tickets_of, Makes, IsOrigin, Gives}
use Rattle.chr_causes.specs.Makers.{IsNew, HasMade}
use Rattle.chr_causes.proofs.OneOrigin.{sum_more, sum_below, Fits, event_fits, origin_at}
use Rattle.chr_causes.proofs.Places.{labels_of}

-- the event at a place
pub event_read : {Z : Type 0} (events : List (CodeEvent Z)) (i : ℕ) (x : CodeEvent Z) → i < length events → x ≡ get_or events i x → slice_get (events_of events) i ≡ Some (event_of x)
event_read events i x lt is = slice_get-map event_of events i ∙ ap (option_map event_of) (slice_get_read events (length events) i x refl lt is)

-- what is known of the makers of the first tickets
abbrev pub AllMake : List (Simpagation ℕ) → List (Event ℕ) → List Maker → Type 0
AllMake rules log makers = (k : ℕ) (m : Maker) → slice_get makers k ≡ Some m → Makes rules log m.made m.nth (k + 1)

abbrev pub AllFrom : List (Simpagation ℕ) → List (Event ℕ) → List Origin → Type 0
AllFrom rules log list = (k : ℕ) (o : Origin) → slice_get list k ≡ Some o → IsOrigin rules log (k + 1) o

pub more_makers : (rules : List (Simpagation ℕ)) (log : List (Event ℕ)) (place : ℕ) (e : Event ℕ) (old new : List Maker) → slice_get log place ≡ Some e → length old ≡ sum_by (tickets_of rules) (take place log) → HasMade place (tickets_of rules e) old new → AllMake rules log old → AllMake rules log new
more_makers rules log place e old new there count made all k m h = by_side (made.each k m h)
  where
    by_side : (slice_get old k ≡ Some m) ⊎ IsNew place (tickets_of rules e) (length old) k m → Makes rules log m.made m.nth (k + 1)
    by_side (inl h) = all k m h
    by_side (inr n) = record {
      event = e;
      there = subst (λ i. slice_get log i ≡ Some e) (sym n.made_is) there;
      within = n.within;
      number = let sums : sum_by (tickets_of rules) (take m.made log) ≡ sum_by (tickets_of rules) (take place log) = ap (λ i. sum_by (tickets_of rules) (take i log)) n.made_is in omega (arith, n.place_is, count, sums);
    }

pub tickets_more : (rules : List (Simpagation ℕ)) (log : List (Event ℕ)) (place : ℕ) (e : Event ℕ) (old new : List Maker) → slice_get log place ≡ Some e → length old ≡ sum_by (tickets_of rules) (take place log) → HasMade place (tickets_of rules e) old new → length new ≡ sum_by (tickets_of rules) (take (place + 1) log)
tickets_more rules log place e old new there count made = grind (arith, sum_more)

pub labels_more : (log : List (Event ℕ)) (place n : ℕ) (e : Event ℕ) → slice_get log place ≡ Some e → n ≡ sum_by labels_of (take place log) → n + labels_of e ≡ sum_by labels_of (take (place + 1) log)
labels_more log place n e there count = rw add-one (omega (arith, count, sum_more labels_of log place e there))

-- an event that is no activation gives no label
pub no_activation : {Z : Type 0} (x : CodeEvent Z) → ((t l : ℕ) → x ≡ events.Activate t l → ⊥) → labels_of (event_of x) ≡ 0
no_activation (events.Activate t l) other = absurd (other t l refl)
no_activation x other = refl

pub labels_same : {Z : Type 0} (log : List (Event ℕ)) (place n : ℕ) (x : CodeEvent Z) → slice_get log place ≡ Some (event_of x) → labels_of (event_of x) ≡ 0 → n ≡ sum_by labels_of (take place log) → n ≡ sum_by labels_of (take (place + 1) log)
labels_same log place n x there none count = omega (arith, labels_more log place n (event_of x) there count, none)

-- an activation's ticket has a maker
pub ticket_within : (rules : List (Simpagation ℕ)) (log : List (Event ℕ)) → IsLawful rules log → (place t l n : ℕ) → slice_get log place ≡ Some (Activate t l) → n ≡ sum_by (tickets_of rules) (take place log) → (0 < t) × (t - 1 < n)
ticket_within rules log lawful place t l n there count =
    let fit : Fits rules (take place log) (Activate t l) = event_fits rules log lawful place (Activate t l) there in
    (fit.0, omega (arith, fit.0, fit.1, count))

-- one element more
pub get_push : {X : Type 0} (xs : List X) (y : X) (k : ℕ) (x : X) → slice_get (xs ++ y ∷ []) k ≡ Some x → (slice_get xs k ≡ Some x) ⊎ ((k ≡ length xs) × (y ≡ x))
get_push xs y k x h = grind (arith, common_steps, gets)

-- one goal more
abbrev maker_at : ℕ → ℕ → Maker
maker_at made nth = record { made = made; nth = nth }

pub none_made : (made : ℕ) (old : List Maker) → HasMade made 0 old old
none_made made old = record { places = omega arith; each = λ k m h. inl h }

pub one_made : (made n : ℕ) (old list new : List Maker) → HasMade made n old list → new ≡ list ++ maker_at made n ∷ [] → HasMade made (n + 1) old new
one_made made n old list new so_far more = record {
  places = omega (arith, so_far.places, ap length more, length_push list (maker_at made n));
  each = λ k m h. by_side k m (get_push list (maker_at made n) k m (subst (λ ms. slice_get ms k ≡ Some m) more h));
}
  where
    made_before : (k : ℕ) (m : Maker) → (slice_get old k ≡ Some m) ⊎ IsNew made n (length old) k m → (slice_get old k ≡ Some m) ⊎ IsNew made (n + 1) (length old) k m
    made_before k m (inl h) = inl h
    made_before k m (inr i) = inr (record { made_is = i.made_is; within = omega (arith, i.within); place_is = i.place_is })

    by_side : (k : ℕ) (m : Maker) → (slice_get list k ≡ Some m) ⊎ ((k ≡ length list) × (maker_at made n ≡ m)) → (slice_get old k ≡ Some m) ⊎ IsNew made (n + 1) (length old) k m
    by_side k m (inl h) = made_before k m (so_far.each k m h)
    by_side k m (inr e) = inr (subst (IsNew made (n + 1) (length old) k) e.1 (record { made_is = refl; within = omega arith; place_is = omega (arith, e.0, so_far.places) }))

pub more_origins : (rules : List (Simpagation ℕ)) (log : List (Event ℕ)) → IsLawful rules log → (place t l : ℕ) (m : Maker) (makers : List Maker) (list : List Origin) → slice_get log place ≡ Some (Activate t l) → slice_get makers (t - 1) ≡ Some m → length list ≡ sum_by labels_of (take place log) → AllMake rules log makers → AllFrom rules log list → AllFrom rules log (list ++ origin_at place m.made m.nth ∷ [])
more_origins rules log lawful place t l m makers list there at count all from k o h = by_side (get_push list (origin_at place m.made m.nth) k o h)
  where
    fit : Fits rules (take place log) (Activate t l)
    fit = event_fits rules log lawful place (Activate t l) there

    new : k ≡ length list → IsOrigin rules log (k + 1) (origin_at place m.made m.nth)
    new e = record {
      ticket = t;
      gives = there ∙ ap (λ n. Some (Activate t n)) (let h : l ≡ k + 1 = omega (arith, fit.2, count, e) in h);
      makes = subst (Makes rules log m.made m.nth) (let h : t - 1 + 1 ≡ t = omega (arith, fit.0) in h) (all (t - 1) m at);
    }

    by_side : (slice_get list k ≡ Some o) ⊎ ((k ≡ length list) × (origin_at place m.made m.nth ≡ o)) → IsOrigin rules log (k + 1) o
    by_side (inl e) = from k o e
    by_side (inr e) = subst (IsOrigin rules log (k + 1)) e.1 (new e.0)

-- all labels that the log gives have an origin
pub all_given : (rules : List (Simpagation ℕ)) (log : List (Event ℕ)) → IsLawful rules log → (n count : ℕ) → length log ≤ n → count ≡ sum_by labels_of (take n log) → (label : ℕ) → Gives log label → (0 < label) × (label < count + 1)
all_given rules log lawful n count long is label g =
    let fit : Fits rules (take g.place log) (Activate g.ticket label) = event_fits rules log lawful g.place (Activate g.ticket label) g.gives in
    let within : g.place < length log = slice_get_within log g.place (Activate g.ticket label) g.gives in
    (omega (arith, fit.2), omega (arith, fit.2, is, sum_below labels_of log g.place n (Activate g.ticket label) g.gives (omega arith)))
