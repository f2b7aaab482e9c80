-- Labels are given once, and removed at most once.
use Rattle.std.proofs.Common.{◌≡◌, ℕ, ◌+◌, ◌≤◌, ◌⊎◌, inl, inr, cond, leb, List, [], ◌∷◌, length, refl, ◌∙◌, ap, arith}
use Rattle.std.proofs.lemmas.List.{map-append}
use Rattle.std.proofs.lemmas.Bool.Decides.{nat_tests}
use Rattle.chr_value.specs.Atoms.{Atom}
use Rattle.chr_log.specs.Events.{Event, Post, Activate, Fire, Drop}
use Rattle.chr_log.specs.declared.events.Version.{Version}
use Rattle.chr_model.specs.Abstract.{Rules}
use Rattle.chr_model.specs.Stores.{Store, without, labels, Distinct, Carry, Labelled}
use Rattle.chr_model.specs.Goals.{State, start}
use Rattle.chr_model.specs.Steps.{activated, ended, replaced, Simplify, Propagate, Step, Run}
use Rattle.chr_model.specs.Logs.{Lawful, removed_by, given_by, times, up_from}
use Rattle.chr_model.proofs.Stores.{Carry-there, times-append, times-without, times-none, times-distinct, times-there, Distinct-right}

-- what is removed leaves as much room
times_removed : (l : ℕ) (st : Store) (ls : List ℕ) (as' : List (Atom ℕ)) → Distinct ls → Carry st ls as' → times l ls + times l (labels (without ls st)) ≤ times l (labels st)
times_removed l st ls as' d c = grind (arith, nat_tests, Carry-there, times-there, times-without, times-distinct, times-none)

-- how often a label stands in the store or is still to come
abbrev pub room : ℕ → State → ℕ
room l s = times l (labels s.store) + cond (leb s.next l) 1 0

-- each label stands at most once in the store, and below the next label
abbrev pub LabelsOnce : State → Type 0
LabelsOnce s = (l : ℕ) → room l s ≤ 1

room_activated : (l : ℕ) (s : State) (t : ℕ) (a : Atom ℕ) → room l (activated s t a) ≤ room l s
room_activated l s t a = grind (arith, nat_tests, map-append, times-append)

room_replaced : (l : ℕ) (I : Rules) (s : State) (r : ℕ) (kept removed : List ℕ) (body : List (Atom ℕ)) → Labelled I s.store r kept removed body → times l removed + room l (replaced s removed body) ≤ room l s
room_replaced l I s r kept removed body i = grind (arith, nat_tests, times_removed, Distinct-right)

room_fired : (l : ℕ) (I : Rules) (s : State) (t r : ℕ) (kept removed : List ℕ) (n : State) → (Simplify I s t r kept removed n ⊎ Propagate I s t r kept removed n) → times l removed + room l n ≤ room l s
room_fired l I s t r kept removed n (inl h) = omega (arith, ap (room l) h.after, room_replaced l I (ended s t) r kept removed h.body h.instance)
room_fired l I s t r kept removed n (inr h) = omega (arith, ap (room l) h.after, room_replaced l I s r kept removed h.body h.instance)

-- what a step removes and the room that it leaves fit in the room before, whatever events follow
Step-room : (l : ℕ) (v : Version) (I : Rules) (s : State) (e : Event ℕ) (n : State) (es : List (Event ℕ)) → Step v I s e n → times l (removed_by (e ∷ es)) + room l n ≤ times l (removed_by es) + room l s
Step-room l v I s (Post t a) n es h = omega (arith, ap (room l) h.after)
Step-room l v I s (Activate t k) n es h = omega (arith, ap (room l) h.after, room_activated l s t h.atom)
Step-room l v I s (Fire t r kept removed) n es h = omega (arith, times-append l removed (removed_by es), room_fired l I s t r kept removed n h)
Step-room l v I s (Drop t) n es h = omega (arith, ap (room l) h.after)

Run-room : (l : ℕ) (v : Version) (I : Rules) (es : List (Event ℕ)) (s n : State) → Run v I s es n → times l (removed_by es) + room l n ≤ room l s
Run-room l v I [] s n run = omega (arith, ap (room l) run)
Run-room l v I (e ∷ es) s n run = omega (arith, Step-room l v I s e run.0 es run.1, Run-room l v I es run.0 n run.2)

pub start_once : LabelsOnce start
start_once l = grind (arith, nat_tests)

pub Step-once : (v : Version) (I : Rules) (s : State) (e : Event ℕ) (n : State) → Step v I s e n → LabelsOnce s → LabelsOnce n
Step-once v I s e n step u l = omega (arith, Step-room l v I s e n [] step, u l)

pub removed_once : (v : Version) (I : Rules) (log : List (Event ℕ)) (last : State) → Lawful v I log last → (l : ℕ) → times l (removed_by log) ≤ 1
removed_once v I log last run l = omega (arith, Run-room l v I log start last run, start_once l)

-- a lawful log's store has each label once, below the next label
pub Lawful-once : (v : Version) (I : Rules) (log : List (Event ℕ)) (last : State) → Lawful v I log last → LabelsOnce last
Lawful-once v I log last run l = omega (arith, Run-room l v I log start last run, start_once l)

pub next_fired : (I : Rules) (s : State) (t r : ℕ) (kept removed : List ℕ) (n : State) → (Simplify I s t r kept removed n ⊎ Propagate I s t r kept removed n) → n.next ≡ s.next
next_fired I s t r kept removed n (inl h) = ap (λ m. m.next) h.after
next_fired I s t r kept removed n (inr h) = ap (λ m. m.next) h.after

pub given_rising : (v : Version) (I : Rules) (es : List (Event ℕ)) (s n : State) → Run v I s es n → given_by es ≡ up_from s.next (length (given_by es))
given_rising v I [] s n run = refl
given_rising v I (Post t a ∷ es) s n run = given_rising v I es run.0 n run.2 ∙ ap (λ m. up_from m.next (length (given_by es))) run.1.after
given_rising v I (Activate t l ∷ es) s n run = grind (arith, nat_tests, given_rising v I es run.0 n run.2)
given_rising v I (Fire t r kept removed ∷ es) s n run = given_rising v I es run.0 n run.2 ∙ ap (λ k. up_from k (length (given_by es))) (next_fired I s t r kept removed run.0 run.1)
given_rising v I (Drop t ∷ es) s n run = given_rising v I es run.0 n run.2 ∙ ap (λ m. up_from m.next (length (given_by es))) run.1.after
