-- An instance of labels that were given before was an instance before: why a search may be cut into steps.
use Rattle.std.proofs.Common.{◌≡◌, ℕ, ◌+◌, ◌<◌, ◌≤◌, ◌⊎◌, inl, inr, true, false, true≢false, zero, suc, List, [], ◌∷◌, ◌++◌, length, Some, None, refl, sym, ◌∙◌, ap, subst, arith}
use Rattle.std.proofs.lemmas.Bool.{false_from_ne_true}
use Rattle.std.proofs.lemmas.Bool.Decides.{nat_tests}
use Rattle.chr_value.specs.Atoms.{Atom}
use Rattle.chr_log.specs.Events.{Event, Post, Activate, Fire, Drop}
use Rattle.chr_log.specs.declared.events.Version.{Version}
use Rattle.chr_log.specs.declared.events.Version.TheVariants.{One}
use Rattle.chr_model.specs.Abstract.{Rules}
use Rattle.chr_model.specs.Stores.{atom_at, without, labels, among, Labelled}
use Rattle.chr_model.specs.Goals.{State, start}
use Rattle.chr_model.specs.Steps.{MayDrop, Simplify, Propagate, Step, Run}
use Rattle.chr_model.specs.Logs.{Lawful, times, given_by, up_from}
use Rattle.chr_model.specs.Searches.{AllBelow, NoneBelow}
use Rattle.chr_model.proofs.Stores.{atom_at-old, atom_at-kept, Labelled-move, Labelled-there, times-there}
use Rattle.chr_model.proofs.Once.{room, LabelsOnce, next_fired, given_rising}

pub Step-next : (v : Version) (I : Rules) (s : State) (e : Event ℕ) (n : State) → Step v I s e n → s.next ≤ n.next
Step-next v I s (Post t a) n h = omega (arith, ap (λ m. m.next) h.after)
Step-next v I s (Activate t l) n h = omega (arith, ap (λ m. m.next) h.after)
Step-next v I s (Fire t r kept removed) n h = omega (arith, next_fired I s t r kept removed n h)
Step-next v I s (Drop t) n h = omega (arith, ap (λ m. m.next) h.after)

store_fired : (I : Rules) (s : State) (t r : ℕ) (kept removed : List ℕ) (n : State) → (Simplify I s t r kept removed n ⊎ Propagate I s t r kept removed n) → n.store ≡ without removed s.store
store_fired I s t r kept removed n (inl h) = ap (λ m. m.store) h.after
store_fired I s t r kept removed n (inr h) = ap (λ m. m.store) h.after

-- a label that no event gives carries afterwards what it carried before
Run-given : (v : Version) (I : Rules) (es : List (Event ℕ)) (s n : State) → Run v I s es n → (l : ℕ) (a : Atom ℕ) → among (given_by es) l ≡ false → atom_at n.store l ≡ Some a → atom_at s.store l ≡ Some a
Run-given v I [] s n run l a away at = subst (λ m. atom_at m.store l ≡ Some a) run at
Run-given v I (Post t x ∷ es) s n run l a away at = subst (λ m. atom_at m.store l ≡ Some a) run.1.after (Run-given v I es run.0 n run.2 l a away at)
Run-given v I (Activate t g ∷ es) s n run l a away at =
    let given : g ≡ s.next = run.1.label in
    let later = Run-given v I es run.0 n run.2 l a (grind (arith, nat_tests)) at in
    atom_at-old s.store s.next run.1.atom l a (grind (arith, nat_tests)) (subst (λ m. atom_at m.store l ≡ Some a) run.1.after later)
Run-given v I (Fire t r kept removed ∷ es) s n run l a away at =
    (atom_at-kept removed s.store l a (subst (λ st. atom_at st l ≡ Some a) (store_fired I s t r kept removed run.0 run.1) (Run-given v I es run.0 n run.2 l a away at))).0
Run-given v I (Drop t ∷ es) s n run l a away at = subst (λ m. atom_at m.store l ≡ Some a) run.1.after (Run-given v I es run.0 n run.2 l a away at)

-- a label below the next one is not among those that are given from then on
below_given : (n k l : ℕ) → l < n → among (up_from n k) l ≡ false
below_given n zero l h = refl
below_given n (suc k) l h = grind (arith, nat_tests, below_given (n + 1) k l)

pub Run-older : (v : Version) (I : Rules) (es : List (Event ℕ)) (s n : State) → Run v I s es n → (r : ℕ) (kept removed : List ℕ) (body : List (Atom ℕ)) → AllBelow s.next (kept ++ removed) → Labelled I n.store r kept removed body → Labelled I s.store r kept removed body
Run-older v I es s n run r kept removed body below i =
    let away = λ (l : ℕ) (j : among (kept ++ removed) l ≡ true). ap (λ ls. among ls l) (given_rising v I es s n run) ∙ below_given s.next (length (given_by es)) l (below l j) in
    Labelled-move I n.store s.store r kept removed body (λ l a j at. Run-given v I es s n run l a (away l j) at) i

-- a lawful log's store has each label once, and has only labels that were given
pub store_once : (s : State) → LabelsOnce s → (l : ℕ) → times l (labels s.store) ≤ 1
store_once s few l = let bound : room l s ≤ 1 = few l in grind (arith, nat_tests)

pub store_below : (s : State) → LabelsOnce s → (l : ℕ) (a : Atom ℕ) → atom_at s.store l ≡ Some a → l < s.next
store_below s few l a h = grind (arith, nat_tests, times-there, room)

-- a goal whose search found no instance among the labels below the next one may be dropped
pub search_done : (I : Rules) (s : State) (l : ℕ) → LabelsOnce s → NoneBelow I s.store s.next l → MayDrop One I s l
search_done I s l few none r kept removed body i =
    let below : AllBelow s.next (kept ++ removed) = λ k j. let there = Labelled-there I s.store r kept removed body k j i in store_below s few k there.0 there.1 in
    false_from_ne_true (among (kept ++ removed) l) (λ j. none r kept removed body below j i)

-- what no search found below a bound that had been given then, none would find later
pub Run-none : (v : Version) (I : Rules) (es : List (Event ℕ)) (s n : State) → Run v I s es n → (bound l : ℕ) → bound ≤ s.next → NoneBelow I s.store bound l → NoneBelow I n.store bound l
Run-none v I es s n run bound l le none r kept removed body below h i =
    none r kept removed body below h (Run-older v I es s n run r kept removed body (λ q j. let b : q < bound = below q j in omega arith) i)

-- a lawful log's store has only labels that the log gave
pub store_given : (v : Version) (I : Rules) (log : List (Event ℕ)) (last : State) → Lawful v I log last → (l : ℕ) (a : Atom ℕ) → atom_at last.store l ≡ Some a → among (given_by log) l ≡ true
store_given v I log last run l a at =
    elim (among (given_by log) l) as (λ b. (among (given_by log) l ≡ b) → b ≡ true) [
      | true ↦ λ _. refl
      | false ↦ λ away. let z : None ≡ Some a = Run-given v I log start last run l a away at in absurd (cc)
    ] refl

pub store_from_one : (v : Version) (I : Rules) (log : List (Event ℕ)) (last : State) → Lawful v I log last → (l : ℕ) (a : Atom ℕ) → atom_at last.store l ≡ Some a → 1 ≤ l
store_from_one v I log last run (suc l) a at = omega arith
store_from_one v I log last run zero a at =
    absurd (true≢false (sym (store_given v I log last run zero a at) ∙ ap (λ ls. among ls zero) (given_rising v I log start last run) ∙ below_given 1 (length (given_by log)) zero (omega arith)))

pub ruleset older_runs = (Run-older)
