-- Where searches look at older partners only: the youngest label of each instance is a numbered goal, and that gives the
-- second condition of a drop.
use Rattle.std.proofs.Common.{◌≡◌, ◌≢◌, ℕ, ◌<◌, ◌≤◌, true, false, leb, ◌==◌, List, [], ◌∷◌, ◌++◌, sym, subst, arith, true-eqb, refl}
use Rattle.std.proofs.lemmas.Bool.Decides.{nat_tests}
use Rattle.chr_value.specs.Atoms.{Atom}
use Rattle.chr_log.specs.declared.events.Version.TheVariants.{Two}
use Rattle.chr_model.specs.Abstract.{Rules}
use Rattle.chr_model.specs.Stores.{among}
use Rattle.chr_model.specs.Goals.{Plain, Numbered, State, goal_at, IsNumbered}
use Rattle.chr_model.specs.Steps.{posted, activated, ended, replaced, MayDrop}
use Rattle.chr_model.specs.Searches.{IsYoungest, YoungestAreGoals, NoneYoungest}
use Rattle.chr_model.proofs.Stores.{atom_at-old, among-itself, among-more, Labelled-move, Labelled-there}
use Rattle.chr_model.proofs.Once.{LabelsOnce}
use Rattle.chr_model.proofs.Older.{store_below}
use Rattle.chr_model.proofs.Quiet.{numbered-replaced, numbered-ended, numbered-activated, numbered-new, Labelled-left, numbered_left}

-- a list with a label in it has a youngest one
pub youngest : (ls : List ℕ) (l : ℕ) → among ls l ≡ true → (y : ℕ) × IsYoungest ls y
youngest [] l h = absurd (cc)
youngest (x ∷ []) l h = (x, record { there = among-itself x []; greatest = λ k j. grind (arith, nat_tests) })
youngest (x ∷ z ∷ xs) l h =
    let rest = youngest (z ∷ xs) z (among-itself z xs) in
    elim (leb x rest.0) as (λ b. (leb x rest.0 ≡ b) → (y : ℕ) × IsYoungest (x ∷ z ∷ xs) y) [
      | true ↦ λ e. (rest.0, record { there = among-more x (z ∷ xs) rest.0 rest.1.there; greatest = λ k j. grind (arith, nat_tests, rest.1.greatest k) })
      | false ↦ λ e. (x, record { there = among-itself x (z ∷ xs); greatest = λ k j. grind (arith, nat_tests, rest.1.greatest k) })
    ] refl

-- the second condition of a drop
pub older_done : (I : Rules) (s : State) (l : ℕ) → YoungestAreGoals I s → NoneYoungest I s.store l → MayDrop Two I s l
older_done I s l g none r kept removed body i h =
    let y = youngest (kept ++ removed) l h in
    (y.0, y.1.there, (λ e. none r kept removed body (subst (IsYoungest (kept ++ removed)) e y.1) i), g r kept removed body i y.0 y.1)

-- each step keeps that, where no goal is dropped that is some instance's youngest
pub young_dropped : (I : Rules) (s : State) (t l : ℕ) → goal_at s t ≡ Numbered l → NoneYoungest I s.store l → YoungestAreGoals I s → YoungestAreGoals I (ended s t)
young_dropped I s t l at none g r kept removed body i y h =
    numbered-ended s t l y at (λ e. none r kept removed body (subst (IsYoungest (kept ++ removed)) e h) i) (g r kept removed body i y h)

pub young_simplified : (I : Rules) (s : State) (t l : ℕ) (gone : List ℕ) (added : List (Atom ℕ)) → goal_at s t ≡ Numbered l → among gone l ≡ true → YoungestAreGoals I s → YoungestAreGoals I (replaced (ended s t) gone added)
young_simplified I s t l gone added at dead g r kept removed body i y h =
    numbered_left I s t l gone added y at dead i h.there (g r kept removed body (Labelled-left I s.store gone i) y h)

pub young_propagated : (I : Rules) (s : State) (gone : List ℕ) (added : List (Atom ℕ)) → YoungestAreGoals I s → YoungestAreGoals I (replaced s gone added)
young_propagated I s gone added g r kept removed body i y h =
    numbered-replaced s gone added y (g r kept removed body (Labelled-left I s.store gone i) y h)

pub young_posted : (I : Rules) (s : State) (a : Atom ℕ) → YoungestAreGoals I s → YoungestAreGoals I (posted s a)
young_posted I s a = young_propagated I s [] (a ∷ [])

pub young_activated : (I : Rules) (s : State) (t : ℕ) (a : Atom ℕ) → LabelsOnce s → goal_at s t ≡ Plain a → YoungestAreGoals I s → YoungestAreGoals I (activated s t a)
young_activated I s t a few at g r kept removed body i y h =
    let there = Labelled-there I (s.store ++ (s.next, a) ∷ []) r kept removed body y h.there i in
    elim (s.next == y) as (λ b. (s.next == y ≡ b) → IsNumbered (activated s t a) y) [
      | true ↦ λ e. subst (IsNumbered (activated s t a)) (true-eqb s.next y (sym e)) (numbered-new s t a at)
      | false ↦ λ e.
          let ne : s.next ≢ y = grind (arith, nat_tests) in
          let less : y < s.next = store_below s few y there.0 (atom_at-old s.store s.next a y there.0 ne there.1) in
          numbered-activated s t a y at
          (g r kept removed body (Labelled-move I (s.store ++ (s.next, a) ∷ []) s.store r kept removed body (λ l x j k. atom_at-old s.store s.next a l x (λ z. let le : l ≤ y = h.greatest l j in absurd (omega arith)) k) i) y h)
    ] refl
