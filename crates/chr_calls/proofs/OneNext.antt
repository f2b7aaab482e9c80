-- The next trial of a goal: there is one at most, and its goal is live.
use Rattle.std.proofs.Common.{◌≡◌, ℕ, true, false, true-eqb, ◌==◌, ◌||◌, List, [], ◌∷◌, map, Some, refl, sym, subst}
use Rattle.std.specs.List.{AllByRecursion}
use Rattle.chr_value.specs.Atoms.{Atom}
use Rattle.chr_model.specs.Stores.{Store, atom_at, among}
use Rattle.chr_search.specs.Verdicts.{Placed, Trial, position}
use Rattle.chr_search.proofs.Tree.{least_same}
use Rattle.chr_sheet.proofs.OneNext.{trial_same}
use Rattle.chr_calls.specs.Tickets.{ticket_at}
use Rattle.chr_calls.specs.Books.{BookState, space_of, IsLive}
use Rattle.chr_calls.specs.Calls.{IsNextTrial}
use Rattle.chr_calls.proofs.Turning.{trial_active, next_trial}

-- ---- one at most

pub next_same : (b : BookState) (t l : ℕ) (trial other : Trial) → IsNextTrial b t l trial → IsNextTrial b t l other → trial ≡ other
next_same b t l trial other h k = trial_same b.rules b.plans b.store trial other h.is k.is (least_same _ _ _ _ (position trial) (position other) h.next k.next)

-- ---- its goal is live

live_in : (store : Store) (ps : List Placed) (l : ℕ) → AllByRecursion (λ p. atom_at store p.label ≡ Some p.atom) ps → among (map (λ (p : Placed). p.label) ps) l ≡ true → (a : Atom ℕ) × (atom_at store l ≡ Some a)
live_in store [] l live is = absurd (cc)
live_in store (p ∷ ps) l live is =
    elim (p.label == l) as (λ b. (p.label == l ≡ b) → (b || among (map (λ (q : Placed). q.label) ps) l) ≡ true → (a : Atom ℕ) × (atom_at store l ≡ Some a)) [
      | true ↦ λ e _. (p.atom, subst (λ q. atom_at store q ≡ Some p.atom) (true-eqb p.label l (sym e)) live.0)
      | false ↦ λ _ j. live_in store ps l live.1 j
    ] refl is

pub next_live : (b : BookState) (t l : ℕ) (trial : Trial) → IsNextTrial b t l trial → IsLive b l
next_live b t l trial n = live_in b.store trial.placed l n.is.live (trial_active (space_of b l) trial (next_trial (space_of b l) (ticket_at b.tickets t).position (position trial) n.next))
