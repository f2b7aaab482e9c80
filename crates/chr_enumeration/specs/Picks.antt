-- The search for the partners of an instance: for some heads of a rule an entry of the store is
-- picked.
use Rattle.std.specs.Prelude.{◌≡◌, ℕ, suc, ◌+◌, ◌<◌, true, List, [], ◌∷◌, length, map, take, drop, Option, Some, None, IsSome, slice_get, slice_index_or}
use Rattle.std.specs.List.{AllByRecursion}
use Rattle.std.specs.Option.{option_map}
use denote.Ref.{Bor}
use Rattle.chr_value.specs.Atoms.{Value, Atom}
use Rattle.chr_rule.specs.Rules.{Simpagation}
use Rattle.chr_guard.specs.Values.{Valuation}
use Rattle.chr_guard.specs.Bindings.{Extends}
use Rattle.chr_guard.specs.Instances.{IsInstance}
use Rattle.chr_guard.specs.Matching.{IsAtHead, IsFit, IsInstanceUnder}
use Rattle.chr_model.specs.Stores.{Store, labels, atoms, among, Distinct, Carry}
use Rattle.chr_enumeration.specs.Partners.{HasAllBut}
use Rattle.chr_enumeration.specs.declared.slots.Match.{Match}

-- what is picked for the heads, in head order
abbrev pub Picks : Type 0
Picks = List (Option (ℕ × Atom ℕ))

abbrev pub picks : List (Option (ℕ × Bor (Atom ℕ))) → Picks
picks slots = map (option_map (λ e. (e.0, e.1.now))) slots

abbrev pub picked_at : Picks → ℕ → Option (ℕ × Atom ℕ)
picked_at ps i = slice_index_or ps i None

-- the picked entries alone
abbrev pub picked : Picks → Store
picked [] = []
picked (None ∷ ps) = picked ps
picked (Some e ∷ ps) = e ∷ picked ps

-- nothing is picked for the head
pub record IsOpen (ps : Picks) (head : ℕ) : Type 0 where
  pub within : head < length ps
  pub none : picked_at ps head ≡ None

-- an entry is picked for each head
abbrev pub AllPicked : Picks → Type 0
AllPicked ps = AllByRecursion (λ p. IsSome p) ps

-- an entry for each head has each pick at its head
abbrev pub Fills : Picks → Store → Type 0
Fills ps entries = (i : ℕ) (e : ℕ × Atom ℕ) → picked_at ps i ≡ Some e → slice_get entries i ≡ Some e

-- one of the entries has the label
abbrev pub Has : ℕ → Store → Type 0
Has label entries = among (labels entries) label ≡ true

-- under the valuation the head of the number, from 1, is the atom
abbrev pub HeadIs : Simpagation ℕ → ℕ → Atom ℕ → Valuation → Type 0
HeadIs rule number atom v = IsAtHead rule v (number, atom)

-- the head of the number, from 1, is the atom under some valuation that extends the binding
abbrev pub MayBeHead : Simpagation ℕ → ℕ → List (Option (Value ℕ)) → Atom ℕ → Type 0
MayBeHead rule number binding atom =
    (v : Valuation) × Extends v binding × HeadIs rule number atom v

-- nothing is picked for the head at the place, and the list has the labels of all entries that it
-- may be, but for the own one
pub record IsNext (rule : Simpagation ℕ) (own : ℕ) (store : Store) (ps : Picks)
    (binding : List (Option (Value ℕ))) (place : ℕ) (labels : List ℕ) : Type 0 where
  pub is_open : IsOpen ps place
  pub has : HasAllBut own store (MayBeHead rule (place + 1) binding) labels

-- under the valuation the heads are the atoms that are picked for them
abbrev pub AllFit : Simpagation ℕ → Picks → Valuation → Type 0
AllFit rule ps v = (i : ℕ) (e : ℕ × Atom ℕ) → picked_at ps i ≡ Some e → HeadIs rule (suc i) e.1 v

-- distinct entries of the store, one for each head, are an instance
pub record IsInstanceOver (rule : Simpagation ℕ) (store entries : Store) (body : List (Atom ℕ))
    : Type 0 where
  pub instance : IsInstance rule (atoms entries) body
  pub distinct : Distinct (labels entries)
  pub there : Carry store (labels entries) (atoms entries)

-- distinct entries of the store are picked, and this is the one binding of their heads' variables
pub record IsPartial (rule : Simpagation ℕ) (store : Store) (ps : Picks)
    (binding : List (Option (Value ℕ))) : Type 0 where
  pub heads : length ps ≡ length rule.kept + length rule.removed
  pub fit : IsFit rule (AllFit rule ps) binding
  pub distinct : Distinct (labels (picked ps))
  pub there : Carry store (labels (picked ps)) (atoms (picked ps))

-- entries such as these are an instance of the rule over the store, with the one binding of the
-- rule's variables
pub record IsMatch {A : Type 0} (rule : Simpagation ℕ) (store : Store) (Such : Store → Type 0)
    (m : Match A) : Type 0 where
  pub entries : Store
  pub such : Such entries
  pub under : IsInstanceUnder rule (atoms entries) m.binding
  pub whole : IsInstanceOver rule store entries under.body
  pub kept : m.kept.items ≡ take (length rule.kept) (labels entries)
  pub removed : m.removed.items ≡ drop (length rule.kept) (labels entries)

-- no such entries are an instance of the rule
abbrev pub NoMatch : Simpagation ℕ → Store → (Store → Type 0) → Type 0
NoMatch rule store Such =
    (entries : Store) (body : List (Atom ℕ)) → IsInstanceOver rule store entries body →
    Such entries → ⊥
