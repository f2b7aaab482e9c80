-- The slots in which an atom's arguments lie, and the compound values beside them.
use Rattle.std.specs.Prelude.{ℕ, ◌≡◌, ◌<◌, ◌≤◌, ◌-◌, ◌%◌, pos, List, [], ◌∷◌, ◌++◌, map, length, take, Option, Some, None, Box}
use Rattle.std.specs.Int.{cast_signed, w64}
use Rattle.std.specs.List.{slice_index_or, AllByRecursion}
use Rattle.chr_value.specs.Atoms.{Value, Int, Sym, ground_comp}
use Rattle.chr_value.specs.Bounds.{most_arguments}
use Rattle.chr_value.specs.Limits.{IsWithin}
use Rattle.chr_value.specs.declared.value.Comp.{Comp as CodeComp}
use Rattle.chr_value.specs.declared.slots.Slot.{Slot}
use Rattle.chr_value.specs.declared.slots.Slot.TheVariants as slots
use Rattle.chr_value.specs.declared.slots.Kind.{Kind}
use Rattle.chr_value.specs.declared.slots.Kind.TheVariants as kinds
use Rattle.chr_value.specs.declared.slots.Front.{Front}
use Rattle.chr_value.specs.declared.slots.Further.{Further}
use Rattle.chr_value.specs.declared.beside.Rest.{Rest}

-- a slot's kind
abbrev pub kind_of : Slot → Kind
kind_of (slots.Int z) = kinds.Int
kind_of (slots.Sym s) = kinds.Sym
kind_of (slots.Comp i) = kinds.Comp

-- the slot of a kind and a word
abbrev pub slot_of : Kind → ℕ → Slot
slot_of kinds.Int w = slots.Int (cast_signed w64 w)
slot_of kinds.Sym w = slots.Sym (record { number = w % 4294967296 })
slot_of kinds.Comp w = slots.Comp (w % 256)

-- those of words, and of the kinds at their places
abbrev pub slots_of : List Kind → List ℕ → List Slot
slots_of [] ws = []
slots_of (k ∷ ks) [] = []
slots_of (k ∷ ks) (w ∷ ws) = slot_of k w ∷ slots_of ks ws

-- the slots that lie in the atom itself
abbrev pub own_slots : Front → List Slot
own_slots f = slots_of f.kinds (take f.arity f.words)

-- the further ones of a box
abbrev pub those_of : Further → List Slot
those_of f = slots_of f.kinds (take f.count f.words)

-- the slots that lie beside the atom, of which there are none without a box
abbrev pub further_slots : {A : Type 0} → Option (Box (Rest A) A) → List Slot
further_slots None = []
further_slots (Some b) = those_of b.value.slots

-- the compound values beside it
abbrev pub comps_of : {A : Type 0} → Option (Box (Rest A) A) → List (CodeComp A)
comps_of None = []
comps_of (Some b) = b.value.comps.items

-- all slots of an atom
abbrev pub all_slots : {A : Type 0} → Front → Option (Box (Rest A) A) → List Slot
all_slots f r = own_slots f ++ further_slots r

-- as many slots as arguments, of which the first three lie in the atom itself
pub record LieInOrder {A : Type 0} (f : Front) (r : Option (Box (Rest A) A)) : Type 0 where
  pub arity : length (all_slots f r) ≡ f.arity
  pub own : length (own_slots f) ≤ 3
  pub further : length (further_slots r) ≤ f.arity - 3

-- what a slot says, beside these compound values
abbrev pub value_in : {A : Type 0} → List (CodeComp A) → Slot → Value ℕ
value_in cs (slots.Int z) = Int z
value_in cs (slots.Sym s) = Sym s.number
value_in cs (slots.Comp i) = slice_index_or (map ground_comp cs) i (Int (pos 0))

abbrev pub values_in : {A : Type 0} → List (CodeComp A) → List Slot → List (Value ℕ)
values_in cs ss = map (value_in cs) ss

-- there is a compound value at the slot's place
abbrev pub HasPlace : {A : Type 0} → List (CodeComp A) → Slot → Type 0
HasPlace cs (slots.Int z) = Unit {0}
HasPlace cs (slots.Sym s) = Unit {0}
HasPlace cs (slots.Comp i) = i < length cs

-- at most 8 arguments, each within the limits, of which no more are compound
pub record AreArguments {A : Type 0} (cs : List (CodeComp A)) (ss : List Slot) : Type 0 where
  pub few : length ss ≤ most_arguments
  pub fewer : length cs ≤ length ss
  pub places : AllByRecursion (HasPlace cs) ss
  pub within : AllByRecursion IsWithin (values_in cs ss)
