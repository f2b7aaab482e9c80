-- What is kept of a binding without what it borrows.
use Rattle.std.specs.Prelude.{◌≡◌, ℕ, Bool, true, false, List, length, Option, Some, None}
use Rattle.std.specs.Prelude.{slice_index_or}
use Rattle.chr_value.specs.Atoms.{Value, Int, Sym, Comp}
use Rattle.chr_guard.specs.declared.settled.Mark.{Mark}
use Rattle.chr_guard.specs.declared.settled.Mark.TheVariants as marks
use Rattle.chr_guard.specs.Bindings.{bound_at}

-- a binding, and what is kept of it
abbrev pub Places : Type 0
Places = List (Option (Value ℕ))

abbrev pub Marks : Type 0
Marks = List (Option (Option (Value ℕ)))

-- of what a variable is bound to: a number or a symbol, or that there is a compound value
abbrev pub mark_of : Option (Value ℕ) → Option (Option (Value ℕ))
mark_of None = None
mark_of (Some (Int n)) = Some (Some (Int n))
mark_of (Some (Sym s)) = Some (Some (Sym s))
mark_of (Some (Comp s vs)) = Some None

abbrev pub mark_view : Mark → Option (Option (Value ℕ))
mark_view marks.Free = None
mark_view (marks.Number n) = Some (Some (Int n))
mark_view (marks.Symbol name) = Some (Some (Sym name.number))
mark_view marks.Compound = Some None

-- there is a compound value
abbrev pub is_compound : Option (Option (Value ℕ)) → Bool
is_compound None = false
is_compound (Some (Some a)) = false
is_compound (Some None) = true

-- a number or a symbol that is kept, in place of what stands there
abbrev pub filled : Option (Option (Value ℕ)) → Option (Value ℕ) → Option (Value ℕ)
filled None o = o
filled (Some (Some a)) o = Some a
filled (Some None) o = o

-- the binding with the numbers and symbols that are kept
pub record IsFilled (kept : Marks) (old new : Places) : Type 0 where
  pub places : length new ≡ length old
  pub each : (x : ℕ) → bound_at new x ≡ filled (slice_index_or kept x None) (bound_at old x)
