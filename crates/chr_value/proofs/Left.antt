-- The room that values leave.
use Rattle.std.proofs.Common.{◌≡◌, ◌<◌, ◌≤◌, ◌+◌, ℕ, max, List, Option, length, drop, get_or, Some, None, arith, ap, ◌∙◌}
use Rattle.std.proofs.lemmas.Bool.Decides.{nat_tests}
use Rattle.chr_value.specs.Atoms.{Value, args_of, ground, grounds}
use Rattle.chr_value.specs.Limits.{depth, size, left_of, left_after, args_depth, args_size}
use Rattle.chr_value.specs.declared.value.Value.{Value as CodeValue}
use Rattle.chr_value.proofs.Places.{left-at, left-end as none-left}

abbrev pub left_after_all : {N : Type 0} → ℕ → ℕ → List (Value N) → Option ℕ
left_after_all d room vs = left_of d room (args_depth (args_of vs)) (args_size (args_of vs))

-- after one value that leaves some room, what others leave
pub left-more : (d room a s b t r : ℕ) → left_of d room a s ≡ Some r → left_of d room (max a b) (s + t) ≡ left_of d r b t
left-more d room a s b t r h = grind (arith, nat_tests)

pub left-none : (d room a s b t : ℕ) → left_of d room a s ≡ None → left_of d room (max a b) (s + t) ≡ None
left-none d room a s b t h = grind (arith, nat_tests)

pub left-nothing : (d room : ℕ) → left_of d room 0 0 ≡ Some room
left-nothing d room = grind (arith, nat_tests)

-- the same of a value and of those behind it
pub left-next : {A : Type 0} (d room r : ℕ) (xs : List (CodeValue A)) (i : ℕ) (x : CodeValue A) → i < length xs → x ≡ get_or xs i x → left_after d room (ground x) ≡ Some r
    → left_after_all d room (grounds (drop i xs)) ≡ left_after_all d r (grounds (drop (i + 1) xs))
left-next d room r xs i x lt ex h = ap (left_after_all d room) (left-at ground xs i x lt ex) ∙ left-more d room (depth (ground x)) (size (ground x)) _ _ r h

pub left-stop : {A : Type 0} (d room : ℕ) (xs : List (CodeValue A)) (i : ℕ) (x : CodeValue A) → i < length xs → x ≡ get_or xs i x → left_after d room (ground x) ≡ None
    → left_after_all d room (grounds (drop i xs)) ≡ None
left-stop d room xs i x lt ex h = ap (left_after_all d room) (left-at ground xs i x lt ex) ∙ left-none d room (depth (ground x)) (size (ground x)) _ _ h

pub left-end : {A : Type 0} (d room : ℕ) (xs : List (CodeValue A)) (i : ℕ) → length xs ≤ i → left_after_all d room (grounds (drop i xs)) ≡ Some room
left-end d room xs i le = ap (left_after_all d room) (none-left ground xs i le) ∙ left-nothing d room
