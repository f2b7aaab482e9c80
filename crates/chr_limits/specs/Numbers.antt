-- The numbers that digits spell.
use Rattle.std.specs.Prelude.{ℕ, zero, suc, ◌+◌, ◌-◌, ◌*◌, ◌^◌, ℤ, pos, negsuc, Bool, true, false, List, [], ◌∷◌, nat_lt, nat_le, if◌then◌else◌, Option, Some, None}

-- the number of the digits, after a number
abbrev pub decimal_from : ℕ → List ℕ → ℕ
decimal_from n [] = n
decimal_from n (b ∷ bs) = decimal_from (n * 10 + (b - 48)) bs

abbrev pub minus : ℕ → ℤ
minus zero = pos 0
minus (suc n) = negsuc n

-- within 64 bits with sign
abbrev pub int_of : Bool → ℕ → Option ℤ
int_of false n = if nat_lt n (2 ^ 63) then Some (pos n) else None
int_of true n = if nat_le n (2 ^ 63) then Some (minus n) else None

-- the whole number that a sign and digits spell, within 64 bits with sign
abbrev pub whole_number : Bool → List ℕ → Option ℤ
whole_number negative digits = int_of negative (decimal_from 0 digits)
