-- What values of terms leave of the limits, and terms that stand for a number or a symbol.
use Rattle.std.specs.Prelude.{ℕ, Option, Some, None}
use Rattle.chr_value.specs.Atoms.{Value, Int, Sym, Args}
use Rattle.chr_value.specs.Limits.{left_of, left_after, args_depth, args_size}
use Rattle.chr_guard.specs.declared.terms.Plain.{Plain}
use Rattle.chr_guard.specs.declared.terms.Plain.TheVariants as plains

-- a number or a symbol as a value
abbrev pub plain_value : Plain → Value ℕ
plain_value (plains.Number n) = Int n
plain_value (plains.Symbol name) = Sym name.number

-- the room that a value leaves where it may be d deep and there is so much, if there is a value
abbrev pub left_under : ℕ → ℕ → Option (Value ℕ) → Option ℕ
left_under d room (Some a) = left_after d room a
left_under d room None = None

-- the room that arguments leave
abbrev pub left_under_all : ℕ → ℕ → Option (Args ℕ) → Option ℕ
left_under_all d room (Some as') = left_of d room (args_depth as') (args_size as')
left_under_all d room None = None
