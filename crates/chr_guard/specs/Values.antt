-- The value of an expression and of a term, and when a comparison holds.
use Rattle.std.specs.Prelude.{◌≡◌, ◌≢◌, ℕ, Bool, true, not, ◌&&◌, ◌||◌, if◌then◌else◌, nat_le, ℤ, pos, negsuc, ◌+ℤ◌, ◌-ℤ◌, ◌*ℤ◌, int_lt, int_le, int_div, int_rem, Option, Some, None}
use Rattle.std.specs.Option.{option_map}
use Rattle.chr_value.specs.Atoms.{Value, Args, Nil, Cons}
use Rattle.chr_value.specs.Atoms as terms
use Rattle.chr_value.specs.Bounds.{most_depth, most_size}
use Rattle.chr_value.specs.Limits.{depth, size}
use Rattle.chr_rule.specs.declared.expression.Operator.{Operator}
use Rattle.chr_rule.specs.declared.expression.Operator.TheVariants.{Add, Sub, Mul, Quot, Rem, Mod}
use Rattle.chr_rule.specs.declared.expression.Relation.{Relation}
use Rattle.chr_rule.specs.declared.expression.Relation.TheVariants.{Less, LessEqual, Greater, GreaterEqual, Equal, Unequal}
use Rattle.chr_rule.specs.Rules.{Term, Var, Given, Open, Terms, End, And, Expression, Number, Variable, Operation, Comparison, Compared, Same, Differ}

-- what each variable of a rule stands for, if it stands for a value
abbrev pub Valuation : Type 0
Valuation = ℕ → Option (Value ℕ)

-- a number, where it has 64 bits with sign
abbrev pub in_range : ℤ → Option ℤ
in_range n =
    if int_le (negsuc 9223372036854775807) n && int_le n (pos 9223372036854775807) then Some n
    else None

abbrev pub is_zero : ℤ → Bool
is_zero n = int_le n (pos 0) && int_le (pos 0) n

-- whether two numbers lie on different sides of 0
abbrev pub signs_differ : ℤ → ℤ → Bool
signs_differ a b = int_lt a (pos 0) && int_lt (pos 0) b || int_lt (pos 0) a && int_lt b (pos 0)

-- the remainder with the sign of the divisor
abbrev pub int_mod : ℤ → ℤ → ℤ
int_mod a b = if signs_differ (int_rem a b) b then int_rem a b +ℤ b else int_rem a b

-- an operator's result over exact numbers: none out of range, and none by a divisor 0
abbrev pub computed : Operator → ℤ → ℤ → Option ℤ
computed Add a b = in_range (a +ℤ b)
computed Sub a b = in_range (a -ℤ b)
computed Mul a b = in_range (a *ℤ b)
computed Quot a b = if is_zero b then None else in_range (int_div a b)
computed Rem a b = if is_zero b then None else in_range (int_rem a b)
computed Mod a b = if is_zero b then None else in_range (int_mod a b)

-- the number that a variable stands for, which has none if it stands for another value or for
-- nothing
abbrev pub number_in : Option (Value ℕ) → Option ℤ
number_in (Some (terms.Int n)) = Some n
number_in (Some (terms.Sym s)) = None
number_in (Some (terms.Comp s vs)) = None
number_in None = None

abbrev pub both : {A B C : Type 0} → (A → B → Option C) → Option A → Option B → Option C
both f (Some a) (Some b) = f a b
both f (Some a) None = None
both f None b = None

-- an expression's value, which it has where each part has one
abbrev pub value_of : Valuation → Expression → Option ℤ
value_of v (Number n) = Some n
value_of v (Variable x) = number_in (v x)
value_of v (Operation o a b) = both (computed o) (value_of v a) (value_of v b)

abbrev pub compares : Relation → ℤ → ℤ → Bool
compares Less a b = int_lt a b
compares LessEqual a b = int_le a b
compares Greater a b = int_lt b a
compares GreaterEqual a b = int_le b a
compares Equal a b = int_le a b && int_le b a
compares Unequal a b = not (int_le a b && int_le b a)

-- what a term stands for, if it stands for a value
abbrev mutual
  pub term_under : Valuation → Term ℕ → Option (Value ℕ)
  term_under v (Var x) = v x
  term_under v (Given t) = Some t
  term_under v (Open s ts) = option_map (terms.Comp s) (terms_under v ts)

  pub terms_under : Valuation → Terms ℕ → Option (Args ℕ)
  terms_under v End = Some Nil
  terms_under v (And t ts) = both (λ x xs. Some (Cons x xs)) (term_under v t) (terms_under v ts)

-- a value that is neither too deep nor too large; there is none past these limits
abbrev pub within_limits : Option (Value ℕ) → Option (Value ℕ)
within_limits (Some a) =
    if nat_le (depth a) most_depth && nat_le (size a) most_size then Some a else None
within_limits None = None

-- what an argument of a body stands for, and a side of `==` or `\==`, if it is within the limits
abbrev pub value_under : Valuation → Term ℕ → Option (Value ℕ)
value_under v t = within_limits (term_under v t)

-- what a term stands for that may be a key: a variable, or a value as it is written
abbrev pub key_under : Valuation → Term ℕ → Option (Value ℕ)
key_under v (Var x) = v x
key_under v (Given t) = Some t
key_under v (Open s ts) = None

-- both sides have values, and these are so
abbrev pub WhereBoth : {V : Type 0} → (V → V → Type 0) → Option V → Option V → Type 0
WhereBoth P (Some a) (Some b) = P a b
WhereBoth P (Some a) None = ⊥
WhereBoth P None b = ⊥

-- numbers are compared by their relation, values by whether they are equal; no comparison holds
-- where a side has no value
abbrev pub Holds : Valuation → Comparison ℕ → Type 0
Holds v (Compared r a b) =
    both (λ m n. Some (compares r m n)) (value_of v a) (value_of v b) ≡ Some true
Holds v (Same s t) = WhereBoth (λ a b. a ≡ b) (value_under v s) (value_under v t)
Holds v (Differ s t) = WhereBoth (λ a b. a ≢ b) (value_under v s) (value_under v t)
