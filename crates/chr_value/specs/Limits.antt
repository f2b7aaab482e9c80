-- How deep and how large values are.
use Rattle.std.specs.Prelude.{ℕ, suc, ◌+◌, ◌-◌, ◌≤◌, max, ◌&&◌, nat_le, if◌then◌else◌, Option, Some, None}
use Rattle.chr_value.specs.Atoms.{Value, Int, Sym, Comp, Args, Nil, Cons}
use Rattle.chr_value.specs.Bounds.{most_depth, most_size}

-- a number or a symbol is 1 deep, a functor one deeper than its deepest argument
abbrev mutual
  pub depth : {N : Type 0} → Value N → ℕ
  depth (Int z) = 1
  depth (Sym s) = 1
  depth (Comp s vs) = suc (args_depth vs)

  pub args_depth : {N : Type 0} → Args N → ℕ
  args_depth Nil = 0
  args_depth (Cons v vs) = max (depth v) (args_depth vs)

-- a number or a symbol has the size 1, a functor one more than its arguments together
abbrev mutual
  pub size : {N : Type 0} → Value N → ℕ
  size (Int z) = 1
  size (Sym s) = 1
  size (Comp s vs) = suc (args_size vs)

  pub args_size : {N : Type 0} → Args N → ℕ
  args_size Nil = 0
  args_size (Cons v vs) = size v + args_size vs

-- neither too deep nor too large
pub record IsWithin {N : Type 0} (v : Value N) : Type 0 where
  pub depth : depth v ≤ most_depth
  pub size : size v ≤ most_size

-- the room that is left behind what is so deep and so large, where d levels and this room are there
abbrev pub left_of : ℕ → ℕ → ℕ → ℕ → Option ℕ
left_of d room depth size = if nat_le depth d && nat_le size room then Some (room - size) else None

abbrev pub left_after : {N : Type 0} → ℕ → ℕ → Value N → Option ℕ
left_after d room v = left_of d room (depth v) (size v)
