use Rattle.std.proofs.Common.{◌≤◌, ◌<◌, ◌*◌, ◌^◌, ◌-◌, ◌∙◌, min, ℕ, ap, arith, sym, subst}
use lib.Count.{count_leading_zeros}
use Rattle.chr_index.proofs.Chaining.{shift_some, shift_room}
use Rattle.chr_index.proofs.table.shift_for.Goals as goal

pub returns-clause-some : goal.returns-clause-some
returns-clause-some c = subst (λ (n : ℕ). 0 < n) (sym c.min.ensures) (shift_some c.saturating_sub.result (omega (arith, c.saturating_sub.ensures, c.requires)))

pub returns-clause-room : goal.returns-clause-room
returns-clause-room c =
    subst (λ (n : ℕ). 2 * c.args.used ≤ 2 ^ (64 - n)) (sym (c.min.ensures ∙ ap (λ (n : ℕ). min (count_leading_zeros 64 n) 61) c.saturating_sub.ensures)) (shift_room c.args.used c.requires)
