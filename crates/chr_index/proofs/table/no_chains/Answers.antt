use Rattle.std.proofs.Common.{◌-◌, ◌<◌, ◌^◌, arith}
use native.Mathlib.Nat.{mod-eq_of_lt}
use Rattle.std.proofs.lemmas.Nat.{pow_below}
use Rattle.chr_index.proofs.Chaining.{home_below}
use Rattle.chr_index.proofs.table.no_chains.Goals as goal

pub returns-clause-homes : goal.returns-clause-homes
returns-clause-homes g c = λ k.
    let fits : 2 ^ (64 - c.args.shift) < 2 ^ 64 = pow_below (64 - c.args.shift) 64 (omega arith) in
    omega (arith, home_below c.args.shift k c.requires.within, c.in_ok-resize.ensures.len, mod-eq_of_lt fits)
