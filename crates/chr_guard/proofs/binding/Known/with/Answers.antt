use Rattle.std.proofs.Common.{w32, arith}
use Rattle.std.proofs.lemmas.Nat.Bits.{bit_at_set_same, bit_at_set_other}
use Rattle.chr_guard.proofs.binding.Known.with.Goals as goal

pub returns-clause-here : goal.returns-clause-here
returns-clause-here c = bit_at_set_same w32 c.args.self.bits c.args.variable (omega (arith, c.requires))

pub returns-clause-others : goal.returns-clause-others
returns-clause-others c x other = bit_at_set_other w32 c.args.self.bits c.args.variable (omega (arith, c.requires)) x other
