use Rattle.std.proofs.Common.{sym, subst}
use Rattle.chr_value.specs.Limits.{IsWithin}
use Rattle.chr_value.specs.Slots.{own_slots, further_slots, all_slots, comps_of, value_in}
use Rattle.chr_value.proofs.Places.{got-all, got-in-front}
use Rattle.chr_value.proofs.atom.Atom.own_arg_at.Goals as goal

pub returns-clause-within :
    goal.returns-clause-within
returns-clause-within g c =
    let at = got-in-front (own_slots c.self.inside.front) (further_slots c.self.inside.beside) c.args.index c.at.result c.at.ensures in
    subst IsWithin (sym c.value_at.ensures) (got-all (value_in (comps_of c.self.inside.beside)) IsWithin (all_slots c.self.inside.front c.self.inside.beside) c.args.index c.at.result at c.self.invariant.1.within)
