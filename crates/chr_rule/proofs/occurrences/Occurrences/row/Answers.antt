use Rattle.std.proofs.Common.{◌-◌, sym, ltb-true, vec_len, vec_capacity}
use Rattle.chr_rule.proofs.Index.{row_read}
use Rattle.chr_rule.proofs.occurrences.Occurrences.row.Goals as goal

pub returns-in-Some-clause-order : goal.returns-in-Some-clause-order
returns-in-Some-clause-order g c =
    let lookup = rw (c.deref.ensures.value) at c.in-Some.ensures.lookup in
    rw (c.deref-in-Some.ensures.value, ← row_read (λ row. row.items) (λ row. vec_capacity row - vec_len row) c.self.inside.rows.items c.args.name.number c.in-Some.row.now (ltb-true _ _ (sym lookup.0)) lookup.1) (c.self.invariant c.args.name.number)
