use Rattle.std.proofs.Common.{◌-◌, arith, vec_len, vec_capacity}
use Rattle.chr_rule.proofs.Index.{pushed}
use Rattle.chr_rule.proofs.occurrences.Occurrences.push_reserved.Goals as goal

pub invariant_of-self : goal.invariant_of-self
invariant_of-self g c = (pushed (λ row. row.items) (λ row. vec_capacity row - vec_len row) c.self.inside.rows.items c.args.name.number c.index_mut.result.now c.push_reserved.new.self c.args.one c.self.view_is c.requires.room c.index_mut.ensures.value c.push_reserved.ensures.items (omega (arith, c.push_reserved.ensures.len, c.push_reserved.ensures.capacity)) c.self.invariant c.requires.fits c.requires.last).order

pub returns-clause-rows : goal.returns-clause-rows
returns-clause-rows g c = (pushed (λ row. row.items) (λ row. vec_capacity row - vec_len row) c.self.inside.rows.items c.args.name.number c.index_mut.result.now c.push_reserved.new.self c.args.one c.self.view_is c.requires.room c.index_mut.ensures.value c.push_reserved.ensures.items (omega (arith, c.push_reserved.ensures.len, c.push_reserved.ensures.capacity)) c.self.invariant c.requires.fits c.requires.last).rows

pub returns-clause-rooms : goal.returns-clause-rooms
returns-clause-rooms g c = (pushed (λ row. row.items) (λ row. vec_capacity row - vec_len row) c.self.inside.rows.items c.args.name.number c.index_mut.result.now c.push_reserved.new.self c.args.one c.self.view_is c.requires.room c.index_mut.ensures.value c.push_reserved.ensures.items (omega (arith, c.push_reserved.ensures.len, c.push_reserved.ensures.capacity)) c.self.invariant c.requires.fits c.requires.last).rooms
