use Rattle.std.proofs.Common.{ap, arith, length}
use Rattle.chr_index.specs.Chains.{Chained}
use Rattle.chr_index.proofs.Chaining.{place_within, links_rewritten, table_rewritten}
use Rattle.chr_index.proofs.table.Table.write.Goals as goal

pub index-requires : goal.index-requires
index-requires g c = omega (arith, ap (λ (t : Chained). length t.entries) c.self.view_is, place_within c.args.self.now c.args.key, c.requires.key, c.requires.some)

pub index_mut-requires : goal.index_mut-requires
index_mut-requires g c = omega (arith, ap (λ (t : Chained). length t.entries) c.self.view_is, place_within c.args.self.now c.args.key, c.requires.key, c.requires.some)

pub invariant_of-self : goal.invariant_of-self
invariant_of-self g c =
    table_rewritten c.self.inside.chains.items c.self.inside.entries.items c.self.inside.shift c.args.place c.index.result.now c.new.result c.args.self.now c.self.view_is c.args.key c.args.link
    c.new.ensures.key c.new.ensures.link c.new.ensures.next c.requires.key c.requires.some c.index.ensures c.self.invariant

pub returns : goal.returns
returns g c =
    links_rewritten c.self.inside.chains.items c.self.inside.entries.items c.self.inside.shift c.args.place c.index.result.now c.new.result c.args.self.now c.self.view_is c.args.key c.args.link
    c.new.ensures.key c.new.ensures.link c.new.ensures.next c.requires.key c.requires.some c.index.ensures c.self.invariant
