use Rattle.std.proofs.Common.{◌≡◌, ◌<◌, length, arith}
use Rattle.chr_index.proofs.Chaining.{links_added, table_added}
use Rattle.chr_index.proofs.table.Table.enter.Goals as goal

pub invariant_of-self-2 : goal.invariant_of-self-2
invariant_of-self-2 g c =
    let last : c.len-2.result ≡ length c.push.new.self.items = omega arith in
    let fits : length c.self.inside.entries.items < 4294967295 = omega arith in
    table_added c.self.inside.chains.items c.self.inside.entries.items c.push.new.self.items c.self.inside.shift c.home-home.result c.len-2.result c.index.result.now c.new.result c.args.self.now c.self.view_is c.args.key c.args.link
    c.new.ensures.key c.new.ensures.link c.new.ensures.next c.index.ensures c.in_ok-push.ensures.items c.home-home.ensures last fits c.requires.key c.requires.chains c.self.invariant

pub returns-clause-ok : goal.returns-clause-ok
returns-clause-ok g c =
    let last : c.len-2.result ≡ length c.push.new.self.items = omega arith in
    let fits : length c.self.inside.entries.items < 4294967295 = omega arith in
    links_added c.self.inside.chains.items c.self.inside.entries.items c.push.new.self.items c.self.inside.shift c.home-home.result c.len-2.result c.index.result.now c.new.result c.args.self.now c.self.view_is c.args.key c.args.link
    c.new.ensures.key c.new.ensures.link c.new.ensures.next c.index.ensures c.in_ok-push.ensures.items c.home-home.ensures last fits c.requires.key c.requires.chains c.self.invariant
