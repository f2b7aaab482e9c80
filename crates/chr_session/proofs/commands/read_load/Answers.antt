use Rattle.chr_session.proofs.FirstSpelled.{spells_refused, spells_loaded}
use Rattle.chr_session.proofs.commands.read_load.Goals as goal

pub returns-then-count-gt65536-clause-received : goal.returns-then-count-gt65536-clause-received
returns-then-count-gt65536-clause-received g c = λ input a. spells_refused c.in_ok-found.found c.or_cut.result c.args.text.now.items c.or_cut.ensures c.if-count-gt65536.true (c.in_ok-found.ensures.bytes input a)

pub returns-clause-received : goal.returns-clause-received
returns-clause-received g c = λ input a.
    let r = c.in_ok-found-2.ensures.bytes input a in
    spells_loaded c.in_ok-found-2.found c.or_cut-2.result c.read_counted.new.bytes.items c.or_cut-2.ensures c.if-count-gt65536.false r.1 r.0
