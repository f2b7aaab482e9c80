use Rattle.chr_session.proofs.commands.receive.Goals as goal

pub returns-in-Load-clause-received : goal.returns-in-Load-clause-received
returns-in-Load-clause-received g c = rw c.in-Load.is c.read_load.ensures.received
