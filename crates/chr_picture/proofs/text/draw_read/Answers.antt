use Rattle.chr_log.specs.Events.{events_of}
use Rattle.chr_picture.proofs.Drawn.{both_read}
use Rattle.chr_picture.proofs.text.draw_read.Goals as goal

pub returns-in-Ok : goal.returns-in-Ok
returns-in-Ok g c = λ rules read.
    both_read rules c.args.log.now c.args.range c.draw_log.result c.args.program.now c.args.names.now c.in-Ok.read.version (events_of c.in-Ok.read.events.items) c.read_log.new.names read c.in-Ok.ensures.found c.draw_log.ensures

pub returns-in_default : goal.returns-in_default
returns-in_default g c = λ rules read. (c.in_default.not-NoMemory, record { rules = c.args.program.now; table = c.args.names.now; reads = read }, c.in-Err.ensures.fault)
