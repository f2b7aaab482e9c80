use Rattle.std.proofs.Common.{Vec, List, ℕ, subst}
use Rattle.chr_log.specs.declared.events.Event.{Event}
use Rattle.chr_log.specs.Events.{events_of}
use Rattle.chr_explain.specs.ExplainTexts.{IsAnswer, bytes_of}
use Rattle.chr_explain.proofs.ExplainedTexts.{read_answer}
use Rattle.chr_explain.proofs.text.explain_log.Goals as goal

pub returns-in-Ok : goal.returns-in-Ok
returns-in-Ok g c = λ read.
    let made = bytes_of (λ (out : Vec ℕ g.row.A.Denot). out.items) c.explain_events.result in
    let version = c.in-Ok.log.version in
    read_answer c.args.text.now c.args.log.now c.args.question c.args.program.now c.args.names.now c.read_log.new.names version (events_of c.in-Ok.log.events.items) made read c.in-Ok.ensures.found
    (subst (λ (es : List (Event g.row.A.Denot)). IsAnswer c.args.text.now c.args.program.now c.read_log.new.names version (events_of es) c.args.question made) c.deref.ensures.value c.explain_events.ensures)

pub returns-in_default : goal.returns-in_default
returns-in_default g c = λ read. (c.in_default.not-NoMemory, record { rules = c.args.program.now; table = c.args.names.now; reads = read }, c.in-Err.ensures.fault)
