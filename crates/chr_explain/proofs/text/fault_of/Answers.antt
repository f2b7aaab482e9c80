use Rattle.chr_log.specs.Events.{events_of}
use Rattle.chr_explain.proofs.ExplainedTexts.{run_lawful, refused_answer}
use Rattle.chr_explain.proofs.text.fault_of.Goals as goal

pub returns-in-Ok : goal.returns-in-Ok
returns-in-Ok g c = run_lawful c.args.version c.args.program.now (events_of c.args.events.now) _ _ c.in-Ok.ensures.run

pub returns-in-Err-NotARun : goal.returns-in-Err-NotARun
returns-in-Err-NotARun g c =
    refused_answer c.args.version c.args.program.now (events_of c.args.events.now) _ c.in-Err-NotARun.field-0 c.in-Err-NotARun.fault c.of_log.result c.in-Err-NotARun.field-0-is c.in-Err-NotARun.ensures.fault c.of_log.ensures
