use Rattle.chr_log.specs.Events.{events_of}
use Rattle.chr_check_text.proofs.Answered.{answered_by}
use Rattle.chr_check_text.proofs.checked.told.Goals as goal

pub returns : goal.returns
returns g c =
    let checked = c.watched_check.ensures in
    record {
      answer = answered_by c.args.version c.args.program.now (events_of c.args.events.now) c.args.store.now c.in_ok-answer.answer c.watched_check.result c.in_ok-answer.ensures (record { run = checked.run; final_run = checked.final_run; fault = checked.fault });
      line = c.in_ok-line.ensures;
    }
