use Rattle.std.proofs.Common.{subst, sym}
use Rattle.chr_check_text.specs.CheckTexts.{IsUnread}
use Rattle.chr_check_text.proofs.Answered.{one_checked, one_unread}
use Rattle.chr_check_text.proofs.checked.watched_check_text.Goals as goal

pub returns-in-Ok : goal.returns-in-Ok
returns-in-Ok g c = one_checked c.args.program.now c.args.log.now c.args.store.now c.in-Ok.checked c.in-Ok.ensures

pub returns-in-Err : goal.returns-in-Err
returns-in-Err g c =
    subst (IsUnread c.args.program.now c.args.log.now c.args.store.now) (sym c.whole_fault.ensures) (one_unread c.args.program.now c.args.log.now c.args.store.now c.in-Err.fault c.in-Err.ensures)
