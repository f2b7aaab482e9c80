use Rattle.std.proofs.Common.{List, ℕ, map, subst, sym}
use Rattle.chr_check_text.specs.CheckParts.{IsPartsUnread}
use Rattle.chr_check_text.proofs.Answered.{log_unread}
use Rattle.chr_check_text.proofs.checked.check_log.Goals as goal

pub returns-in-Err : goal.returns-in-Err
returns-in-Err g c = λ rules read.
    let more : List (List ℕ) = map (λ text. text.now) c.args.more.now in
    subst (IsPartsUnread rules c.args.first.now more c.args.store.now) (sym c.log_fault.ensures)
    (log_unread rules c.args.first.now more c.args.store.now c.in-Err.fault c.args.program.now c.args.names.now read c.in-Err.ensures.fault)

pub returns-in-Ok : goal.returns-in-Ok
returns-in-Ok g c = λ rules read. c.check_store.ensures rules c.args.first.now (map (λ text. text.now) c.args.more.now) c.args.names.now read c.in-Ok.ensures.found
