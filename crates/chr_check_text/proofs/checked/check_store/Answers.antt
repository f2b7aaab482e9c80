use Rattle.std.proofs.Common.{List, subst, sym}
use Rattle.chr_log.specs.declared.events.Event.{Event}
use Rattle.chr_log.specs.Events.{events_of}
use Rattle.chr_model.specs.Stores.{Store}
use Rattle.chr_model.specs.Programs.{Instances}
use Rattle.chr_check_text.specs.CheckTexts.{IsTold}
use Rattle.chr_check_text.specs.CheckParts.{IsPartsUnread}
use Rattle.chr_check_text.proofs.Answered.{store_unread, is_checked}
use Rattle.chr_check_text.proofs.checked.check_store.Goals as goal

pub returns : goal.returns
returns g c = λ rules first more table read log.
    subst (IsPartsUnread rules first more c.args.store.now) (sym c.store_fault.ensures)
    (store_unread rules first more c.args.store.now c.in-Err.fault c.args.program.now table c.args.log.now.version (events_of c.args.log.now.events.items) c.args.names.now read log c.in-Err.ensures.fault)

pub returns-in-Ok-told : goal.returns-in-Ok-told
returns-in-Ok-told g c = λ rules first more table read log.
    let version = c.args.log.now.version in
    is_checked rules first more c.args.store.now c.in-Ok-told.checked c.args.program.now table version (events_of c.args.log.now.events.items) c.args.names.now c.in-Ok.store.items c.read_store.new.names read log c.in-Ok.ensures.found
    (subst (λ (es : List (Event g.row.A.Denot)). IsTold version (Instances c.args.program.now) (events_of es) c.in-Ok.store.items c.in-Ok-told.checked) c.deref.ensures.value
    (subst (λ (st : Store). IsTold version (Instances c.args.program.now) (events_of c.deref.result.now) st c.in-Ok-told.checked) c.deref-in-Ok.ensures.value c.in-Ok-told.ensures))
