use Rattle.chr_commands.proofs.Lawful.{lawful_with, refused_with, checked_as, parts_are}
use Rattle.chr_commands.proofs.check.check_sources.Goals as goal

pub returns-in-Ok-checked-clause-run : goal.returns-in-Ok-checked-clause-run
returns-in-Ok-checked-clause-run g c = λ done.
    let checked = checked_as _ _ _ _ _ _ c.in-Ok-checked.is c.watched_check_parts-checked.ensures in
    lawful_with _ _ _ _ _ _
    (parts_are _ _ _ _ c.in-len1-up.len_at_least c.as_slice.ensures.value c.in-Ok.ensures)
    (c.print_checked.ensures.run done) checked

pub returns-in-Ok-checked-clause-refused : goal.returns-in-Ok-checked-clause-refused
returns-in-Ok-checked-clause-refused g c = λ refused.
    let checked = checked_as _ _ _ _ _ _ c.in-Ok-checked.is c.watched_check_parts-checked.ensures in
    refused_with _ _ _ _ _ _
    (parts_are _ _ _ _ c.in-len1-up.len_at_least c.as_slice.ensures.value c.in-Ok.ensures)
    (c.print_checked.ensures.refused refused) checked
