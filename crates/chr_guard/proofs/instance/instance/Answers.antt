use Rattle.std.proofs.Common.{map}
use Rattle.chr_guard.proofs.Whole.{is_added, not_added, carried_on, if_ok_as}
use Rattle.chr_guard.proofs.instance.instance.Goals as goal

pub returns : goal.returns
returns g c =
    let facts = map (λ a. a.now) c.args.atoms.now in
    if_ok_as c.added_atoms.result
    (λ made. carried_on made
    (not_added c.args.rule.now facts c.in-Some.binding c.in-Some.ensures)
    (λ atoms is. is_added c.args.rule.now facts atoms.items c.in-Some.binding c.in-Some.ensures is))
    c.added_atoms.ensures
