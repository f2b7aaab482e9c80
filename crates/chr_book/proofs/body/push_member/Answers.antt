use Rattle.std.proofs.Common.{[], sym, ap}
use Rattle.std.proofs.lemmas.List.{append-nil}
use Rattle.chr_rule.specs.Parts.{shape, member}
use Rattle.std.proofs.lemmas.Result.{on_ok_weaker}
use Rattle.chr_book.proofs.Fired.{makes_left, pushes_made}
use Rattle.chr_book.proofs.body.push_member.Goals as goal

pub returns-in_default-clause-ok : goal.returns-in_default-clause-ok
returns-in_default-clause-ok g c = ([], makes_left c.args.binding.now c.args.item.now c.in_default.not-Add, sym (append-nil c.args.tickets.now))

pub returns-clause-ok : goal.returns-clause-ok
returns-clause-ok g c =
    on_ok_weaker c.push_made.result
    (pushes_made c.args.binding.now (shape c.in-Add.pattern) (member c.args.item.now) (ap (member {Z = g.row.A.Denot}) c.in-Add.is) c.args.tickets.now c.push_made.new.self)
    c.push_made.ensures.ok
