use Rattle.std.proofs.Common.{◌≡◌, false, ap, sym, ◌∙◌}
use Rattle.std.proofs.lemmas.Result.{IfOk-weaker}
use Rattle.chr_calls.specs.Tickets.{Ticket, waiting, marked}
use Rattle.chr_tickets.proofs.Changes.{shown_stray}
use Rattle.chr_tickets.proofs.ticket.Ticket.add_arguments.Goals as goal

pub returns-clause-made : goal.returns-clause-made
returns-clause-made g c =
    let unmarked : c.args.self.now.stray ≡ false = sym (shown_stray c.args.self.now.goal c.args.self.now.stray) ∙ ap (λ (x : Ticket). x.stray) c.requires in
    let atom = c.add_arguments.new.atom in
    IfOk-weaker c.add_arguments.result _ _ (λ all made yes. (atom, made yes, ap (λ mark. marked mark (waiting atom)) unmarked)) c.add_arguments.ensures.made
