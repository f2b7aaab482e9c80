use Rattle.std.proofs.Common.{◌≤◌, ◌++◌, [], List, length, map, sym, ap, subst, ◌∙◌}
use Rattle.std.specs.Prelude.{ℕ}
use Rattle.std.proofs.lemmas.List.{append-nil, append_assoc, take_all}
use Rattle.chr_rule.specs.Rules.{BodyItem}
use Rattle.chr_rule.specs.Parts.{member}
use Rattle.chr_calls.specs.Tickets.{Ticket}
use Rattle.chr_book.specs.Firings.{MakesBody}
use Rattle.chr_book.proofs.Fired.{makes_none, makes_more, rest_back}
use Rattle.chr_book.proofs.body.push_body.Goals as goal

pub loop-item-init : goal.loop-item-init
loop-item-init g c = ([], makes_none c.args.binding.now, sym (append-nil c.args.tickets.now))

pub returns-in_default-clause-err : goal.returns-in_default-clause-err
returns-in_default-clause-err g c =
    let before = c.loop-item.invariant in
    rest_back c.args.tickets.now c.push_member.new.tickets c.truncate.new.self c.next-first.result (before.0, c.in_default.ensures.err ∙ before.2) c.truncate.ensures c.next-first.ensures.value

pub loop-item-preserved : goal.loop-item-preserved
loop-item-preserved g c =
    let before = c.loop-item.invariant in
    let this = c.in-Ok.ensures.ok in (
      before.0 ++ this.0,
      makes_more (member {Z = g.row.A.Denot}) c.args.binding.now c.body-item-items.result.now c.loop-item.item-index c.item-item.result before.0 this.0 c.loop-item-test.true c.item-item.is before.1 this.1,
      this.2 ∙ ap (λ (ts : List Ticket). ts ++ this.0) before.2 ∙ append_assoc c.args.tickets.now before.0 this.0,
    )

pub returns-clause-ok : goal.returns-clause-ok
returns-clause-ok g c =
    let all = c.loop-item.invariant in
    let past : length c.body-item-items.result.now ≤ c.loop-item.item-index = c.loop-item-test.false in (
      all.0,
      subst (λ (ms : List (BodyItem ℕ)). MakesBody ms c.args.binding.now all.0) (ap (map (member {Z = g.row.A.Denot})) (take_all c.loop-item.item-index c.body-item-items.result.now past) ∙ c.body-item-items.ensures.members) all.1,
      all.2,
    )
