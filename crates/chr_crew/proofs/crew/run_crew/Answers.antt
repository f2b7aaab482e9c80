use Rattle.std.proofs.Common.{◌≡◌, ◌<◌, ◌+◌, [], get_or, ap, ◌∙◌, sym, subst}
use Rattle.std.specs.Prelude.{IsTrue}
use Rattle.std.specs.List.{flat_map}
use Rattle.chr_pool.specs.Inlets.{inlet_pushed}
use Rattle.chr_seats.specs.Accounts.{counts_in}
use Rattle.chr_crew.specs.Runs.{IsKeptOf}
use Rattle.chr_crew.proofs.Answering.{ok_with, ok_then}
use Rattle.chr_crew.proofs.Runs.{not_worked_on}
use Rattle.chr_crew.proofs.Tallies.{tallied}
use Rattle.chr_crew.proofs.crew.run_crew.Goals as goal

pub returns-in-Ok-with-clause-worked_on : goal.returns-in-Ok-with-clause-worked_on
returns-in-Ok-with-clause-worked_on g c =
    c.conclude.ensures.worked_on c.args.book (subst (IsKeptOf c.args.book) (sym c.work_together-book.ensures.same.0) c.in-Ok.ensures.before)

pub returns-in-Ok-with-clause-all : goal.returns-in-Ok-with-clause-all
returns-in-Ok-with-clause-all g c =
    ok_with (IsTrue c.work_together-book.result.1) _ _ c.conclude.result c.conclude.ensures.right c.conclude.ensures.counts
    (λ f right same. ap (λ v. v.len) same.1 ∙ c.work_together-book.ensures.all right ∙ c.in-Ok.ensures.hands)

pub returns-in-Ok-with-clause-counts : goal.returns-in-Ok-with-clause-counts
returns-in-Ok-with-clause-counts g c =
    ok_with (IsTrue c.work_together-book.result.1) _ _ c.conclude.result c.conclude.ensures.right c.conclude.ensures.counts
    (λ f right same k d below. ap (λ v. get_or v.items k d) same.1 ∙ c.work_together-book.ensures.each right k d (subst (λ n. k < n) (sym c.in-Ok.ensures.hands) below)
    ∙ ap (λ log. counts_in log (k + 1)) (sym same.0))

pub returns-in-Ok-with-clause-tallied : goal.returns-in-Ok-with-clause-tallied
returns-in-Ok-with-clause-tallied g c =
    let room = c.work_together-book.new.room in
    let none : flat_map inlet_pushed room.inlets.items ≡ [] = ap (λ v. flat_map inlet_pushed v.items) c.work_together-book.ensures.same.1 ∙ c.in-Ok.ensures.empty.1 in
    ok_then _ _ c.conclude.result c.conclude.ensures.tallied
    (λ f is. tallied c.args.book.tickets c.in-Ok.room.tickets.items room.hands.items room.inlets.items f.tally c.in-Ok.ensures.free c.work_together-book.ensures.pushed none is)

pub returns-in-Ok-with-clause-memory : goal.returns-in-Ok-with-clause-memory
returns-in-Ok-with-clause-memory g c =
    c.conclude.ensures.memory c.args.book (subst (IsKeptOf c.args.book) (sym c.work_together-book.ensures.same.0) c.in-Ok.ensures.before)

pub returns-in-Err-clause-memory : goal.returns-in-Err-clause-memory
returns-in-Err-clause-memory g c = λ cause. not_worked_on c.args.book c.in-Err.book c.args.n (c.in-Err.ensures.back)
