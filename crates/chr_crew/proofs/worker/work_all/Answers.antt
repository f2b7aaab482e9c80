use Rattle.std.proofs.Common.{get_or, rules, subst}
use Rattle.chr_crew.specs.declared.worker.Worker.{Worker}
use Rattle.chr_crew.specs.Pools.{HasPushedOn}
use Rattle.chr_crew.proofs.Crossing.{basis, Shared-sync_by}
use Rattle.chr_crew.proofs.worker.work_all.Goals as goal

pub for_each_mut-requires-sync-F : goal.for_each_mut-requires-sync-F
for_each_mut-requires-sync-F g c κs within =
    let b = c.type_bounds in
    let shared = Shared-sync_by b.send-A b.sync-A b.frees-A-Allocator in
    let r = b.sync-R in
    let h = b.sync-G in
    search (basis, shared) fits 5000 depth 40

pub returns-clause-pushed : goal.returns-clause-pushed
returns-clause-pushed g c = λ k d below.
    let W : Type 0 = Worker g.row.L1.Denot g.row.L2.Denot in
    let h = (c.for_each_mut.ensures k d below).1 in
    let pushed : HasPushedOn h.argument.now.hand h.after_call.now.hand = search rules in
    subst (λ (w : W). HasPushedOn w.hand (get_or c.for_each_mut.new.s k d).hand) h.argument_is
    (subst (λ (w : W). HasPushedOn h.argument.now.hand w.hand) h.left pushed)
