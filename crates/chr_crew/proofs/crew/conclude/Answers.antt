use Rattle.std.proofs.Common.{ℕ, List, ◌++◌, ◌∙◌, sym, subst}
use Rattle.std.specs.Prelude.{IsPermutation}
use Rattle.std.proofs.lemmas.List.{map-id}
use Rattle.chr_pool.specs.Pools.{pool_pushed, pool_taken}
use Rattle.chr_crew.proofs.crew.conclude.Goals as goal
use Rattle.chr_crew.proofs.crew.conclude.Goals.{then-right, else-right, then-right-2, else-right-2}

pub returns-in-Ok-clause-worked_on : goal.returns-in-Ok-clause-worked_on
returns-in-Ok-clause-worked_on g c = λ b kept.
    elim c.if-right.branch [
      | then-right w ↦ w.leads_to-right.ensures.worked_on b kept (sym w.right-is ∙ c.if-right-3.true)
      | else-right w ↦ cc (w.right-is, c.if-right-3.true)
    ]

pub returns-clause-memory : goal.returns-clause-memory
returns-clause-memory g c = λ b kept cause.
    elim c.if-right-2.branch [
      | then-right-2 x ↦ elim c.if-right.branch [
        | then-right w ↦ w.leads_to-right.ensures.worked_on b kept (sym w.right-is ∙ x.if-right-2.true)
        | else-right w ↦ cc (w.right-is, x.if-right-2.true)
      ]
      | else-right-2 x ↦ cc (x.cause-is, cause)
    ]

pub returns-in-Ok-clause-tallied : goal.returns-in-Ok-clause-tallied
returns-in-Ok-clause-tallied g c =
    let pushed : List ℕ = pool_pushed c.args.room.hands.items c.args.room.inlets.items in
    let taken : List ℕ = pool_taken c.args.room.hands.items in
    let counts = c.in-Ok.ensures.counts in
    record {
      count = counts.0;
      taken = taken;
      count_taken = counts.1;
      each = subst (λ left. IsPermutation pushed (taken ++ left)) (map-id c.in-Ok.tally.left.items) c.in-Ok.ensures.account;
    }
