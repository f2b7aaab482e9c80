use Rattle.std.proofs.Common.{arith}
use Rattle.chr_value.proofs.Places.{all-at}
use Rattle.chr_rule.specs.Parts.{comparison}
use Rattle.chr_rule.proofs.Places.{all_more, all_told, not_all}
use Rattle.chr_guard.specs.Values.{Holds}
use Rattle.chr_guard.specs.Bindings.{bound_at, SidesBound}
use Rattle.chr_guard.proofs.values.guard_holds.Goals as goal

pub bound_holds-requires : goal.bound_holds-requires
bound_holds-requires g c =
    (omega arith, all-at (comparison {Z = g.row.A.Denot}) (SidesBound c.args.binding.now) c.args.guard.now c.loop-test.test-index c.test-item.result c.loop-test-test.true c.test-item.is c.requires)

pub loop-test-preserved : goal.loop-test-preserved
loop-test-preserved g c =
    all_more (comparison {Z = g.row.A.Denot}) (Holds (bound_at c.args.binding.now)) c.args.guard.now c.loop-test.test-index _ c.loop-test-test.true c.test-item.is c.loop-test.invariant (c.bound_holds.ensures.0 c.if-not-bound_holds.false)

pub returns-then-not-bound_holds : goal.returns-then-not-bound_holds
returns-then-not-bound_holds g c =
    not_all (comparison {Z = g.row.A.Denot}) (Holds (bound_at c.args.binding.now)) c.args.guard.now c.loop-test.test-index _ _ c.loop-test-test.true c.test-item.is c.bound_holds.ensures c.if-not-bound_holds.true

pub returns : goal.returns
returns g c = all_told (comparison {Z = g.row.A.Denot}) (Holds (bound_at c.args.binding.now)) c.args.guard.now c.loop-test.test-index c.loop-test-test.false c.loop-test.invariant
