use Rattle.std.proofs.Common.{ap, ◌∙◌}
use Rattle.std.proofs.Math.Seq.{map-set_same}
use Rattle.chr_pool.specs.Hands.{hand_id}
use Rattle.chr_pool.specs.Inlets.{inlet_id}
use Rattle.tests_pool.proofs.tests.rows.answers.Goals as goal

pub returns-then-hand-len-clause-hands : goal.returns-then-hand-len-clause-hands
returns-then-hand-len-clause-hands g c =
    map-set_same hand_id c.args.hands.now.items c.in-Push.hand c.push.new.hand _ (c.push.ensures ∙ ap hand_id c.index_mut.ensures.value)

pub returns-then-inlet-len-clause-inlets : goal.returns-then-inlet-len-clause-inlets
returns-then-inlet-len-clause-inlets g c =
    map-set_same inlet_id c.args.inlets.now.items c.in-Feed.inlet c.feed.new.inlet _ (c.feed.ensures ∙ ap inlet_id c.index_mut-then-inlet-len.ensures.value)

pub returns-then-hand-len-2-clause-hands : goal.returns-then-hand-len-2-clause-hands
returns-then-hand-len-2-clause-hands g c =
    map-set_same hand_id c.args.hands.now.items c.in-Take.hand c.take.new.self _ (c.take.ensures.same ∙ ap hand_id c.index_mut-then-hand-len-2.ensures.value)
