use Rattle.std.proofs.lemmas.Bool.{OnTrue_at}
use Rattle.chr_grammar.specs.Views.{member}
use Rattle.chr_limits.specs.Views.{names}
use Rattle.chr_limits.proofs.Meeting.{stopped, goes_on, room_left, still_few, body_more}
use Rattle.chr_limits.proofs.scope.is_body_in_scope.Goals as goal

pub enter-requires : goal.enter-requires
enter-requires g c = room_left member (names c.loop-member.seen.items) c.args.body.now c.loop-member.member-index c.member-item.result c.loop-member-test.true c.member-item.is c.loop-member.invariant.few

pub returns-then-not-enter : goal.returns-then-not-enter
returns-then-not-enter g c =
    stopped _ _ _ c.if-not-enter.true (body_more member (names c.loop-member.seen.items) (names c.enter.new.seen.items) c.enter.result _ c.args.body.now c.loop-member.member-index c.member-item.result c.loop-member-test.true c.member-item.is c.enter.ensures.scope c.loop-member.invariant.same)

pub loop-member-preserved : goal.loop-member-preserved
loop-member-preserved g c = record {
  few = still_few member (names c.loop-member.seen.items) (names c.enter.new.seen.items) c.args.body.now c.loop-member.member-index c.member-item.result c.loop-member-test.true c.member-item.is (OnTrue_at c.if-not-enter.false c.enter.ensures.met) c.loop-member.invariant.few;
  same = goes_on _ _ _ c.if-not-enter.false (body_more member (names c.loop-member.seen.items) (names c.enter.new.seen.items) c.enter.result _ c.args.body.now c.loop-member.member-index c.member-item.result c.loop-member-test.true c.member-item.is c.enter.ensures.scope c.loop-member.invariant.same);
}
