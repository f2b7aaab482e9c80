use Rattle.std.proofs.Common.{◌∙◌, map, sym, subst, arith}
use Rattle.std.proofs.lemmas.List.{length-map}
use Rattle.chr_rule.specs.Parts.{shape}
use Rattle.chr_guard.specs.Matching.{IsAtHead}
use Rattle.chr_guard.proofs.Scoped.{IsPlaced}
use Rattle.chr_guard.proofs.Steps.{map_read, narrows_whole}
use Rattle.chr_guard.proofs.Matched.{head_placed, stands_more, stands_stop, stands_nowhere}
use Rattle.chr_guard.proofs.matching.fit_placed.Goals as goal

pub returns-in_default : goal.returns-in_default
returns-in_default g c v extends all =
    stands_nowhere c.args.rule.now (map (λ p. (p.0, p.1.now)) c.args.placed.now) c.loop-number.number-index (c.loop-number-item.result.0, c.loop-number-item.result.1.now) (rw length-map c.loop-number-test.true) (map_read (λ p. (p.0, p.1.now)) c.args.placed.now c.loop-number.number-index c.loop-number-item.result c.loop-number-test.true c.loop-number-item.is) (sym c.in_default.ensures.head) v all

pub fit_head-requires : goal.fit_head-requires
fit_head-requires g c =
    (omega arith, subst (λ n. IsPlaced n (shape c.in-Some.head.now)) (sym (c.loop-number.invariant.places ∙ c.requires)) (head_placed c.args.rule.now c.head.ensures.valid c.loop-number-item.result.0 (shape c.in-Some.head.now) (sym c.in-Some.ensures.head)))

pub returns-then-not-fit_head : goal.returns-then-not-fit_head
returns-then-not-fit_head g c =
    stands_stop c.args.rule.now (map (λ p. (p.0, p.1.now)) c.args.placed.now) c.loop-number.number-index (c.loop-number-item.result.0, c.loop-number-item.result.1.now) (shape c.in-Some.head.now) c.args.binding.now c.loop-number.binding (rw length-map c.loop-number-test.true) (map_read (λ p. (p.0, p.1.now)) c.args.placed.now c.loop-number.number-index c.loop-number-item.result c.loop-number-test.true c.loop-number-item.is) (sym c.in-Some.ensures.head) c.loop-number.invariant c.if-not-fit_head.ensures.narrows

pub loop-number-preserved : goal.loop-number-preserved
loop-number-preserved g c =
    stands_more c.args.rule.now (map (λ p. (p.0, p.1.now)) c.args.placed.now) c.loop-number.number-index (c.loop-number-item.result.0, c.loop-number-item.result.1.now) (shape c.in-Some.head.now) c.args.binding.now c.loop-number.binding c.fit_head.new.binding (rw length-map c.loop-number-test.true) (map_read (λ p. (p.0, p.1.now)) c.args.placed.now c.loop-number.number-index c.loop-number-item.result c.loop-number-test.true c.loop-number-item.is) (sym c.in-Some.ensures.head) c.loop-number.invariant c.if-not-fit_head.ensures.narrows

pub returns : goal.returns
returns g c =
    narrows_whole (IsAtHead c.args.rule.now) (map (λ p. (p.0, p.1.now)) c.args.placed.now) c.loop-number.number-index c.args.binding.now c.loop-number.binding (rw length-map c.loop-number-test.false) c.loop-number.invariant
