use Rattle.std.proofs.Common.{◌≡◌, ◌∙◌, map, Some, None, sym, subst, arith}
use Rattle.std.proofs.lemmas.List.{length-map}
use Rattle.chr_rule.specs.Parts.{shape}
use Rattle.chr_rule.specs.Rules.{head_at}
use Rattle.chr_guard.specs.Matching.{IsAtHead}
use Rattle.chr_guard.proofs.Scoped.{IsPlaced}
use Rattle.chr_guard.proofs.Steps.{map_read, narrows_whole}
use Rattle.chr_guard.proofs.Matched.{head_placed, stands_more, stands_stop, stands_nowhere}
use Rattle.chr_search.proofs.judged.fit_placed.Goals as goal

pub returns-in_default : goal.returns-in_default
returns-in_default g c v extends all =
    let here = c.loop-one-test.true in
    stands_nowhere c.args.rule.now (map (λ p. (p.head, p.atom)) c.args.placed.now) c.loop-one.one-index (c.one-item.result.head, c.one-item.result.atom) (rw length-map here) (map_read (λ p. (p.head, p.atom)) _ c.loop-one.one-index _ here c.one-item.is) (subst (λ n. head_at c.args.rule.now n ≡ None) c.from.ensures (sym c.in_default.ensures.head)) v all

pub fit_head-requires : goal.fit_head-requires
fit_head-requires g c =
    (omega arith, subst (λ n. IsPlaced n (shape c.in-Some.head.now)) (sym (c.loop-one.invariant.places ∙ c.requires)) (head_placed c.args.rule.now c.head.ensures.valid c.from.result (shape c.in-Some.head.now) (sym c.in-Some.ensures.head)))

pub returns-then-not-fit_head : goal.returns-then-not-fit_head
returns-then-not-fit_head g c =
    let here = c.loop-one-test.true in
    stands_stop c.args.rule.now (map (λ p. (p.head, p.atom)) c.args.placed.now) c.loop-one.one-index (c.one-item.result.head, c.one-item.result.atom) (shape c.in-Some.head.now) c.args.binding.now c.loop-one.binding (rw length-map here) (map_read (λ p. (p.head, p.atom)) _ c.loop-one.one-index _ here c.one-item.is) (subst (λ n. head_at c.args.rule.now n ≡ Some (shape c.in-Some.head.now)) c.from.ensures (sym c.in-Some.ensures.head)) c.loop-one.invariant c.if-not-fit_head.ensures.narrows

pub loop-one-preserved : goal.loop-one-preserved
loop-one-preserved g c =
    let here = c.loop-one-test.true in
    stands_more c.args.rule.now (map (λ p. (p.head, p.atom)) c.args.placed.now) c.loop-one.one-index (c.one-item.result.head, c.one-item.result.atom) (shape c.in-Some.head.now) c.args.binding.now c.loop-one.binding c.fit_head.new.binding (rw length-map here) (map_read (λ p. (p.head, p.atom)) _ c.loop-one.one-index _ here c.one-item.is) (subst (λ n. head_at c.args.rule.now n ≡ Some (shape c.in-Some.head.now)) c.from.ensures (sym c.in-Some.ensures.head)) c.loop-one.invariant c.if-not-fit_head.ensures.narrows

pub returns : goal.returns
returns g c =
    narrows_whole (IsAtHead c.args.rule.now) (map (λ p. (p.head, p.atom)) c.args.placed.now) c.loop-one.one-index c.args.binding.now c.loop-one.binding (let past = c.loop-one-test.false in rw length-map past) c.loop-one.invariant
