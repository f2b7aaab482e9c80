use Rattle.std.proofs.Common.{[], true, false, map, sym, ap, ◌∙◌, subst, arith}
use Rattle.std.proofs.lemmas.List.{take_all}
use Rattle.chr_search.specs.Joined.{join_of}
use Rattle.chr_search.specs.Partners.{IsReady}
use Rattle.chr_search.specs.Passing.{IsNarrowedIf}
use Rattle.chr_search.specs.Tree.{Grows}
use Rattle.chr_search.specs.Trials.{MayFollow}
use Rattle.chr_search.proofs.Asking.{room}
use Rattle.chr_search.proofs.Tree.{grows_more}
use Rattle.chr_search.proofs.Making.{map_next}
use Rattle.chr_search.proofs.Fronts.{grows_at}
use Rattle.chr_search.proofs.join.Join.narrow_by_all.Goals as goal

pub returns-then-not-narrow_by : goal.returns-then-not-narrow_by
returns-then-not-narrow_by g c = λ x h.
    let r = grows_at (λ p. p.label) (MayFollow (join_of c.args.self.now)) [] c.args.placed.now c.loop-one.one-index c.one-item.result x c.loop-one-test.true c.one-item.is h in
    subst (λ ls. IsNarrowedIf (join_of c.args.self.now) ls c.one-item.result.label false c.narrow_by.new.narrowed) (c.as_slice.ensures.value ∙ c.loop-one.invariant.labels) c.if-not-narrow_by.ensures.narrowed r.0 r.1 r.2

pub push-requires : goal.push-requires
push-requires g c =
    (omega arith, room _ c.requires.plan _ _ (subst (λ ls. MayFollow (join_of c.args.self.now) ls c.one-item.result.label) c.as_slice.ensures.value c.if-not-narrow_by.ensures.narrowed.0))

pub loop-one-preserved : goal.loop-one-preserved
loop-one-preserved g c =
    let j = join_of c.args.self.now in
    let label = c.one-item.result.label in
    let r = subst (λ ls. IsNarrowedIf j ls label true c.narrow_by.new.narrowed) c.as_slice.ensures.value c.if-not-narrow_by.ensures.narrowed in
    record {
      labels = map_next (λ p. p.label) _ _ _ _ _ c.loop-one.invariant.labels c.push.ensures.items c.loop-one-test.true c.one-item.is;
      grows = subst (Grows (MayFollow j) []) (sym c.push.ensures.items) (grows_more (MayFollow j) [] c.loop-one.labels.items label c.loop-one.invariant.grows r.0);
      ready = subst (λ ls. IsReady j ls c.narrow_by.new.narrowed) (sym c.push.ensures.items) r.1;
    }

pub returns : goal.returns
returns g c =
    let j = join_of c.args.self.now in
    let all = c.loop-one.invariant.labels ∙ ap (map (λ p. p.label)) (take_all c.loop-one.one-index c.args.placed.now c.loop-one-test.false) in
    (all, subst (Grows (MayFollow j) []) all c.loop-one.invariant.grows, subst (λ ls. IsReady j ls c.loop-one.binding) all c.loop-one.invariant.ready)
