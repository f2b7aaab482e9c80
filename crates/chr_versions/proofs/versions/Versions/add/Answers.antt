use Rattle.std.proofs.Common.{◌≡◌, ◌++◌, ◌∷◌, [], Some, sym, ◌∙◌, ap}
use Rattle.chr_versions.specs.Kept.{last_of}
use Rattle.chr_versions.proofs.Adding.{adds_moves, was_added, last_added}
use Rattle.chr_versions.proofs.versions.Versions.add.Goals as goal

pub compare_exchange-found-requires : goal.compare_exchange-found-requires
compare_exchange-found-requires g c =
    let h = c.self.invariant.2 in
    let same = c.again-seen.ensures in
    let offer = c.plain-offer.ensures in
    let pen = c.no_pen-pen.ensures in (
      ap (λ w. w.tracked) h,
      ap (λ s. s.book) same ∙ (c.self.invariant.1 ∙ sym (ap (λ w. w.book) h)),
      pen.0 ∙ (ap (λ s. s.book) same ∙ (c.self.invariant.1 ∙ sym (ap (λ w. w.book) h))),
      offer.0,
      rw (ap (λ w. w.key) h, pen.1, offer.1, offer.3, same) (adds_moves c.self.inside.seen.log c.args.value.now c.self.inside.count (sym c.self.invariant.0)),
    )

pub returns : goal.returns
returns g c =
    let step = c.compare_exchange-found in
    let all : step.new.seen.log ≡ c.again-seen.result.log ++ c.plain-offer.result.ask ∷ [] = was_added step.result c.self.inside.count _ _ c.if-found-count.false step.ensures.7 in
    ap last_of all ∙ last_added c.again-seen.result.log c.plain-offer.result.ask ∙ ap (λ x. Some x) c.plain-offer.ensures.1
