use Rattle.std.proofs.Common.{◌≡◌, ◌↔◌, ◌∷◌, IsTrue, refl, sym, ◌∙◌, true≢false}
use Rattle.chr_search.specs.Placed.{placed_as}
use Rattle.chr_search.specs.Verdicts.{position}
use Rattle.chr_search.proofs.Placing.{of_trial}
use Rattle.chr_search.proofs.Behind.{one_more, one_less}
use Rattle.chr_search.proofs.position.Position.label_after.Goals.{After-are_labels_of}
use Rattle.chr_search.proofs.position.Position.label_after.Goals as goal

-- whether the labels before the last are the trial's
told : (g : _) (c : After-are_labels_of g) → IsTrue c.are_labels_of.result ↔ (c.self.inside.rule ∷ c.self.inside.head ∷ c.in_ok-last.before.now ≡ position c.args.part.now)
told g c =
    of_trial placed_as (c.self.inside.rule ∷ c.self.inside.head ∷ c.in_ok-last.before.now) c.self.inside.rule c.self.inside.head c.in_ok-last.before.now c.placed.result.now c.args.part.now c.are_labels_of.result
    refl (c.if-self-number.false ∙ c.number.ensures) (c.if-self-head.false ∙ c.head.ensures) c.placed.ensures.placed c.are_labels_of.ensures

pub returns-then-not-are_labels_of : goal.returns-then-not-are_labels_of
returns-then-not-are_labels_of g c = λ l e.
    let at = goal.at.returns-then-not-are_labels_of g c in
    true≢false (sym ((told g at.After-are_labels_of).1 (one_less c.args.self.now c.self.inside.rule c.self.inside.head c.self.inside.labels.items c.in_ok-last.before.now c.in_ok-last.last.now (position c.args.part.now) l c.self.view_is (sym c.as_slice.ensures.value ∙ c.in_ok-last.ensures.cases.0) e)) ∙ c.if-not-are_labels_of.true)

pub returns : goal.returns
returns g c =
    let at = goal.at.returns g c in
    one_more c.args.self.now c.self.inside.rule c.self.inside.head c.self.inside.labels.items c.in_ok-last.before.now c.in_ok-last.last.now (position c.args.part.now) c.self.view_is (sym c.as_slice.ensures.value ∙ c.in_ok-last.ensures.cases.0) ((told g at.After-are_labels_of).0 c.if-not-are_labels_of.false)
