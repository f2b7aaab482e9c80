use Rattle.std.proofs.Common.{ℕ, List, ◌∷◌, ap, ◌∙◌}
use Rattle.chr_search.specs.Placed.{placed_as}
use Rattle.chr_search.proofs.Placing.{of_trial}
use Rattle.chr_search.proofs.position.Position.is_of.Goals as goal

pub returns : goal.returns
returns g c =
    of_trial placed_as c.args.self.now c.self.inside.rule c.self.inside.head c.as_slice.result.now c.placed.result.now c.args.trial.now c.are_labels_of.result
    (ap (λ (ls : List ℕ). c.self.inside.rule ∷ c.self.inside.head ∷ ls) c.as_slice.ensures.value ∙ c.self.view_is)
    (c.if-self-number.false ∙ c.number.ensures) (c.if-self-head.false ∙ c.head.ensures) c.placed.ensures.placed c.are_labels_of.ensures
