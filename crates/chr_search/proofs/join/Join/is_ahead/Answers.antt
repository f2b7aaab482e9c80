use Rattle.std.proofs.Common.{◌≡◌, ◌∷◌, [], sym, subst, ◌∙◌}
use Rattle.chr_search.specs.Positions.{at_or_after}
use Rattle.chr_search.proofs.Below.{at_itself}
use Rattle.chr_search.proofs.join.Join.is_ahead.Goals as goal

-- a place that begins with the active label
pub returns-then-first-active-2 : goal.returns-then-first-active-2
returns-then-first-active-2 g c =
    let active = c.args.self.now.view.active in
    subst (λ p. c.is_empty.result ≡ at_or_after p (active ∷ [])) (sym c.in-Some.ensures.cases.0)
    (c.is_empty.ensures ∙ sym (at_itself c.in-Some.first.now active c.in-Some.below.now (c.if-first-active-2.true ∙ c.active-active.ensures.value)))
