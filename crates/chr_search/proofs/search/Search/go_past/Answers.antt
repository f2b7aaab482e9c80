use Rattle.std.proofs.Common.{◌≡◌, ℕ, ◌+◌, List, [], ◌∷◌, ◌++◌, sym, ap, ap₂, ◌∙◌}
use Rattle.chr_search.specs.Reach.{SearchState}
use Rattle.chr_search.specs.Verdicts.{position}
use Rattle.chr_search.proofs.Positions.{past_last}
use Rattle.chr_search.proofs.search.Search.go_past.Goals as goal

pub returns : goal.returns
returns g c =
    let at : c.position.inside.rule ∷ c.position.inside.head ∷ c.position.inside.labels.items ≡ position c.args.part.now = c.position.view_is ∙ c.become_of.ensures.position in
    let state : List ℕ → ℕ → SearchState = λ place label. record { label = label; place = place } in
    ap₂ state
    (ap (λ (ls : List ℕ). c.position.inside.rule ∷ c.position.inside.head ∷ ls) c.push.ensures.items ∙ ap (λ (p : List ℕ). p ++ (c.args.last + 1) ∷ []) at ∙ sym (past_last (position c.args.part.now) c.args.last))
    (ap (λ (z : SearchState). z.label) c.self.view_is)
