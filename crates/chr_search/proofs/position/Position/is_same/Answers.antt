use Rattle.std.proofs.Common.{ℕ, List, ◌∷◌, ap, ◌∙◌}
use Rattle.std.proofs.lemmas.Bool.Decides.{Decides-eqb}
use Rattle.std.proofs.lemmas.Slice.Eq.{slice_eq-Decides}
use Rattle.chr_search.proofs.Behind.{same_place}
use Rattle.chr_search.proofs.position.Position.is_same.Goals as goal

pub returns : goal.returns
returns c =
    same_place c.self.inside.rule c.self.inside.head c.other.inside.rule c.other.inside.head c.as_slice.result.now c.as_slice-2.result.now c.args.self.now c.args.other.now c.eq.result
    (ap (λ (ls : List ℕ). c.self.inside.rule ∷ c.self.inside.head ∷ ls) c.as_slice.ensures.value ∙ c.self.view_is)
    (ap (λ (ls : List ℕ). c.other.inside.rule ∷ c.other.inside.head ∷ ls) c.as_slice-2.ensures.value ∙ c.other.view_is)
    c.if-self-other.false c.if-self-other-2.false (slice_eq-Decides Decides-eqb c.as_slice.result.now c.as_slice-2.result.now c.eq.result c.eq.ensures)
