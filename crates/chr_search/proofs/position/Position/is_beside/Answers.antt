use Rattle.std.proofs.Common.{◌≡◌, ◌↔◌, ◌≤◌, ◌∷◌, IsTrue, false, length, sym, subst, arith, ◌∙◌, inl, inr}
use Rattle.std.proofs.lemmas.Bool.Decides.{Decides-eqb}
use Rattle.std.proofs.lemmas.Slice.Eq.{slice_eq-Decides}
use Rattle.chr_search.specs.Positions.{front}
use Rattle.chr_search.specs.Verdicts.{labels}
use Rattle.chr_search.proofs.Judging.{count_of_view}
use Rattle.chr_search.proofs.Behind.{other_front, same_front}
use Rattle.chr_search.proofs.position.Position.is_beside.Goals as goal
use Rattle.chr_search.proofs.position.Position.is_beside.Goals.{then-self-other-via-then-self-other, then-self-other-via-else-self-other+then-self-other-2}

pub returns-then-self-other-clause-beside : goal.returns-then-self-other-clause-beside
returns-then-self-other-clause-beside g c =
    let t = c.args.trial.now in
    let seen : c.other.inside.rule ∷ c.other.inside.head ∷ c.other.inside.labels.items ≡ t.number ∷ t.head ∷ labels t = c.other.view_is ∙ c.of-other.ensures.position in
    let count = count_of_view c.other.inside.rule c.other.inside.head c.other.inside.labels.items t c.of-other.result c.other.view_is c.of-other.ensures.position in
    let some : 1 ≤ length c.other.inside.labels.items = omega (arith, count, c.of-other.ensures.formed.some) in
    subst (λ p. IsTrue false ↔ (front p ≡ front (t.number ∷ t.head ∷ labels t))) c.self.view_is
    (subst (λ q. IsTrue false ↔ (front (c.self.inside.rule ∷ c.self.inside.head ∷ c.self.inside.labels.items) ≡ front q)) seen
    (other_front c.self.inside.rule c.self.inside.head c.other.inside.rule c.other.inside.head c.self.inside.labels.items c.other.inside.labels.items some (elim c.then-self-other.branch [
      | then-self-other-via-then-self-other w ↦ inl w.if-self-other.true
      | then-self-other-via-else-self-other+then-self-other-2 w ↦ inr w.if-self-other-2.true
    ])))

pub returns-clause-beside : goal.returns-clause-beside
returns-clause-beside g c =
    let t = c.args.trial.now in
    let seen : c.other.inside.rule ∷ c.other.inside.head ∷ c.other.inside.labels.items ≡ t.number ∷ t.head ∷ labels t = c.other.view_is ∙ c.of-other.ensures.position in
    subst (λ p. IsTrue c.eq.result ↔ (front p ≡ front (t.number ∷ t.head ∷ labels t))) c.self.view_is
    (subst (λ q. IsTrue c.eq.result ↔ (front (c.self.inside.rule ∷ c.self.inside.head ∷ c.self.inside.labels.items) ≡ front q)) seen
    (same_front _ _ _ _ _ _ _ _ _ _ c.eq.result (sym c.as_slice.ensures.value ∙ c.in-Some.ensures.cases.0) (sym c.as_slice-2.ensures.value ∙ c.in-Some-split_last.ensures.cases.0)
    c.if-self-other.false c.if-self-other-2.false (slice_eq-Decides Decides-eqb c.in-Some.labels.now c.in-Some-split_last.others.now c.eq.result c.eq.ensures)))
