use Rattle.std.proofs.Common.{map, sym, ap, ◌∙◌}
use Rattle.std.proofs.lemmas.Bool.{false≢true}
use Rattle.chr_rule.specs.Parts.{comparison, member}
use Rattle.chr_rule.proofs.Judged.{told_equal, same_rules}
use Rattle.chr_rule.proofs.rule.Rule.has_parts_of.Goals as goal
use Rattle.chr_rule.proofs.rule.Rule.has_parts_of.Goals.{then-self-other, else-self-other, then-are_same, else-are_same, then-are_same-2, else-are_same-2}

pub returns-then-are_same-3 : goal.returns-then-are_same-3
returns-then-are_same-3 g c =
    elim c.if-are_same-2.branch [
      | else-are_same-2 w ↦ absurd (false≢true (sym w.if-are_same-2.false ∙ sym w.value-is ∙ c.if-are_same-3.true))
      | then-are_same-2 w ↦ elim c.if-are_same.branch [
        | else-are_same v ↦ absurd (false≢true (sym v.if-are_same.false ∙ sym v.value-is ∙ w.if-are_same-2.true))
        | then-are_same v ↦ elim c.if-self-other.branch [
          | else-self-other u ↦ absurd (u.if-self-other.false (told_equal _ _ (sym u.value-is ∙ v.if-are_same.true)))
          | then-self-other u ↦
              let kept = sym u.kept.ensures.heads ∙ u.are_same.ensures.0 (sym u.value-is ∙ v.if-are_same.true) ∙ u.kept-then-self-other.ensures.heads in
              let removed = sym v.removed.ensures.heads ∙ v.are_same-then-are_same.ensures.0 (sym v.value-is ∙ w.if-are_same-2.true) ∙ v.removed-then-are_same.ensures.heads in
              let guard = ap (map comparison) (sym w.deref.ensures.value) ∙ w.are_same-then-are_same-2.ensures.0 (sym w.value-is ∙ c.if-are_same-3.true) ∙ ap (map comparison) w.deref-then-are_same-2.ensures.value in
              let before = ap (map member) c.deref-then-are_same-3.ensures.value in
              let after = ap (map member) c.deref-then-are_same-3-2.ensures.value in
              same_rules c.are_same-then-are_same-3.result c.args.self.now c.args.other.now
              (ap (λ r. r.variables) (sym c.self.view_is) ∙ u.if-self-other.true ∙ ap (λ r. r.variables) c.other.view_is) kept removed
              (ap (λ r. r.guard) (sym c.self.view_is) ∙ guard ∙ ap (λ r. r.guard) c.other.view_is) (
                λ t. ap (λ r. r.body) (sym c.self.view_is) ∙ sym before ∙ c.are_same-then-are_same-3.ensures.0 t ∙ after ∙ ap (λ r. r.body) c.other.view_is,
                λ e. c.are_same-then-are_same-3.ensures.1 (before ∙ ap (λ r. r.body) c.self.view_is ∙ e ∙ ap (λ r. r.body) (sym c.other.view_is) ∙ sym after),
              )
        ]
      ]
    ]
