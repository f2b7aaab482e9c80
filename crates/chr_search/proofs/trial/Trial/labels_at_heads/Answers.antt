use Rattle.std.proofs.Common.{ℕ, ◌+◌, ◌++◌, map, length, refl, ap, ap₂, ◌∙◌}
use Rattle.std.specs.Arc.{arc_value}
use Rattle.chr_rule.specs.Rules.{Simpagation}
use Rattle.chr_search.specs.Placed.{placed_as}
use Rattle.chr_search.specs.Verdicts.{Trial, label_at, labels_from, kept_labels, removed_labels}
use Rattle.chr_search.proofs.Making.{each_both}
use Rattle.chr_search.proofs.trial.Trial.labels_at_heads.Goals as goal

pub returns : goal.returns
returns g c =
    let ps = map placed_as c.self.inside.placed.items in
    let rule = arc_value c.self.inside.rule in
    c.labels_from.ensures ∙ ap₂ (λ xs n. labels_from (map placed_as xs) 1 n) c.deref.ensures.value (c.heads.ensures.count ∙ ap (λ (r : Simpagation ℕ). length r.kept + length r.removed) c.deref-2.ensures)
    ∙ each_both (label_at ps) (labels_from ps) (λ h. refl) (λ h n. refl) (length rule.kept) (length rule.removed)
    ∙ ap (λ (t : Trial). kept_labels t ++ removed_labels t) c.self.view_is
