use Rattle.std.proofs.Common.{ℕ, List, length, refl, sym, ap, ap₂, ◌∙◌}
use Rattle.std.proofs.lemmas.List.{length-map}
use Rattle.chr_rule.specs.Parts.{shape}
use Rattle.chr_rule.specs.Rules.{Simpagation}
use Rattle.chr_search.specs.Verdicts.{label_at, labels_from, kept_labels, removed_labels}
use Rattle.chr_search.specs.Wholes.{WholeTrial}
use Rattle.chr_search.proofs.Making.{AreParts, two_parts, each_count}
use Rattle.chr_search.proofs.whole.Whole.of.Given.{Over}
use Rattle.chr_search.proofs.whole.Whole.of.Goals as goal

-- the labels are the kept ones and the removed ones
parts : (g : Over) (c : goal.After-number g) → AreParts (length c.kept.result.now) c.labels_at_heads.result.items (kept_labels c.args.trial.now) (removed_labels c.args.trial.now)
parts g c =
    let t = c.args.trial.now in
    two_parts (length c.kept.result.now) c.labels_at_heads.result.items (kept_labels t) (removed_labels t) c.labels_at_heads.ensures
    (sym (length-map c.kept.result.now shape) ∙ ap length c.kept.ensures.heads ∙ ap (λ (r : Simpagation ℕ). length r.kept) c.rule.ensures.rule
    ∙ sym (each_count (label_at t.placed) (labels_from t.placed) (λ h. refl) (λ h n. refl) 1 (length t.rule.kept)))

pub invariant_of-result : goal.invariant_of-result
invariant_of-result g c = (parts g c).within

pub returns : goal.returns
returns g c =
    let whole : List ℕ → List ℕ → ℕ → WholeTrial = λ ks rs n. record { kept = ks; removed = rs; past = c.args.past; number = n } in
    ap₂ (λ ks rs. whole ks rs c.number.result) (parts g c).first (parts g c).rest ∙ ap (whole (kept_labels c.args.trial.now) (removed_labels c.args.trial.now)) c.number.ensures
