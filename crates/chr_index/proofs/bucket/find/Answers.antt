use Rattle.std.proofs.Common.{◌≡◌, ℕ, suc, ◌-◌, ◌<◌, ◌≤◌, subst, sym, ◌∙◌, arith, take, drop}
use Rattle.std.specs.List.{AllByRecursion}
use Rattle.chr_index.proofs.Slots.{all_map, apart, label_at}
use Rattle.chr_index.proofs.bucket.find.Goals as goal

pub returns-then-above-eq0 : goal.returns-then-above-eq0
returns-then-above-eq0 c =
    all_map (λ s. c.args.label < s.label) (λ s. s.label ≡ c.args.label → ⊥) c.args.slots.now (λ s h e. absurd (omega arith))
    (subst (λ (z : ℕ). AllByRecursion (λ s. c.args.label < s.label) (drop z c.args.slots.now)) c.if-above-eq0.true c.place_near-above.ensures.later)

pub returns-then-from-label : goal.returns-then-from-label
returns-then-from-label c =
    let e : c.place_near-above.result ≡ suc (c.place_near-above.result - 1) = omega arith in
    apart c.args.slots.now (c.place_near-above.result - 1) c.args.label _ (omega arith) c.requires
    (subst (λ (z : ℕ). AllByRecursion (λ s. s.label ≤ c.args.label) (take z c.args.slots.now)) e c.place_near-above.ensures.front)
    (subst (λ (z : ℕ). AllByRecursion (λ s. c.args.label < s.label) (drop z c.args.slots.now)) e c.place_near-above.ensures.later)
    (λ e. c.if-from-label.true (c.from.ensures ∙ e))

pub returns : goal.returns
returns c = label_at c.args.slots.now (c.place_near-above.result - 1) c.args.label _ (omega arith) (sym c.from.ensures ∙ c.if-from-label.false)
