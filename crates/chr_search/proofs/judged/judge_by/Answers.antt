use Rattle.std.proofs.Common.{◌≡◌, ◌<◌, ◌≤◌, true, false, length, refl, sym, ap, ◌∙◌, arith}
use Rattle.std.proofs.lemmas.List.{length-map}
use Rattle.chr_guard.specs.Matching.{AreAtHeads, HeadsAre, IsFit}
use Rattle.chr_model.specs.Stores.{Distinct}
use Rattle.chr_plan.specs.Orders.{heads_of}
use Rattle.chr_search.specs.Placed.{placed_as}
use Rattle.chr_search.specs.Verdicts.{labels, at_heads}
use Rattle.chr_search.proofs.Wholes.{in_head_order, never_distinct, never_fits}
use Rattle.chr_search.proofs.Fitting.{told_distinct, told_fit, fit_of, no_fit_of, repeats_one, heads_count, is_part_by, heads_by, whole_by, misfit_by}
use Rattle.chr_search.proofs.judged.judge_by.Goals.{then-not-are_distinct-via-then-not-are_distinct, then-not-are_distinct-via-else-not-are_distinct+then-not-fit_placed, After-heads}
use Rattle.chr_search.proofs.judged.judge_by.Goals as goal

pub returns-then-not-are_distinct-clause-verdict : goal.returns-then-not-are_distinct-clause-verdict
returns-then-not-are_distinct-clause-verdict g c =
    let t = c.args.trial.now in
    let xs = c.placed-placed.result.now in
    elim c.then-not-are_distinct.branch [
      | then-not-are_distinct-via-then-not-are_distinct w ↦
          never_distinct t (repeats_one t c.are_distinct.result (told_distinct placed_as t xs c.placed-placed.ensures.placed c.are_distinct.result c.are_distinct.ensures) w.if-not-are_distinct.true)
      | then-not-are_distinct-via-else-not-are_distinct+then-not-fit_placed w ↦
          never_fits t (no_fit_of t c.args.binding.now c.requires
          (told_fit placed_as t xs c.placed-placed.ensures.placed c.rule-rule.result.now c.rule-rule.ensures.rule false c.args.binding.now w.fit_placed.new.binding w.if-not-fit_placed.ensures))
    ]

-- once the heads fit
distinct : (g : _) (c : After-heads g) → Distinct (labels c.args.trial.now)
distinct g c =
    (told_distinct placed_as c.args.trial.now c.placed-placed.result.now c.placed-placed.ensures.placed c.are_distinct.result c.are_distinct.ensures).0 c.if-not-are_distinct.false

fit : (g : _) (c : After-heads g) → IsFit c.args.trial.now.rule (AreAtHeads c.args.trial.now.rule (at_heads c.args.trial.now)) c.fit_placed.new.binding
fit g c =
    let t = c.args.trial.now in
    fit_of t c.args.binding.now c.fit_placed.new.binding c.requires
    (told_fit placed_as t c.placed-placed.result.now c.placed-placed.ensures.placed c.rule-rule.result.now c.rule-rule.ensures.rule true c.args.binding.now c.fit_placed.new.binding c.if-not-fit_placed.ensures)

count : (g : _) (c : After-heads g) → length c.args.trial.now.placed ≡ length c.placed-placed.result.now
count g c = ap length (sym c.placed-placed.ensures.placed) ∙ length-map c.placed-placed.result.now placed_as

heads : (g : _) (c : After-heads g) → c.heads.result ≡ length (heads_of c.args.trial.now.rule)
heads g c = c.heads.ensures.count ∙ heads_count c.args.trial.now c.rule-rule.result.now c.rule-rule.ensures.rule

full : (g : _) (c : After-heads g) → c.heads.result ≤ length c.placed-placed.result.now → length c.args.trial.now.placed ≡ length (heads_of c.args.trial.now.rule)
full g c many =
    let few : length c.args.trial.now.placed ≤ length (heads_of c.args.trial.now.rule) = c.rule-rule.ensures.formed.few in
    omega (arith, count g c, heads g c)

in_order : (g : _) (c : After-heads g) → c.heads.result ≤ length c.placed-placed.result.now → IsFit c.rule-rule.result.now (HeadsAre c.rule-rule.result.now (in_head_order c.args.trial.now)) c.fit_placed.new.binding
in_order g c many = heads_by c.args.trial.now c.rule-rule.ensures.formed (full g c many) c.rule-rule.result.now c.rule-rule.ensures.rule c.fit_placed.new.binding (fit g c)

pub returns-then-placed-heads-clause-verdict : goal.returns-then-placed-heads-clause-verdict
returns-then-placed-heads-clause-verdict g c =
    let at = (goal.at.returns-then-placed-heads-clause-verdict g c).After-heads in
    let less : length c.placed-placed.result.now < c.heads.result = c.if-placed-heads.true in
    is_part_by c.args.trial.now (omega (arith, count g at, heads g at)) (distinct g at) c.fit_placed.new.binding (fit g at)

pub becomes_instance-requires : goal.becomes_instance-requires
becomes_instance-requires g c =
    (omega arith, (c.guard.ensures.tests, (in_head_order c.args.trial.now, in_order g (goal.at.becomes_instance-requires g c).After-heads c.if-placed-heads.false)))

pub returns-then-becomes_instance-clause-whole : goal.returns-then-becomes_instance-clause-whole
returns-then-becomes_instance-clause-whole g c = λ is.
    let t = c.args.trial.now in
    let at = (goal.at.returns-then-becomes_instance-clause-whole g c).After-heads in
    let all = full g at c.if-placed-heads.false in
    let rule = c.rule-rule.result.now in
    whole_by t c.rule-rule.ensures.formed all rule c.rule-rule.ensures.rule (distinct g at) c.becomes_instance.new.binding
    (c.if-becomes_instance.ensures.instance (in_head_order t) (in_order g at c.if-placed-heads.false))

pub returns-then-becomes_instance-clause-verdict : goal.returns-then-becomes_instance-clause-verdict
returns-then-becomes_instance-clause-verdict g c = (returns-then-becomes_instance-clause-whole g c refl).whole

pub returns-else-becomes_instance-clause-verdict : goal.returns-else-becomes_instance-clause-verdict
returns-else-becomes_instance-clause-verdict g c =
    let t = c.args.trial.now in
    let at = (goal.at.returns-else-becomes_instance-clause-verdict g c).After-heads in
    let all = full g at c.if-placed-heads.false in
    let rule = c.rule-rule.result.now in
    misfit_by t c.rule-rule.ensures.formed all rule c.rule-rule.ensures.rule
    (c.if-becomes_instance.ensures.instance (in_head_order t) (in_order g at c.if-placed-heads.false))
