use Rattle.std.proofs.Common.{◌≡◌, true, false, replicate, None, refl, ap, ◌∙◌}
use Rattle.chr_rule.specs.Rules.{Simpagation}
use Rattle.chr_search.specs.Placed.{placed_as}
use Rattle.chr_search.proofs.Fitting.{told_distinct, told_fit, fit_of, no_fit_of, repeats_one, repeats_more, none_more}
use Rattle.chr_search.proofs.fitted.Fitted.of.Goals.{After-fit_placed}
use Rattle.chr_search.proofs.fitted.Fitted.of.Goals as goal

-- the binding is free at first
free : (g : _) (c : After-fit_placed g) → c.reset.new.self ≡ replicate c.args.part.now.rule.variables None
free g c = c.reset.ensures ∙ ap (λ n. replicate n None) (c.variables.ensures.count ∙ ap (λ (r : Simpagation _). r.variables) c.rule-rule.ensures.rule)

pub returns-then-not-are_distinct : goal.returns-then-not-are_distinct
returns-then-not-are_distinct g c = λ p f.
    let t = c.args.part.now in
    let told = told_distinct placed_as t c.placed-placed.result.now c.placed-placed.ensures.placed c.are_distinct.result c.are_distinct.ensures in
    repeats_more t p (repeats_one t c.are_distinct.result told c.if-not-are_distinct.true)

pub returns-then-not-fit_placed : goal.returns-then-not-fit_placed
returns-then-not-fit_placed g c = λ p f.
    let t = c.args.part.now in
    let old = c.reset.new.self in
    none_more t p (no_fit_of t old (free g (goal.at.returns-then-not-fit_placed g c).After-fit_placed)
    (told_fit placed_as t c.placed-placed.result.now c.placed-placed.ensures.placed c.rule-rule.result.now c.rule-rule.ensures.rule false old c.fit_placed.new.binding c.if-not-fit_placed.ensures))

pub returns : goal.returns
returns g c =
    let t = c.args.part.now in
    let old = c.reset.new.self in
    let new = c.fit_placed.new.binding in
    record {
      part = refl;
      last = c.requires;
      distinct = (told_distinct placed_as t c.placed-placed.result.now c.placed-placed.ensures.placed c.are_distinct.result c.are_distinct.ensures).0 c.if-not-are_distinct.false;
      fit = fit_of t old new (free g (goal.at.returns g c).After-fit_placed)
          (told_fit placed_as t c.placed-placed.result.now c.placed-placed.ensures.placed c.rule-rule.result.now c.rule-rule.ensures.rule true old new c.if-not-fit_placed.ensures);
      known = c.known.ensures;
    }
