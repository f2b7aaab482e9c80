use Rattle.std.proofs.Common.{◌≡◌, ◌∷◌, ◌∙◌, sym, ap, map, length, arith}
use Rattle.std.specs.Vec.Iter.{into_iter_items}
use Rattle.chr_rule.specs.Parts.{argument}
use Rattle.chr_text.specs.Terms.{values}
use Rattle.chr_text.proofs.Numbered.{value_more, all_values}
use Rattle.chr_text.proofs.trees.values.Goals as goal

pub loop-term-preserved : goal.loop-term-preserved
loop-term-preserved g c =
    let at = c.loop-term in
    let steps : into_iter_items at.term-iterator ≡ c.in-Some.term ∷ into_iter_items c.next.new.self = c.in-Some.ensures.steps.0 in (
      tt,
      tt,
      (let was = at.invariant.2 in let gone = c.in-Some.ensures.steps.1 in let short = ap length steps in omega arith),
      value_more at.made.items c.push_value.new.made.items _ _ _ _ steps c.in_ok-push_value.ensures at.invariant.3,
    )

pub returns : goal.returns
returns g c =
    let at = c.loop-term in
    all_values at.made.items (into_iter_items at.term-iterator) _ (sym at.invariant.2 ∙ c.in-None.ensures.steps.0) at.invariant.3
    ∙ ap (λ l. values (map argument l)) c.into_iter-term-iterator.ensures.into_iter_gives.0
