use Rattle.std.proofs.Common.{ℕ, ◌||◌, false, slice_index_or, sym, ap, ap₂, ◌∙◌}
use Rattle.chr_rule.specs.Parts.{argument}
use Rattle.chr_plan.specs.Orders.{is_new}
use Rattle.chr_plan.proofs.Fresh.{new_next, none_new, new_end}
use Rattle.chr_plan.proofs.order.are_new.Goals as goal
use Rattle.chr_plan.proofs.order.are_new.Goals.{else-not-is_key-via-then-not-is_key+else-not-is_new, else-not-is_key-via-else-not-is_key}

pub returns-then-not-is_new : goal.returns-then-not-is_new
returns-then-not-is_new g c =
    none_new (λ x. slice_index_or c.loop-at.bound x false) c.args.key c.args.terms.now c.loop-at.at c.index-terms-at.result c.loop-at-test.true c.index-terms-at.is
    (sym c.is_key.ensures ∙ c.if-not-is_key.true) (sym c.is_new.ensures ∙ c.if-not-is_new.true) ∙ c.loop-at.invariant

pub loop-at-preserved : goal.loop-at-preserved
loop-at-preserved g c =
    let old = λ (x : ℕ). slice_index_or c.loop-at.bound x false in
    new_next old (λ x. slice_index_or c.bind_term.new.bound x false) c.args.key c.args.terms.now c.loop-at.at c.index-terms-at.result c.loop-at-test.true c.index-terms-at.is c.bind_term.ensures
    (elim c.else-not-is_key.branch [
      | else-not-is_key-via-then-not-is_key+else-not-is_new w ↦ ap₂ (λ a b. a || b) (sym c.is_key.ensures ∙ w.if-not-is_key.true) (sym w.is_new.ensures ∙ w.if-not-is_new.false)
      | else-not-is_key-via-else-not-is_key w ↦ ap (λ a. a || is_new old (argument c.index-terms-at.result)) (sym c.is_key.ensures ∙ w.if-not-is_key.false)
    ]) ∙ c.loop-at.invariant

pub returns : goal.returns
returns g c = new_end (λ x. slice_index_or c.loop-at.bound x false) c.args.key c.args.terms.now c.loop-at.at c.loop-at-test.false ∙ c.loop-at.invariant
