use Rattle.std.proofs.Common.{ℕ, ◌+◌, false, ap, sym, ◌∙◌, slice_index_or, position}
use Rattle.std.specs.Option.{option_map}
use Rattle.chr_rule.specs.Rules.{head_at}
use Rattle.chr_rule.specs.Parts.{argument, shape}
use Rattle.chr_rule.specs.declared.term.Term.{Term}
use Rattle.chr_plan.specs.Orders.{is_known}
use Rattle.chr_plan.proofs.Lists.{key_found}
use Rattle.chr_plan.proofs.order.key.Goals as goal

pub returns-in_err-index : goal.returns-in_err-index
returns-in_err-index g c =
    let f = λ (x : ℕ). slice_index_or c.args.bound.now x false in
    let found = key_found f c.in_ok-pattern.pattern.now (head_at c.args.rule.now c.args.number) c.first_known.result
    (ap (option_map (λ h. shape h.now)) (sym c.in_ok-pattern.was) ∙ c.head.ensures.head ∙ ap (head_at c.args.rule.now) c.from.ensures)
    (c.first_known.ensures ∙ ap (position (λ (t : Term _). is_known f (argument t))) c.deref.ensures.value) in
    c.from_residual-in_err-index.ensures ∙ ap (option_map (λ i. i + 1)) (sym c.in_err-index.was) ∙ found

pub returns : goal.returns
returns g c =
    let f = λ (x : ℕ). slice_index_or c.args.bound.now x false in
    let found = key_found f c.in_ok-pattern.pattern.now (head_at c.args.rule.now c.args.number) c.first_known.result
    (ap (option_map (λ h. shape h.now)) (sym c.in_ok-pattern.was) ∙ c.head.ensures.head ∙ ap (head_at c.args.rule.now) c.from.ensures)
    (c.first_known.ensures ∙ ap (position (λ (t : Term _). is_known f (argument t))) c.deref.ensures.value) in
    ap (option_map (λ i. i + 1)) (sym c.in_ok-index.was) ∙ found
