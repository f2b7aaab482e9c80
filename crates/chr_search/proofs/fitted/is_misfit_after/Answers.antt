use Rattle.std.proofs.Common.{◌≡◌, not, Some, None, refl, sym, ap, ◌∙◌, arith}
use Rattle.chr_rule.specs.Parts.{shape}
use Rattle.chr_rule.specs.Rules.{Simpagation, head_at}
use Rattle.chr_guard.proofs.Bindings.{keeps_both}
use Rattle.chr_model.specs.Stores.{among}
use Rattle.chr_search.specs.Fronts.{lengthened}
use Rattle.chr_search.specs.Placed.{placed_as}
use Rattle.chr_search.specs.Verdicts.{labels}
use Rattle.chr_search.proofs.Wholes.{in_head_order}
use Rattle.chr_search.proofs.Fitting.{told_label, heads_by, told_by, full_more, distinct_more, repeats_last, nowhere_last, head_placed_last, no_fit_last, fit_last}
use Rattle.chr_search.proofs.fitted.is_misfit_after.Goals.{After-has_label, In-Some}
use Rattle.chr_search.proofs.fitted.is_misfit_after.Goals as goal

-- whether the last label stands in the part
there : (g : _) (c : After-has_label g) → c.has_label.result ≡ among (labels c.args.part.now) c.args.last.now.label
there g c = told_label placed_as c.args.part.now c.placed.result.now c.placed.ensures.placed c.has_label.result c.args.last.now.label c.has_label.ensures

-- the head at which it stands
head : (g : _) (c : In-Some g) → head_at c.args.part.now.rule c.args.last.now.head ≡ Some (shape c.in-Some.head.now)
head g c =
    ap (λ (r : Simpagation _). head_at r c.args.last.now.head) (sym c.rule-rule.ensures.rule)
    ∙ ap (head_at c.rule-rule.result.now) (sym c.from.ensures)
    ∙ sym c.in-Some.ensures.head

pub returns-then-has_label-clause-misfit : goal.returns-then-has_label-clause-misfit
returns-then-has_label-clause-misfit g c =
    let m = repeats_last c.args.part.now (placed_as c.args.last.now) (sym (there g (goal.at.returns-then-has_label-clause-misfit g c).After-has_label) ∙ c.if-has_label.true) in
    (λ e. m, λ n. refl)

pub returns-in_default-clause-misfit : goal.returns-in_default-clause-misfit
returns-in_default-clause-misfit g c =
    let none : head_at c.args.part.now.rule c.args.last.now.head ≡ None =
    ap (λ (r : Simpagation _). head_at r c.args.last.now.head) (sym c.rule-rule.ensures.rule)
    ∙ ap (head_at c.rule-rule.result.now) (sym c.from.ensures)
    ∙ sym c.in_default.ensures.head in
    let m = nowhere_last c.args.part.now (placed_as c.args.last.now) none in
    (λ e. m, λ n. refl)

pub fit_head-requires : goal.fit_head-requires
fit_head-requires g c =
    (omega arith, head_placed_last c.args.part.now (placed_as c.args.last.now) (shape c.in-Some.head.now) (head g (goal.at.fit_head-requires g c).In-Some) c.args.binding.now c.requires.fit c.requires.formed)

pub becomes_instance-requires : goal.becomes_instance-requires
becomes_instance-requires g c =
    let t = c.args.part.now in
    let p = placed_as c.args.last.now in
    let fit = fit_last t p (shape c.in-Some.head.now) (head g (goal.at.becomes_instance-requires g c).In-Some) c.args.binding.now c.requires.fit c.fit_head.new.binding c.if-not-fit_head.ensures.narrows in
    (omega arith, (c.guard.ensures.tests, (in_head_order (lengthened t p), heads_by (lengthened t p) c.requires.formed (full_more t p c.requires.full) c.rule-rule.result.now c.rule-rule.ensures.rule c.fit_head.new.binding fit)))

pub returns-then-not-fit_head-clause-misfit : goal.returns-then-not-fit_head-clause-misfit
returns-then-not-fit_head-clause-misfit g c =
    let m = no_fit_last c.args.part.now (placed_as c.args.last.now) (shape c.in-Some.head.now) (head g (goal.at.returns-then-not-fit_head-clause-misfit g c).In-Some) c.args.binding.now c.requires.fit c.if-not-fit_head.ensures.narrows in
    (λ e. m, λ n. ap not c.if-not-fit_head.true)

pub returns-else-not-fit_head : goal.returns-else-not-fit_head
returns-else-not-fit_head g c =
    let at = goal.at.returns-else-not-fit_head g c in
    let t = c.args.part.now in
    let p = placed_as c.args.last.now in
    let rule = c.rule-rule.result.now in
    let full = full_more t p c.requires.full in
    let fit = fit_last t p (shape c.in-Some.head.now) (head g at.In-Some) c.args.binding.now c.requires.fit c.fit_head.new.binding c.if-not-fit_head.ensures.narrows in
    let told = told_by (lengthened t p) c.requires.formed full rule c.rule-rule.ensures.rule
    (distinct_more t p c.requires.distinct (sym (there g at.After-has_label) ∙ c.if-has_label.false))
    c.becomes_instance.result c.becomes_instance.new.binding
    (c.becomes_instance.ensures.instance (in_head_order (lengthened t p)) (heads_by (lengthened t p) c.requires.formed full rule c.rule-rule.ensures.rule c.fit_head.new.binding fit)) in
    record {
      misfit = told.0;
      whole = told.1;
      keeps = keeps_both c.args.binding.now c.fit_head.new.binding c.becomes_instance.new.binding c.fit_head.ensures.keeps c.becomes_instance.ensures.keeps;
    }
