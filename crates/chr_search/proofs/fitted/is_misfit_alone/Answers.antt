use Rattle.std.proofs.Common.{◌≡◌, ◌↔◌, IsTrue, false, not, replicate, length, None, Some, [], ◌∷◌, sym, ap, subst, ◌∙◌, arith}
use Rattle.std.proofs.lemmas.List.{length-replicate}
use Rattle.chr_rule.specs.Parts.{shape}
use Rattle.chr_rule.specs.Rules.{head_at}
use Rattle.chr_guard.proofs.Scoped.{IsPlaced}
use Rattle.chr_guard.proofs.Matched.{head_placed}
use Rattle.chr_search.specs.declared.judged.Verdict.TheVariants.{Misfit}
use Rattle.chr_search.specs.Judged.{IsVerdict}
use Rattle.chr_search.specs.Verdicts.{Trial, IsFormed, IsWholeUnder, at_heads}
use Rattle.chr_search.proofs.Fitting.{fit_alone, no_fit_alone, told_alone}
use Rattle.chr_search.proofs.fitted.is_misfit_alone.Goals.{In-Some}
use Rattle.chr_search.proofs.fitted.is_misfit_alone.Goals as goal

-- the binding is free at first
free : (g : _) (c : In-Some g) → c.reset.new.self ≡ replicate c.args.rule.now.variables None
free g c = c.reset.ensures ∙ ap (λ n. replicate n None) c.variables.ensures.count

head : (g : _) (c : In-Some g) → head_at c.args.rule.now c.args.head ≡ Some (shape c.in-Some.head.now)
head g c = ap (head_at c.args.rule.now) (sym c.from.ensures) ∙ sym c.in-Some.ensures.head

pub fit_head-requires : goal.fit_head-requires
fit_head-requires g c =
    let at = (goal.at.fit_head-requires g c).In-Some in
    let len : length c.reset.new.self ≡ c.args.rule.now.variables = ap length (free g at) ∙ length-replicate c.args.rule.now.variables None in
    (omega arith, subst (λ n. IsPlaced n (shape c.in-Some.head.now)) (sym len) (head_placed c.args.rule.now c.head.ensures.valid c.args.head (shape c.in-Some.head.now) (head g at)))

pub becomes_instance-requires : goal.becomes_instance-requires
becomes_instance-requires g c =
    let at = (goal.at.becomes_instance-requires g c).In-Some in
    (omega arith, (c.guard.ensures.tests, (c.args.atom.now ∷ [], fit_alone c.args.rule.now c.args.head c.args.atom.now c.requires (shape c.in-Some.head.now) (head g at) c.reset.new.self c.fit_head.new.binding (free g at) c.if-not-fit_head.ensures.narrows)))

pub returns-then-not-fit_head-clause-misfit : goal.returns-then-not-fit_head-clause-misfit
returns-then-not-fit_head-clause-misfit g c = λ t same places formed.
    let at = (goal.at.returns-then-not-fit_head-clause-misfit g c).In-Some in
    let m = no_fit_alone c.args.rule.now c.args.head c.args.atom.now c.requires (shape c.in-Some.head.now) (head g at) t same places c.reset.new.self (free g at) c.if-not-fit_head.ensures.narrows in
    (λ e. m, λ n. ap not c.if-not-fit_head.true)

pub returns-else-not-fit_head : goal.returns-else-not-fit_head
returns-else-not-fit_head g c =
    let at = (goal.at.returns-else-not-fit_head g c).In-Some in
    let s = shape c.in-Some.head.now in
    let fit = fit_alone c.args.rule.now c.args.head c.args.atom.now c.requires s (head g at) c.reset.new.self c.fit_head.new.binding (free g at) c.if-not-fit_head.ensures.narrows in
    let told : (t : Trial) → t.rule ≡ c.args.rule.now → at_heads t ≡ (c.args.head, c.args.atom.now) ∷ [] → IsFormed t → (IsTrue (not c.becomes_instance.result) ↔ IsVerdict t Misfit) × (not c.becomes_instance.result ≡ false → IsWholeUnder t c.becomes_instance.new.binding) = λ t same places formed. told_alone c.args.rule.now c.args.head c.args.atom.now c.requires s (head g at) t same places formed c.becomes_instance.result c.becomes_instance.new.binding (c.becomes_instance.ensures.instance (c.args.atom.now ∷ []) fit) in
    record {
      misfit = λ t same places formed. (told t same places formed).0;
      whole = λ e t same places formed. (told t same places formed).1 e;
    }
