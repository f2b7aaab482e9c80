use Rattle.std.proofs.Common.{ℕ, IfSome, sym, subst, ◌∙◌}
use Rattle.chr_rule.specs.Rules.{Simpagation}
use Rattle.chr_rule.specs.Words.{IsWritten}
use Rattle.chr_rule.proofs.Written.{written_same}
use Rattle.chr_rule.proofs.rule.Rule.same.Goals as goal

pub returns-in-Some-Some : goal.returns-in-Some-Some
returns-in-Some-Some g c =
    let here = subst (λ o. IfSome o (λ written. IsWritten c.args.self.now written.items)) c.in-Some-Some.is-0 (subst (λ (rule : Simpagation ℕ). IfSome c.self.inside.words (λ written. IsWritten rule written.items)) c.self.view_is c.self.invariant.1) in
    let there = subst (λ o. IfSome o (λ written. IsWritten c.args.other.now written.items)) c.in-Some-Some.is-1 (subst (λ (rule : Simpagation ℕ). IfSome c.other.inside.words (λ written. IsWritten rule written.items)) c.other.view_is c.other.invariant.1) in
    written_same c.args.self.now c.args.other.now c.in-Some-Some.words.items c.in-Some-Some.others.items c.same_words.result here there
    (λ told. sym c.deref.ensures.value ∙ c.same_words.ensures.0 told ∙ c.deref-in-Some-Some.ensures.value, λ e. c.same_words.ensures.1 (c.deref.ensures.value ∙ e ∙ sym c.deref-in-Some-Some.ensures.value))
