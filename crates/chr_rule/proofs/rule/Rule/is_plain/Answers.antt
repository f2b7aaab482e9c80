use Rattle.std.proofs.Common.{ℕ, IfSome, sym, subst, ◌∙◌}
use Rattle.chr_rule.specs.Rules.{Simpagation}
use Rattle.chr_rule.specs.Words.{IsWritten}
use Rattle.chr_rule.proofs.Written.{plain_body}
use Rattle.chr_rule.proofs.rule.Rule.is_plain.Goals as goal

pub returns : goal.returns
returns g c = λ told.
    plain_body (λ written. written.items) c.args.self.now c.self.inside.words (subst (λ (rule : Simpagation ℕ). IfSome c.self.inside.words (λ written. IsWritten rule written.items)) c.self.view_is c.self.invariant.1) (sym c.is_some.ensures ∙ told)
