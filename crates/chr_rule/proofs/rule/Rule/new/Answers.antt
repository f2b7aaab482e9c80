use Rattle.std.proofs.Common.{is_some, sym, ap, ◌∙◌}
use Rattle.std.proofs.lemmas.Bool.{false≢true}
use Rattle.chr_rule.proofs.rule.Rule.new.Goals as goal

pub returns-in_err-variables-clause-exact : goal.returns-in_err-variables-clause-exact
returns-in_err-variables-clause-exact g c = (
  λ some. absurd (false≢true (sym (ap is_some c.from_residual.ensures) ∙ some)),
  λ rule. absurd (false≢true (c.in_err-variables.ensures.exact rule.0 (rw (c.split_at.ensures.front, c.split_at.ensures.back, c.deref.ensures.value, c.deref-2.ensures.value, c.deref-3.ensures.value) rule.1))),
)

pub from_parts-requires : goal.from_parts-requires
from_parts-requires g c = rw (c.split_at.ensures.front, c.split_at.ensures.back, c.deref.ensures.value, c.deref-2.ensures.value, c.deref-3.ensures.value) at c.in_ok-variables.ensures.rule

pub returns-clause-valid : goal.returns-clause-valid
returns-clause-valid g c = rw c.from_parts.ensures (rw (c.split_at.ensures.front, c.split_at.ensures.back, c.deref.ensures.value, c.deref-2.ensures.value, c.deref-3.ensures.value) at c.in_ok-variables.ensures.rule)
