use Rattle.std.proofs.Common.{sym, ◌∙◌}
use Rattle.std.proofs.lemmas.Bool.{false≢true}
use Rattle.chr_rule.proofs.rule.have_terms.Goals as goal

pub returns : goal.returns
returns g c = (
  λ t. record {
    kept = c.are_valid.ensures.0 c.if-not-are_valid.false;
    removed = c.are_valid-2.ensures.0 c.if-not-are_valid-2.false;
    guard = c.are_valid-3.ensures.0 c.if-not-are_valid-3.false;
    body = c.are_valid-4.ensures.0 t;
  },
  λ terms. c.are_valid-4.ensures.1 terms.body,
)

pub returns-then-not-are_valid : goal.returns-then-not-are_valid
returns-then-not-are_valid g c = (λ t. absurd (false≢true t), λ terms. sym c.if-not-are_valid.true ∙ c.are_valid.ensures.1 terms.kept)

pub returns-then-not-are_valid-2 : goal.returns-then-not-are_valid-2
returns-then-not-are_valid-2 g c = (λ t. absurd (false≢true t), λ terms. sym c.if-not-are_valid-2.true ∙ c.are_valid-2.ensures.1 terms.removed)

pub returns-then-not-are_valid-3 : goal.returns-then-not-are_valid-3
returns-then-not-are_valid-3 g c = (λ t. absurd (false≢true t), λ terms. sym c.if-not-are_valid-3.true ∙ c.are_valid-3.ensures.1 terms.guard)
