use Rattle.std.proofs.Common.{ℕ, List, length, ap, ◌∙◌}
use Rattle.chr_rule.specs.Rules.{Simpagation}
use Rattle.chr_calls.specs.Books.{BookState}
use Rattle.chr_shared_desk.proofs.shared_desk.read_book.Goals as goal

pub returns-in-Ok-clause-empty : goal.returns-in-Ok-clause-empty
returns-in-Ok-clause-empty g c = ap (λ (b : BookState). b.log) c.in-Ok.ensures.opened.is.is

pub returns-in-Ok-clause-rules : goal.returns-in-Ok-clause-rules
returns-in-Ok-clause-rules g c =
    let opens = c.in-Ok.ensures.opened in
    record {
      opens = opens;
      count_is = c.len-count.ensures.count ∙ ap (λ (rs : List (Simpagation ℕ)). length rs) (c.program.ensures ∙ ap (λ (b : BookState). b.rules) opens.is.is);
    }
