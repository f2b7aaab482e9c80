use Rattle.std.proofs.Common.{ℕ, List, length, refl, ap, ◌∙◌}
use Rattle.chr_rule.specs.Rules.{Simpagation}
use Rattle.chr_calls.specs.Books.{BookState}
use Rattle.chr_solo.proofs.desk.load.Goals as goal

pub returns-in-Ok : goal.returns-in-Ok
returns-in-Ok g c =
    let opens = c.in-Ok.ensures.opened in
    record {
      book = c.in-Ok.opened;
      opens = opens;
      count_is = c.len-count.ensures.count ∙ ap (λ (rs : List (Simpagation ℕ)). length rs) (c.program.ensures ∙ ap (λ (b : BookState). b.rules) opens.is.is);
      after = refl;
    }
