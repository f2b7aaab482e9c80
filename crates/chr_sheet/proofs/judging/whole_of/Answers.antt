use Rattle.std.proofs.Common.{subst}
use Rattle.chr_sheet.proofs.Words.{IsVerdict}
use Rattle.chr_sheet.proofs.judging.whole_of.Goals as goal

pub returns-clause-verdict : goal.returns-clause-verdict
returns-clause-verdict g c =
    let v = c.judge-judged.result.verdict in
    c.requires.whole v (subst (λ t. IsVerdict t v) c.judge-judged.ensures c.verdict-right.ensures.right)
