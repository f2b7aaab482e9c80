use Rattle.std.proofs.Common.{Some, sym, ◌∙◌, arith}
use Rattle.chr_rule.specs.Parts.{shape, argument}
use Rattle.chr_guard.specs.Values.{term_under}
use Rattle.chr_guard.proofs.Steps.{read_count}
use Rattle.chr_guard.proofs.Under.{atom_is}
use Rattle.chr_guard.proofs.matching.fit_head.Goals as goal
use Rattle.chr_guard.proofs.matching.fit_head.Goals.{then-head-name-via-then-head-name, then-head-name-via-else-head-name+then-len-arity}

pub returns-then-head-name-clause-narrows : goal.returns-then-head-name-clause-narrows
returns-then-head-name-clause-narrows g c v extends same =
    let are = (atom_is v (shape c.args.head.now) c.args.atom.now).0 same in
    let count = read_count term_under argument (λ t. Some t) c.args.head.now.terms.items c.args.atom.now.args v are.1 in
    elim c.then-head-name.branch [
      | then-head-name-via-then-head-name w ↦ w.if-head-name.true (are.0 ∙ sym c.name-name.ensures)
      | then-head-name-via-else-head-name+then-len-arity w ↦ w.if-len-arity.true (omega arith)
    ]
