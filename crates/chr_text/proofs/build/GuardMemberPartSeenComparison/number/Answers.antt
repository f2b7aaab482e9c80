use Rattle.std.proofs.Common.{◌≤◌, Some, Ok, length, subst, sym, ap₂}
use Rattle.std.proofs.lemmas.Result.{err_from_is_err_and}
use Rattle.chr_grammar.specs.Views as by_texts
use Rattle.chr_limits.specs.Views.{names as texts}
use Rattle.chr_rule.specs.Rules.{Expression, Compared}
use Rattle.chr_text.specs.Fitting.{TestFits}
use Rattle.chr_text.specs.Translation as raw
use Rattle.chr_text.proofs.InScope.{left_fits, expression_fits}
use Rattle.chr_text.proofs.Lists.{sides_fail, sides_numbered}
use Rattle.chr_text.proofs.build.GuardMemberPartSeenComparison.number.Goals as goal

pub number_tree-requires : goal.number_tree-requires
number_tree-requires g c =
    let fits = subst (λ m. TestFits (by_texts.test {Z = g.row.A.Denot} m)) c.in-Compared.is c.requires.fits in
    left_fits (texts c.args.seen.now.items) (by_texts.formula {Z = g.row.A.Denot} c.in-Compared.left) (by_texts.formula {Z = g.row.A.Denot} c.in-Compared.right) fits.0 (subst (λ m. length (raw.test (texts c.args.seen.now.items) (by_texts.test {Z = g.row.A.Denot} m)).1 ≤ 24) c.in-Compared.is c.requires.room)

pub number_tree-requires-in-Compared : goal.number_tree-requires-in-Compared
number_tree-requires-in-Compared g c =
    let fits = subst (λ m. TestFits (by_texts.test {Z = g.row.A.Denot} m)) c.in-Compared.is c.requires.fits in
    rw c.in_ok-left-in-Compared.ensures.seen (expression_fits _ (by_texts.formula {Z = g.row.A.Denot} c.in-Compared.right) fits.1 (subst (λ m. length (raw.test (texts c.args.seen.now.items) (by_texts.test {Z = g.row.A.Denot} m)).1 ≤ 24) c.in-Compared.is c.requires.room))

pub returns-in_ok-right-in-Compared-clause-gives : goal.returns-in_ok-right-in-Compared-clause-gives
returns-in_ok-right-in-Compared-clause-gives g c =
    let right = rw c.in_ok-left-in-Compared.ensures.seen at c.in_ok-right-in-Compared.ensures.gives in
    rw c.in-Compared.is (ap₂ (λ (a b : Expression). Ok (Some (Compared c.in-Compared.relation a b), c.args.names.now)) (sym c.in_ok-left-in-Compared.ensures.gives) (sym right))

pub returns-in_err-left-in-Same-clause-gives : goal.returns-in_err-left-in-Same-clause-gives
returns-in_err-left-in-Same-clause-gives g c =
    let p = err_from_is_err_and c.from_residual-in_err-left-in-Same.result c.from_residual-in_err-left-in-Same.ensures.1 in
    rw (p.1, p.2, c.in-Same.is) (sides_fail c.in_err-left-in-Same.field-0.0 c.args.names.now (texts c.args.seen.now.items) (by_texts.term {Z = g.row.A.Denot} c.in-Same.left) (by_texts.term {Z = g.row.A.Denot} c.in-Same.right) c.in_err-left-in-Same.ensures.gives).0

pub returns-in_ok-left-in-Same-clause-gives : goal.returns-in_ok-left-in-Same-clause-gives
returns-in_ok-left-in-Same-clause-gives g c =
    rw c.in-Same.is (sides_numbered c.args.names.now c.number_pair.new.names (texts c.args.seen.now.items) (by_texts.term {Z = g.row.A.Denot} c.in-Same.left) (by_texts.term {Z = g.row.A.Denot} c.in-Same.right) _ _ c.in_ok-left-in-Same.ensures.gives).0

pub returns-in_err-left-in-Differ-clause-gives : goal.returns-in_err-left-in-Differ-clause-gives
returns-in_err-left-in-Differ-clause-gives g c =
    let p = err_from_is_err_and c.from_residual-in_err-left-in-Differ.result c.from_residual-in_err-left-in-Differ.ensures.1 in
    rw (p.1, p.2, c.in-Differ.is) (sides_fail c.in_err-left-in-Differ.field-0.0 c.args.names.now (texts c.args.seen.now.items) (by_texts.term {Z = g.row.A.Denot} c.in-Differ.left) (by_texts.term {Z = g.row.A.Denot} c.in-Differ.right) c.in_err-left-in-Differ.ensures.gives).1

pub returns-in_ok-left-in-Differ-clause-gives : goal.returns-in_ok-left-in-Differ-clause-gives
returns-in_ok-left-in-Differ-clause-gives g c =
    rw c.in-Differ.is (sides_numbered c.args.names.now c.number_pair-in-Differ.new.names (texts c.args.seen.now.items) (by_texts.term {Z = g.row.A.Denot} c.in-Differ.left) (by_texts.term {Z = g.row.A.Denot} c.in-Differ.right) _ _ c.in_ok-left-in-Differ.ensures.gives).1
