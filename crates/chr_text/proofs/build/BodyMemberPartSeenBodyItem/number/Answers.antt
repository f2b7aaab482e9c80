use Rattle.std.proofs.Common.{◌≤◌, ℕ, Some, Ok, length, subst, sym, ap₂}
use Rattle.chr_grammar.specs.Views as by_texts
use Rattle.chr_limits.specs.Views.{names as texts}
use Rattle.chr_rule.specs.Rules.{Expression, Is}
use Rattle.chr_text.specs.Fitting.{MemberFits}
use Rattle.chr_text.specs.Translation as raw
use Rattle.chr_text.proofs.InScope.{is_room, expression_fits}
use Rattle.chr_text.proofs.build.BodyMemberPartSeenBodyItem.number.Goals as goal

pub number_variable-variable-requires : goal.number_variable-variable-requires
number_variable-variable-requires g c =
    let seen = texts c.args.seen.now.items in
    is_room seen c.in-Is.name.now (by_texts.formula {Z = g.row.A.Denot} c.in-Is.tree) (subst (λ m. length (raw.member seen (by_texts.member {Z = g.row.A.Denot} m)).1 ≤ 24) c.in-Is.is c.requires.room)

pub number_tree-requires : goal.number_tree-requires
number_tree-requires g c =
    let seen = texts c.args.seen.now.items in
    let fits = subst (λ m. MemberFits (by_texts.member {Z = g.row.A.Denot} m)) c.in-Is.is c.requires.fits in
    rw c.number_variable-variable.ensures.seen (expression_fits _ (by_texts.formula {Z = g.row.A.Denot} c.in-Is.tree) fits (subst (λ m. length (raw.member seen (by_texts.member {Z = g.row.A.Denot} m)).1 ≤ 24) c.in-Is.is c.requires.room))

pub returns-in_ok-expression-in-Is-clause-gives : goal.returns-in_ok-expression-in-Is-clause-gives
returns-in_ok-expression-in-Is-clause-gives g c =
    let tree = rw c.number_variable-variable.ensures.seen at c.in_ok-expression-in-Is.ensures.gives in
    rw c.in-Is.is (ap₂ (λ (x : ℕ) (e : Expression). Ok (Some (Is x e), c.args.names.now)) (sym c.number_variable-variable.ensures.number) (sym tree))
