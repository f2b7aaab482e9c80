use Rattle.std.proofs.Common.{sym, subst}
use Rattle.std.specs.List.{AllByRecursion}
use Rattle.chr_text.specs.Named.{RuleAtomIsNamed, ComparisonIsNamed, BodyItemIsNamed}
use Rattle.chr_text.proofs.named.is_rule_named.Goals as goal

pub returns : goal.returns
returns g c =
    let n = c.args.count in (
      λ t. record {
        kept = subst (AllByRecursion (RuleAtomIsNamed n)) c.kept.ensures.heads (c.are_named.ensures.0 c.if-not-are_named.false);
        removed = subst (AllByRecursion (RuleAtomIsNamed n)) c.removed.ensures.heads (c.are_named-2.ensures.0 c.if-not-are_named-2.false);
        guard = subst (AllByRecursion (ComparisonIsNamed n)) c.guard.ensures.tests (c.are_named-3.ensures.0 c.if-not-are_named-3.false);
        body = subst (AllByRecursion (BodyItemIsNamed n)) c.body.ensures.members (c.are_named-4.ensures.0 t);
      },
      λ h. c.are_named-4.ensures.1 (subst (AllByRecursion (BodyItemIsNamed n)) (sym c.body.ensures.members) h.body),
    )
