use Rattle.std.proofs.Common.{◌≡◌, ◌∙◌, ◌++◌, ℕ, List, Option, Some, MatchOption, map, sym, ap, subst, arith}
use Rattle.std.specs.Borrow.{Bor}
use Rattle.chr_value.specs.Atoms.{Atom}
use Rattle.chr_rule.specs.Rules.{Simpagation, rule_at}
use Rattle.chr_guard.specs.Instances.{NoInstance}
use Rattle.chr_guard.specs.Matching.{IsInstanceUnder}
use Rattle.chr_explain.specs.Atoms.{atoms_of}
use Rattle.chr_explain.specs.Reasons.{AreRuleValues}
use Rattle.chr_explain.proofs.reasons.rule_values.Goals as goal

pub returns : goal.returns
returns g c =
    let rules = c.args.program.now in
    let at : rule_at rules c.args.rule ≡ Some c.deref.result.now = ap (rule_at rules) (sym c.from.ensures) ∙ sym c.in-Some.ensures.rule ∙ ap Some (sym c.deref.ensures) in
    let heads = atoms_of c.args.atoms.now c.args.kept.now.items ++ atoms_of c.args.atoms.now c.args.removed.now.items in
    let same : map (λ (a : Bor (Atom ℕ)). a.now) c.deref-2.result.now ≡ heads = ap (map (λ (a : Bor (Atom ℕ)). a.now)) c.deref-2.ensures.value ∙ c.in_ok-heads.ensures in
    subst (λ (o : Option (Simpagation ℕ)). AreRuleValues o heads c.instance_under.result) (sym at)
    (subst (λ (hs : List (Atom ℕ)). MatchOption c.instance_under.result (NoInstance c.deref.result.now hs) (IsInstanceUnder c.deref.result.now hs)) same c.instance_under.ensures)
