use Rattle.std.proofs.Common.{rules, arith, to_z, of_z, w64, ◌≡◌, false, Some, MatchOption, refl, sym, subst, ap, ◌∙◌}
use Rattle.std.proofs.lemmas.Grind.{common_steps}
use Rattle.std.proofs.lemmas.Int.{to_z-of_z}
use Rattle.chr_value.specs.Atoms.{Int}
use Rattle.chr_rule.specs.Parts.{member, shape}
use Rattle.chr_rule.specs.Terms.{HasPlainArguments}
use Rattle.chr_guard.specs.Bindings.{NarrowsIf, PartsBound}
use Rattle.chr_guard.specs.Matching.{BindsIf}
use Rattle.chr_guard.proofs.Valued.{plain_made}
use Rattle.chr_guard.proofs.body.bind_item.Goals as goal

pub returns-in-Some-clause-binds : goal.returns-in-Some-clause-binds
returns-in-Some-clause-binds g c =
    let told = c.bind_number.result in
    let old = c.args.binding.now in
    let new = c.bind_number.new.self in
    let same : to_z w64 (of_z w64 c.in-Some.n) ≡ c.in-Some.n = first_of (search rules, grind (arith, common_steps, to_z-of_z)) in
    subst (λ m. BindsIf m told old new) (sym (ap (member {Z = g.row.A.Denot}) c.in-Is.is))
    (subst (λ o. MatchOption o (told ≡ false) (λ n. NarrowsIf (λ v. v c.in-Is.x ≡ Some (Int n)) told old new)) (sym c.in-Some.is ∙ c.bound_value.ensures)
    (subst (λ z. NarrowsIf (λ v. v c.in-Is.x ≡ Some (Int z)) told old new) same c.bind_number.ensures.narrows))

pub returns-then-is_plain-clause-binds : goal.returns-then-is_plain-clause-binds
returns-then-is_plain-clause-binds g c =
    let told = c.args.is_plain in
    let old = c.args.binding.now in
    let adds = ap (member {Z = g.row.A.Denot}) c.in-Add.is in
    let some = plain_made old (shape c.in-Add.pattern) c.are_within.ensures (subst (PartsBound old) adds c.requires.ready) (subst HasPlainArguments adds (c.requires.plain c.if-is_plain.true)) in
    subst (λ m. BindsIf m told old old) (sym adds) ((λ t. some, λ s. c.if-is_plain.true), refl)
