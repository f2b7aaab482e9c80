-- What holds of a program's instances.
use Rattle.std.proofs.Common.{◌≡◌, ℕ, zero, suc, ◌⊎◌, inl, inr, List, [], ◌∷◌, Some, None, sym, ◌∙◌, subst, slice_get, arith}
use Rattle.std.specs.List.{AllByRecursion}
use Rattle.chr_value.specs.Atoms.{Atom}
use Rattle.chr_rule.specs.Rules.{Simpagation}
use Rattle.chr_rule.specs.Scope.{IsRule}
use Rattle.chr_guard.specs.Instances.{Instance}
use Rattle.chr_guard.proofs.Fixed.{body_fixed}
use Rattle.chr_model.specs.Programs.{Instances}
use Rattle.chr_model.proofs.Quiet.{Removes}
use Rattle.chr_model.proofs.Fixed.{Fixes}

pub program_removes : (rules : List (Simpagation ℕ)) → Removes (Instances rules)
program_removes rules r kept removed body i = i.2.some_removed

pub of_zero : (rules : List (Simpagation ℕ)) (kept removed body : List (Atom ℕ)) → Instances rules 0 kept removed body → ⊥
of_zero rules kept removed body i = let e : None ≡ Some i.0 = i.1 in cc

of_first : (rule : Simpagation ℕ) (rules : List (Simpagation ℕ)) (kept removed body : List (Atom ℕ)) → Instances (rule ∷ rules) 1 kept removed body → Instance rule kept removed body
of_first rule rules kept removed body i = grind arith

-- the instances of one rule, and of two
pub of_only : (rule : Simpagation ℕ) (r : ℕ) (kept removed body : List (Atom ℕ)) → Instances (rule ∷ []) r kept removed body → Instance rule kept removed body
of_only rule zero kept removed body i = absurd (of_zero (rule ∷ []) kept removed body i)
of_only rule (suc zero) kept removed body i = of_first rule [] kept removed body i
of_only rule (suc (suc n)) kept removed body i = let e : None ≡ Some i.0 = i.1 in absurd (cc)

pub of_two : (rule other : Simpagation ℕ) (r : ℕ) (kept removed body : List (Atom ℕ)) → Instances (rule ∷ other ∷ []) r kept removed body → Instance rule kept removed body ⊎ Instance other kept removed body
of_two rule other zero kept removed body i = absurd (of_zero (rule ∷ other ∷ []) kept removed body i)
of_two rule other (suc zero) kept removed body i = inl (of_first rule (other ∷ []) kept removed body i)
of_two rule other (suc (suc n)) kept removed body i = inr (of_only other (suc n) kept removed body i)

-- where each rule is in scope, the heads' atoms fix the body's
rule_in_scope : (rules : List (Simpagation ℕ)) → AllByRecursion IsRule rules → (k : ℕ) (rule : Simpagation ℕ) → slice_get rules k ≡ Some rule → IsRule rule
rule_in_scope [] all k rule e = absurd (cc)
rule_in_scope (x ∷ xs) all zero rule e = let same : x ≡ rule = cc in subst IsRule same all.0
rule_in_scope (x ∷ xs) all (suc k) rule e = rule_in_scope xs all.1 k rule e

pub program_fixes : (rules : List (Simpagation ℕ)) → AllByRecursion IsRule rules → Fixes (Instances rules)
program_fixes rules all zero kept removed body other i j = absurd (of_zero rules kept removed body i)
program_fixes rules all (suc n) kept removed body other i j =
    let e : Some i.0 ≡ Some j.0 = sym i.1 ∙ j.1 in
    let same : j.0 ≡ i.0 = cc in
    body_fixed i.0 (rule_in_scope rules all n i.0 i.1) kept removed body other i.2 (subst (λ x. Instance x kept removed other) same j.2)
