use Rattle.std.proofs.Common.{◌≡◌, length, true, false, refl, arith, sym, subst}
use Rattle.std.specs.List.{AllByRecursion}
use Rattle.chr_guard.specs.Bindings.{bound_at, SidesBound}
use Rattle.chr_guard.specs.Values.{Holds}
use Rattle.chr_guard.proofs.Scoped.{scoped}
use Rattle.chr_guard.proofs.Valued.{known_guard}
use Rattle.chr_guard.proofs.Matched.{fit_binds}
use Rattle.chr_guard.proofs.Whole.{becomes_if, no_guard}
use Rattle.chr_guard.proofs.instance.becomes_instance.Goals as goal

pub guard_holds-requires : goal.guard_holds-requires
guard_holds-requires g c =
    let rule = c.args.rule.now in
    let s = scoped rule c.variables.ensures.valid in
    let heads = fit_binds rule c.requires.fit.0 c.args.binding.now c.requires.fit.1 in
    (omega arith, subst (AllByRecursion (SidesBound c.args.binding.now)) (sym c.requires.guard) (known_guard c.args.binding.now s.count rule.guard (λ x below. heads x (s.count, s.heads, below)) s.guard))

pub complete_body-requires : goal.complete_body-requires
complete_body-requires g c =
    let len : length c.args.binding.now ≡ c.args.rule.now.variables = c.requires.fit.1.places in
    (omega arith, (omega arith, fit_binds c.args.rule.now c.requires.fit.0 c.args.binding.now c.requires.fit.1))

pub returns-clause-instance : goal.returns-clause-instance
returns-clause-instance g c facts fit =
    let guard = subst (AllByRecursion (Holds (bound_at c.args.binding.now))) c.requires.guard (c.if-not-guard_holds.ensures.0 refl) in
    becomes_if c.args.rule.now c.variables.ensures.valid facts c.complete_body.result c.args.binding.now c.complete_body.new.binding fit guard c.complete_body.ensures.completed

pub returns-then-not-guard_holds-clause-instance : goal.returns-then-not-guard_holds-clause-instance
returns-then-not-guard_holds-clause-instance g c facts fit =
    no_guard c.args.rule.now c.variables.ensures.valid facts c.args.binding.now fit (λ h. (let z : false ≡ true = c.if-not-guard_holds.ensures.1 (subst (AllByRecursion (Holds (bound_at c.args.binding.now))) (sym c.requires.guard) h) in absurd (cc)))
