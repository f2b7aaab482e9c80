use Rattle.std.proofs.Common.{◌≡◌, List, map, length, true, arith, ap, sym, subst}
use Rattle.std.specs.List.{list_all}
use Rattle.chr_rule.specs.Parts.{shape, argument}
use Rattle.chr_rule.specs.Rules.{Term}
use Rattle.chr_rule.specs.Scope.{argument_known}
use Rattle.chr_guard.specs.Matching.{TakeValues, TermsAre}
use Rattle.chr_guard.proofs.Bindings.{narrows_keeps}
use Rattle.chr_guard.proofs.Matched.{take_each, taken_surely, told_head}
use Rattle.chr_guard.proofs.matching.bind_partner.Goals as goal

pub fit_many-requires : goal.fit_many-requires
fit_many-requires g c =
    let old = c.args.binding.now in
    let terms = c.deref-else-len-le-OWN_ARGS.result.now in
    let are = ap (map argument) (sym c.deref-else-len-le-OWN_ARGS.ensures.value) in
    let known = subst (λ (ts : List (Term _)). list_all (argument_known (length old)) ts ≡ true) are c.requires.known in
    (omega arith, (known, take_each old terms c.args.atom.now.args (subst (λ (ts : List (Term _)). TakeValues old ts c.args.atom.now.args) are c.requires.values)))

pub returns-then-len-le-OWN_ARGS-clause-narrows : goal.returns-then-len-le-OWN_ARGS-clause-narrows
returns-then-len-le-OWN_ARGS-clause-narrows g c =
    told_head true (shape c.args.head.now) c.args.atom.now (map argument c.deref.result.now) c.args.binding.now c.bind_own.new.binding c.requires.name (ap (map argument) c.deref.ensures.value) c.bind_own.ensures

pub returns-then-len-le-OWN_ARGS-clause-keeps : goal.returns-then-len-le-OWN_ARGS-clause-keeps
returns-then-len-le-OWN_ARGS-clause-keeps g c = narrows_keeps (TermsAre (map argument c.deref.result.now) c.args.atom.now.args) c.args.binding.now c.bind_own.new.binding c.bind_own.ensures

pub returns-else-len-le-OWN_ARGS-clause-narrows : goal.returns-else-len-le-OWN_ARGS-clause-narrows
returns-else-len-le-OWN_ARGS-clause-narrows g c =
    let old = c.args.binding.now in
    let terms = c.deref-else-len-le-OWN_ARGS.result.now in
    let are = ap (map argument) (sym c.deref-else-len-le-OWN_ARGS.ensures.value) in
    let known = subst (λ (ts : List (Term _)). list_all (argument_known (length old)) ts ≡ true) are c.requires.known in
    let values = subst (λ (ts : List (Term _)). TakeValues old ts c.args.atom.now.args) are c.requires.values in
    told_head true (shape c.args.head.now) c.args.atom.now (map argument terms) old c.fit_many.new.binding c.requires.name (sym are)
    (taken_surely c.fit_many.result old c.fit_many.new.binding (map argument terms) c.args.atom.now.args known values c.fit_many.ensures.narrows)
