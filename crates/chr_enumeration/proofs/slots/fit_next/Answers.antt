use Rattle.std.proofs.Common.{◌≡◌, Some, sym, subst, arith}
use Rattle.chr_rule.specs.Parts.{shape}
use Rattle.chr_guard.specs.Instances.{atom_under}
use Rattle.chr_guard.proofs.Scoped.{IsPlaced}
use Rattle.chr_guard.proofs.Bindings.{narrows_as}
use Rattle.chr_guard.proofs.Matched.{head_placed}
use Rattle.chr_enumeration.specs.Picks.{HeadIs}
use Rattle.chr_enumeration.proofs.Wholes.{head_is}
use Rattle.chr_enumeration.proofs.slots.fit_next.Goals as goal

pub fit_head-requires : goal.fit_head-requires
fit_head-requires g c = (omega arith, subst (λ n. IsPlaced n (shape c.in-Some.head.now)) (sym c.requires) (head_placed c.args.rule.now c.head.ensures.valid c.args.number (shape c.in-Some.head.now) (sym c.in-Some.ensures.head)))

pub returns-clause-narrows : goal.returns-clause-narrows
returns-clause-narrows g c =
    let s = shape c.in-Some.head.now in
    let a = c.args.atom.now in
    narrows_as (λ v. atom_under v s ≡ Some a) (HeadIs c.args.rule.now c.args.number a) c.args.binding.now c.fit_head.new.binding (head_is c.args.rule.now c.args.number s a (sym c.in-Some.ensures.head)) c.if-not-fit_head.ensures.narrows

pub returns-then-not-fit_head-clause-narrows : goal.returns-then-not-fit_head-clause-narrows
returns-then-not-fit_head-clause-narrows g c v extends is =
    let s = shape c.in-Some.head.now in
    let a = c.args.atom.now in
    c.if-not-fit_head.ensures.narrows v extends ((head_is c.args.rule.now c.args.number s a (sym c.in-Some.ensures.head) v).1 is)
