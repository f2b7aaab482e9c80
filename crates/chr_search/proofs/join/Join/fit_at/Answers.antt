use Rattle.std.proofs.Common.{◌≡◌, Some, sym, subst, arith}
use Rattle.chr_rule.specs.Parts.{shape}
use Rattle.chr_rule.specs.Rules.{head_at}
use Rattle.chr_guard.specs.Instances.{atom_under}
use Rattle.chr_guard.proofs.Scoped.{IsPlaced}
use Rattle.chr_guard.proofs.Matched.{head_placed, told_as}
use Rattle.chr_search.specs.Joined.{join_of}
use Rattle.chr_search.proofs.Asking.{stands_is}
use Rattle.chr_search.proofs.join.Join.fit_at.Goals as goal

pub fit_head-requires : goal.fit_head-requires
fit_head-requires g c =
    (omega arith, subst (λ n. IsPlaced n (shape c.in-Some.head.now)) (sym c.requires) (head_placed c.args.self.now.rule.now c.head.ensures.valid c.from.result (shape c.in-Some.head.now) (sym c.in-Some.ensures.head)))

pub returns-clause-narrows : goal.returns-clause-narrows
returns-clause-narrows g c =
    let s = shape c.in-Some.head.now in
    let a = c.in-Some-get.atom.now in
    let head = subst (λ n. head_at c.args.self.now.rule.now n ≡ Some s) c.from.ensures (sym c.in-Some.ensures.head) in
    told_as (λ v. atom_under v s ≡ Some a) _ c.fit_head.result c.args.binding.now c.fit_head.new.binding (stands_is (join_of c.args.self.now) c.args.step c.args.label s a head (sym c.in-Some-get.ensures)) c.fit_head.ensures.narrows
