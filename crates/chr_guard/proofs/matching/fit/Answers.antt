use Rattle.std.proofs.Common.{length, map, replicate, None, ap, subst, ◌∙◌, arith}
use Rattle.std.proofs.lemmas.List.{length-replicate}
use Rattle.chr_guard.specs.Bindings.{Narrows, NoneUnder}
use Rattle.chr_guard.specs.Matching.{AreAtHeads}
use Rattle.chr_guard.proofs.Matched.{fit_from_free, none_from_free}
use Rattle.chr_guard.proofs.matching.fit.Goals as goal

pub fit_placed-requires : goal.fit_placed-requires
fit_placed-requires g c = (omega arith, ap length c.free-binding.ensures ∙ length-replicate c.variables.result None ∙ c.variables.ensures.count)

pub returns-then-not-fit_placed : goal.returns-then-not-fit_placed
returns-then-not-fit_placed g c =
    let all = AreAtHeads c.args.rule.now (map (λ p. (p.0, p.1.now)) c.args.placed.now) in
    none_from_free all c.variables.result (subst (NoneUnder all) c.free-binding.ensures c.if-not-fit_placed.ensures)

pub returns : goal.returns
returns g c =
    let all = AreAtHeads c.args.rule.now (map (λ p. (p.0, p.1.now)) c.args.placed.now) in
    fit_from_free c.args.rule.now all c.fit_placed.new.binding (subst (λ old. Narrows all old c.fit_placed.new.binding) (c.free-binding.ensures ∙ ap (λ n. replicate n None) c.variables.ensures.count) c.if-not-fit_placed.ensures)
