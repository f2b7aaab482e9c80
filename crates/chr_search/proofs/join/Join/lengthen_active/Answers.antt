use Rattle.std.proofs.Common.{ltb, MatchBool, false, [], ◌∷◌, refl, sym, subst, ◌∙◌, arith}
use Rattle.chr_search.specs.Tree.{Least, NoneBeyond}
use Rattle.chr_search.specs.Trials.{MayFollow}
use Rattle.chr_search.specs.Joined.{join_of}
use Rattle.chr_search.specs.Partners.{LengthenedIf}
use Rattle.chr_search.proofs.Asking.{free_ready}
use Rattle.chr_search.proofs.Partners.{none_below, active_first, active_last, active_other, active_more}
use Rattle.chr_search.proofs.join.Join.lengthen_active.Goals as goal

pub returns-in_default : goal.returns-in_default
returns-in_default g c = active_first _ c.requires.begins _ c.requires.active _ c.in_default.ensures.cases

pub returns-then-first-active : goal.returns-then-first-active
returns-then-first-active g c =
    let is = c.active-active.ensures.value in
    subst (λ x. MatchBool (ltb c.in-Some.first.now x) (Least (MayFollow (join_of c.args.self.now)) 1 [] c.args.place.now c.args.labels.now.items) (NoneBeyond (MayFollow (join_of c.args.self.now)) 1 [] c.args.place.now)) (sym is)
    (active_other _ c.requires.begins _ c.requires.active _ _ _ c.in-Some.ensures.cases.0 (λ e. c.if-first-active.true (e ∙ sym is)))

pub returns-in_default-split_first : goal.returns-in_default-split_first
returns-in_default-split_first g c =
    active_last _ c.requires.begins _ c.requires.active _ _ _ c.in-Some.ensures.cases.0 (c.if-first-active.false ∙ c.active-active.ensures.value) c.in_default-split_first.ensures.cases

pub returns-then-not-narrow_by : goal.returns-then-not-narrow_by
returns-then-not-narrow_by g c =
    let j = join_of c.args.self.now in
    let x = c.active-active.result in
    let none = none_below j [] x c.in-Some-split_first.next.now c.in-Some-split_first.rest.now (c.if-not-narrow_by.ensures.narrowed (subst (MayFollow j []) (sym c.active-active.ensures.value) c.requires.begins)) in
    active_more j c.requires.begins (j.active ∷ []) refl _ _ _ c.in-Some.ensures.cases.0 (c.if-first-active.false ∙ c.active-active.ensures.value) false (j.active ∷ [])
    (subst (λ b. NoneBeyond (MayFollow j) 1 (j.active ∷ []) b) (sym c.in-Some-split_first.ensures.cases.0) (subst (λ z. NoneBeyond (MayFollow j) 1 (z ∷ []) (c.in-Some-split_first.next.now ∷ c.in-Some-split_first.rest.now)) c.active-active.ensures.value none), refl)

pub narrow_by-requires : goal.narrow_by-requires
narrow_by-requires g c = (omega arith, (c.requires.plan, free_ready _ _ _ c.variables.ensures.count c.free-binding.ensures))

pub returns : goal.returns
returns g c =
    active_more _ c.requires.begins _ c.requires.active _ _ _ c.in-Some.ensures.cases.0 (c.if-first-active.false ∙ c.active-active.ensures.value) c.lengthen.result c.lengthen.new.labels.items
    (subst (λ b. LengthenedIf (join_of c.args.self.now) b c.lengthen.result c.args.labels.now.items c.lengthen.new.labels.items) (sym c.in-Some-split_first.ensures.cases.0) c.lengthen.ensures.found)
