use Rattle.std.proofs.Common.{◌≡◌, ◌≤◌, ◌+◌, true, Some, None, replicate, slice_set, sym, ap, subst, ◌∙◌, arith}
use borrow.Author.Count.{below_more}
use Rattle.chr_model.specs.Stores.{atom_at, among, labels}
use Rattle.chr_enumeration.specs.Picks.{Picks, picked, Has, Fills, IsPartial, IsMatch, NoMatch}
use Rattle.chr_enumeration.proofs.Wholes.{none_among, no_fit_more, partial_more, partial_start, none_open, picks_one, match_has, no_has, picked_this}
use Rattle.chr_enumeration.proofs.search.find_with_own.Goals as goal

pub loop-head-preserved-then-not-fit_next : goal.loop-head-preserved-then-not-fit_next
loop-head-preserved-then-not-fit_next g c =
    let rule = c.args.rule.now in
    let store = g.P.Partners.store c.args.partners.now in
    let n = c.heads-heads.result in
    let label = c.own-label.result in
    let start = partial_start rule store n c.variables-in-loop-head.result c.reset.new.self c.heads-heads.ensures.count c.reset.ensures c.variables-in-loop-head.ensures.count in
    below_more (λ i. NoMatch rule store (Fills (slice_set (replicate n None) i (Some (c.own-label.result, c.args.atom.now))))) c.loop-head.head c.loop-head.invariant
    (no_fit_more rule store (replicate n None) c.loop-head.head (c.own-label.result, c.args.atom.now) c.reset.new.self start (none_open n c.loop-head.head c.loop-head-test.true) (c.loop-head.head + 1) (omega arith) c.if-not-fit_next.ensures.narrows)

pub find_match-requires : goal.find_match-requires
find_match-requires g c =
    let rule = c.args.rule.now in
    let store = g.P.Partners.store c.args.partners.now in
    let stored : atom_at store c.own-label.result ≡ Some c.args.atom.now = ap (atom_at store) c.own-label.ensures ∙ c.requires in
    let n = c.heads-heads.result in
    let label = c.own-label.result in
    let start = partial_start rule store n c.variables-in-loop-head.result c.reset.new.self c.heads-heads.ensures.count c.reset.ensures c.variables-in-loop-head.ensures.count in
    let more = partial_more rule store (replicate n None) c.loop-head.head (c.own-label.result, c.args.atom.now) c.reset.new.self c.fit_next.new.binding start (none_open n c.loop-head.head c.loop-head-test.true) (none_among n c.own-label.result) stored (c.loop-head.head + 1) (omega arith) c.if-not-fit_next.ensures.narrows in
    let slots = picks_one n c.loop-head.head (c.own-label.result, c.args.atom) c.heads-heads.ensures.few in (
      omega arith,
      (
        omega arith,
        (
          subst (λ qs. IsPartial rule store qs c.fit_next.new.binding) (sym slots) more,
          subst (λ (qs : Picks). among (labels (picked qs)) (g.P.Partners.own c.args.partners.now) ≡ true) (sym slots) (picked_this (replicate n None) c.loop-head.head (g.P.Partners.own c.args.partners.now) (c.own-label.result, c.args.atom.now) (none_open n c.loop-head.head c.loop-head-test.true) c.own-label.ensures),
        ),
      ),
    )

pub returns-in-Some : goal.returns-in-Some
returns-in-Some g c =
    let rule = c.args.rule.now in
    let store = g.P.Partners.store c.args.partners.now in
    let n = c.heads-heads.result in
    subst (λ l. IsMatch rule store (Has l) c.in-Some.found) c.own-label.ensures (match_has rule store (replicate n None) c.loop-head.head (c.own-label.result, c.args.atom.now) c.in-Some.found (none_open n c.loop-head.head c.loop-head-test.true).within
    (subst (λ qs. IsMatch rule store (Fills qs) c.in-Some.found) (picks_one n c.loop-head.head (c.own-label.result, c.args.atom) c.heads-heads.ensures.few) c.in-Some.ensures.found))

pub loop-head-preserved : goal.loop-head-preserved
loop-head-preserved g c =
    let rule = c.args.rule.now in
    let store = g.P.Partners.store c.args.partners.now in
    let n = c.heads-heads.result in
    below_more (λ i. NoMatch rule store (Fills (slice_set (replicate n None) i (Some (c.own-label.result, c.args.atom.now))))) c.loop-head.head c.loop-head.invariant
    (subst (λ qs. NoMatch rule store (Fills qs)) (picks_one n c.loop-head.head (c.own-label.result, c.args.atom) c.heads-heads.ensures.few) c.in_default.ensures.found.1)

pub returns : goal.returns
returns g c =
    let rule = c.args.rule.now in
    let store = g.P.Partners.store c.args.partners.now in
    let stored : atom_at store c.own-label.result ≡ Some c.args.atom.now = ap (atom_at store) c.own-label.ensures ∙ c.requires in
    let past : c.heads-heads.result ≤ c.loop-head.head = c.loop-head-test.false in
    subst (λ l. NoMatch rule store (Has l)) c.own-label.ensures (no_has rule store c.heads-heads.result c.own-label.result c.args.atom.now c.heads-heads.ensures.count stored (λ i h. c.loop-head.invariant i (omega arith)))
