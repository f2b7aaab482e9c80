use Rattle.std.proofs.Common.{◌∙◌, List, ℕ, sym, ap, subst, slice_index}
use Rattle.chr_index.specs.Chains.{Chained}
use Rattle.chr_index.proofs.Chaining.{IsWalked, walk_begins, walk_found, walk_falls, walk_goes_on}
use Rattle.chr_index.proofs.table.Table.place.Goals as goal

pub loop-place-init : goal.loop-place-init
loop-place-init g c =
    subst (λ (t : Chained). IsWalked t c.args.key c.begin-place.result) c.self.view_is
    (walk_begins _ c.args.key c.begin-place.result c.self.invariant (c.begin-place.ensures ∙ ap (λ (chains : List ℕ). slice_index chains c.home.result) c.deref.ensures.value ∙ ap (slice_index c.self.inside.chains.items) c.home.ensures))

pub returns-then-has_key-clause-key : goal.returns-then-has_key-clause-key
returns-then-has_key-clause-key g c =
    walk_found c.self.inside.chains.items c.self.inside.entries.items c.self.inside.shift c.loop-place.place c.index-entry.result.now c.args.self.now c.self.view_is c.args.key
    c.loop-place.invariant c.loop-place-test.true c.index-entry.ensures c.self.invariant (sym c.has_key.ensures ∙ c.if-has_key.true)

pub loop-place-smaller : goal.loop-place-smaller
loop-place-smaller g c =
    walk_falls c.self.inside.chains.items c.self.inside.entries.items c.self.inside.shift c.loop-place.place c.index-entry.result.now c.args.self.now c.self.view_is c.args.key
    c.loop-place.invariant c.loop-place-test.true c.index-entry.ensures c.self.invariant

pub loop-place-preserved : goal.loop-place-preserved
loop-place-preserved g c =
    walk_goes_on c.self.inside.chains.items c.self.inside.entries.items c.self.inside.shift c.loop-place.place c.index-entry.result.now c.args.self.now c.self.view_is c.args.key
    c.loop-place.invariant c.loop-place-test.true c.index-entry.ensures c.self.invariant (sym c.has_key.ensures ∙ c.if-has_key.false)
