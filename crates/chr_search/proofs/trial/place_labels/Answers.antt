use Rattle.std.proofs.Common.{◌≡◌, ◌≤◌, ◌<◌, length, Some, None, false, get_or, refl, sym, ◌∙◌, arith}
use Rattle.chr_model.specs.Stores.{atom_at}
use Rattle.std.proofs.lemmas.Option.{slice_get-get_or}
use Rattle.chr_search.specs.Placed.{placed_as}
use Rattle.chr_search.proofs.Plans.{heads_in}
use Rattle.chr_search.proofs.Making.{read_more, all_more, heads_read}
use Rattle.chr_search.proofs.Placing.{placed_read}
use Rattle.chr_search.proofs.trial.place_labels.Goals as goal

pub unreachable-requires : goal.unreachable-requires
unreachable-requires g c =
    let ls = c.args.labels.now in
    let live = c.requires.live c.loop-i.i (get_or ls c.loop-i.i 0) (slice_get-get_or ls c.loop-i.i 0 c.loop-i-test.true) in
    let z : None ≡ Some live.0 = c.in_default.ensures ∙ live.1 in
    absurd (cc)

pub loop-i-preserved : goal.loop-i-preserved
loop-i-preserved g c =
    let ls = c.args.labels.now in
    let order = c.args.order.now in
    let here : c.loop-i.i < length ls = c.loop-i-test.true in
    let count : length ls ≤ length order = c.requires.count in
    record {
      heads = read_more (λ p. p.head) c.loop-i.placed.items c.push_placed.new.placed.items _ (heads_in order) c.loop-i.i _ c.loop-i.invariant.heads c.in_ok-push_placed.ensures refl (heads_read order c.loop-i.i (record { head = 0; key = None; fresh = false }) (omega arith));
      labels = read_more (λ p. p.label) c.loop-i.placed.items c.push_placed.new.placed.items _ ls c.loop-i.i _ c.loop-i.invariant.labels c.in_ok-push_placed.ensures refl (slice_get-get_or ls c.loop-i.i 0 here);
      live = all_more (λ p. atom_at c.args.store.now.entries p.label ≡ Some p.atom) c.loop-i.placed.items c.push_placed.new.placed.items _ c.loop-i.invariant.live c.in_ok-push_placed.ensures (sym c.in-Some.ensures);
    }

pub returns : goal.returns
returns g c =
    placed_read placed_as c.args.order.now c.args.store.now.entries c.loop-i.placed.items c.loop-i.i c.args.labels.now c.loop-i.invariant.heads c.loop-i.invariant.labels c.loop-i.invariant.live c.loop-i-test.false c.loop-i.auto.i-end
