use Rattle.std.proofs.Common.{◌≡◌, ◌<◌, ◌%◌, ◌∙◌, ◌++◌, ◌∷◌, [], length, get_or, refl, ap, sym, arith}
use Rattle.std.specs.List.{sum_by, flat_map}
use Rattle.std.proofs.Math.Seq.{map-set_same}
use Rattle.std.proofs.lemmas.List.{length-set, take_all}
use Rattle.chr_pool.specs.Hands.{hand_id, hand_pushed}
use Rattle.chr_pool.proofs.ViewLists.{permutes}
use Rattle.chr_crew.proofs.Answering.{at_err, at_ok}
use Rattle.chr_crew.proofs.Dealing.{no_parts, never_full, dealt_more, parts_after}
use Rattle.chr_crew.proofs.crew.deal.Goals as goal

pub loop-k-init : goal.loop-k-init
loop-k-init c = record { same = refl; count = refl; some = c.requires.some; pushed = λ h. omega arith; parts = no_parts c.args.hands.now.items c.requires.empty }

pub unreachable-requires : goal.unreachable-requires
unreachable-requires c =
    let many : c.len.result ≡ length c.loop-k.hands.items = omega arith in
    let i = c.loop-k.invariant in
    at_err _ _ c.push.result (sym c.is_err.ensures.value ∙ c.if-is_err.true) c.push.ensures.refused (λ e full.
    never_full c.args.hands.now.items c.loop-k.hands.items (length c.args.tickets.now) c.len.result c.loop-k.k c.index_mut.result.now many i.same i.count i.some c.requires.room i.parts c.loop-k-test.true c.index_mut.ensures.value full)

pub loop-k-preserved : goal.loop-k-preserved
loop-k-preserved c =
    let many : c.len.result ≡ length c.loop-k.hands.items = omega arith in
    let i = c.loop-k.invariant in
    let hands = c.loop-k.hands.items in
    let at = c.loop-k.k % c.len.result in
    let some : 0 < length c.loop-k.hands.items = i.some in
    let turn : c.loop-k.k % c.len.result < length c.loop-k.hands.items = omega arith in
    at_ok _ _ _ c.push.result (sym c.is_err.ensures.value ∙ c.if-is_err.false) c.push.ensures.pushed (λ x longer. record {
      same = map-set_same hand_id hands at c.push.new.self _ (c.push.ensures.same ∙ ap hand_id c.index_mut.ensures.value) ∙ i.same;
      count = length-set hands at c.push.new.self ∙ i.count;
      some = omega (arith, some, length-set hands at c.push.new.self);
      pushed = dealt_more hand_pushed c.args.hands.now.items hands c.args.tickets.now c.loop-k.k at c.index_mut.result.now c.push.new.self c.loop-k-test.true turn (longer ∙ ap (λ h. hand_pushed h ++ get_or c.args.tickets.now c.loop-k.k 0 ∷ []) c.index_mut.ensures.value) i.pushed;
      parts = parts_after hands c.len.result c.loop-k.k (get_or c.args.tickets.now c.loop-k.k 0) c.index_mut.result.now c.push.new.self many some i.parts c.index_mut.ensures.value longer;
    })

pub returns-clause-dealt : goal.returns-clause-dealt
returns-clause-dealt c =
    permutes c.args.tickets.now (flat_map hand_pushed c.loop-k.hands.items) (λ h.
    omega (
      arith,
      c.loop-k.invariant.pushed h,
      ap (sum_by h) c.requires.empty,
      ap (sum_by h) (take_all c.loop-k.k c.args.tickets.now (omega (arith, c.loop-k-test.false))),
    ))
