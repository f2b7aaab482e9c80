use Rattle.std.proofs.Common.{arith, ◌≡◌, ◌≤◌, length, true, false, refl, sym, subst, ◌∙◌}
use Rattle.std.proofs.lemmas.List.{length-map}
use Rattle.chr_rule.specs.Parts.{member}
use Rattle.chr_rule.specs.Terms.{HasPlainArguments}
use Rattle.chr_guard.specs.Bindings.{PartsBound}
use Rattle.chr_guard.proofs.Steps.{all_at, read_as}
use Rattle.chr_guard.proofs.Matched.{completing_start, completing_end, item_place, item_ready, item_unready, item_more, item_stop}
use Rattle.chr_guard.proofs.Bindings.{keeps_both, narrows_keeps}
use Rattle.chr_guard.proofs.body.bind_body.Goals as goal
use Rattle.chr_guard.proofs.body.bind_body.Goals.{else-not-heads_are_bound-via-then-not-heads_are_bound+else-not-are_parts_bound, else-not-heads_are_bound-via-else-not-heads_are_bound}

pub loop-item-init : goal.loop-item-init
loop-item-init g c = completing_start c.args.rule.now c.args.binding.now c.body-item-items.ensures.valid c.requires.places

pub returns-then-not-are_parts_bound-clause-completed : goal.returns-then-not-are_parts_bound-clause-completed
returns-then-not-are_parts_bound-clause-completed g c =
    let read = read_as (member {Z = g.row.A.Denot}) c.body-item-items.result.now c.args.rule.now.body c.loop-item.item-index c.item-item.result (member c.item-item.result) c.body-item-items.ensures.members c.loop-item-test.true c.item-item.is refl in
    item_unready c.args.rule.now c.loop-item.item-index c.args.binding.now c.loop-item.binding read.0 c.loop-item.invariant (member c.item-item.result) read.1 (λ ready. (let z : false ≡ true = sym c.if-not-are_parts_bound.true ∙ c.are_parts_bound.ensures.1 ready in absurd (cc)))

pub bind_item-requires : goal.bind_item-requires
bind_item-requires g c =
    let read = read_as (member {Z = g.row.A.Denot}) c.body-item-items.result.now c.args.rule.now.body c.loop-item.item-index c.item-item.result (member c.item-item.result) c.body-item-items.ensures.members c.loop-item-test.true c.item-item.is refl in
    let ready = elim c.else-not-heads_are_bound.branch as (λ _. PartsBound c.loop-item.binding (member c.item-item.result)) [
      | else-not-heads_are_bound-via-then-not-heads_are_bound+else-not-are_parts_bound w ↦ w.are_parts_bound.ensures.0 w.if-not-are_parts_bound.false
      | else-not-heads_are_bound-via-else-not-heads_are_bound w ↦ item_ready c.args.rule.now c.loop-item.item-index c.args.binding.now c.loop-item.binding read.0 c.loop-item.invariant (member c.item-item.result) read.1 (c.requires.heads w.if-not-heads_are_bound.false)
    ] in
    let plain : c.is_plain-is_plain.result ≡ true → HasPlainArguments (member c.item-item.result) = λ told. (all_at HasPlainArguments c.args.rule.now.body c.loop-item.item-index (member c.item-item.result) read.0 read.1 (c.is_plain-is_plain.ensures told)).1 in
    (omega arith, (item_place c.args.rule.now c.loop-item.item-index c.args.binding.now c.loop-item.binding read.0 c.loop-item.invariant (member c.item-item.result) read.1, (ready, plain)))

pub returns-then-not-bind_item-clause-completed : goal.returns-then-not-bind_item-clause-completed
returns-then-not-bind_item-clause-completed g c =
    let read = read_as (member {Z = g.row.A.Denot}) c.body-item-items.result.now c.args.rule.now.body c.loop-item.item-index c.item-item.result (member c.item-item.result) c.body-item-items.ensures.members c.loop-item-test.true c.item-item.is refl in
    item_stop c.args.rule.now c.loop-item.item-index c.args.binding.now c.loop-item.binding read.0 c.loop-item.invariant (member c.item-item.result) read.1 c.bind_item.new.binding c.if-not-bind_item.ensures.binds

pub loop-item-preserved : goal.loop-item-preserved
loop-item-preserved g c =
    let read = read_as (member {Z = g.row.A.Denot}) c.body-item-items.result.now c.args.rule.now.body c.loop-item.item-index c.item-item.result (member c.item-item.result) c.body-item-items.ensures.members c.loop-item-test.true c.item-item.is refl in
    item_more c.args.rule.now c.loop-item.item-index c.args.binding.now c.loop-item.binding read.0 c.loop-item.invariant (member c.item-item.result) read.1 c.bind_item.new.binding c.if-not-bind_item.ensures.binds

pub returns-clause-completed : goal.returns-clause-completed
returns-clause-completed g c =
    completing_end c.args.rule.now c.loop-item.item-index c.args.binding.now c.loop-item.binding (subst (λ l. length l ≤ c.loop-item.item-index) c.body-item-items.ensures.members (rw length-map c.loop-item-test.false)) c.loop-item.invariant

pub returns-then-not-are_parts_bound-clause-keeps : goal.returns-then-not-are_parts_bound-clause-keeps
returns-then-not-are_parts_bound-clause-keeps g c = narrows_keeps _ c.args.binding.now c.loop-item.binding c.loop-item.invariant.narrows

pub returns-then-not-bind_item-clause-keeps : goal.returns-then-not-bind_item-clause-keeps
returns-then-not-bind_item-clause-keeps g c = keeps_both c.args.binding.now c.loop-item.binding c.bind_item.new.binding (narrows_keeps _ c.args.binding.now c.loop-item.binding c.loop-item.invariant.narrows) c.bind_item.ensures.keeps

pub returns-clause-keeps : goal.returns-clause-keeps
returns-clause-keeps g c = narrows_keeps _ c.args.binding.now c.loop-item.binding c.loop-item.invariant.narrows
