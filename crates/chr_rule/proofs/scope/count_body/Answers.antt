use Rattle.std.proofs.Common.{◌+◌, map, drop, sym, ◌∙◌}
use Rattle.std.proofs.lemmas.List.{drop_all}
use Rattle.chr_rule.specs.Parts.{member, expression}
use Rattle.chr_rule.proofs.Judged.{after-is}
use Rattle.chr_rule.proofs.Places.{map-left}
use Rattle.chr_rule.proofs.scope.count_body.Goals as goal
use Rattle.chr_rule.proofs.scope.count_body.Goals.{in-Is+else-from-known+else-not-is_known, in-Add+else-not-are_known}

pub loop-item-preserved : goal.loop-item-preserved
loop-item-preserved g c =
    let left = map-left member _ _ _ c.loop-item-test.true c.item-item.is in
    elim c.match-item.branch [
      | in-Is+else-from-known+else-not-is_known w ↦
          rw (w.known-is, ← c.loop-item.invariant, left, w.in-Is.is)
          (sym (after-is c.loop-item.known w.in-Is.x (expression w.in-Is.expr) (map member (drop (c.loop-item.item-index + 1) c.args.body.now)) (sym w.from.ensures ∙ w.if-from-known.false) (sym w.is_known.ensures ∙ w.if-not-is_known.false)))
      | in-Add+else-not-are_known w ↦ rw (w.known-is, ← c.loop-item.invariant, left, w.in-Add.is, ← w.deref.ensures.value, ← w.are_known.ensures, w.if-not-are_known.false)
    ]

pub returns-then-not-are_known : goal.returns-then-not-are_known
returns-then-not-are_known g c =
    rw (← c.loop-item.invariant, map-left member _ _ _ c.loop-item-test.true c.item-item.is, c.in-Add.is, ← c.deref.ensures.value, ← c.are_known.ensures, c.if-not-are_known.true)

pub returns : goal.returns
returns g c = rw (← c.loop-item.invariant, drop_all _ _ c.loop-item-test.false)
