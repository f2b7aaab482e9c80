use Rattle.std.proofs.Common.{suc, length, refl, sym, ap, ◌∙◌, arith}
use Rattle.std.proofs.lemmas.List.{length-map}
use Rattle.arrayvec.specs.ArrayVec.{with_items}
use Rattle.arrayvec.proofs.ArrayVecLemmas.{items-with_items}
use Rattle.chr_rule.specs.Parts.{shape}
use Rattle.chr_search.specs.PlanByPlan.{label_at_head, labels_at_heads}
use Rattle.chr_search.proofs.Making.{AreParts, each_parts}
use Rattle.chr_search.proofs.whole.Whole.set.Given.{Over}
use Rattle.chr_search.proofs.whole.Whole.set.Goals.{After-set_past}
use Rattle.chr_search.proofs.whole.Whole.set.Goals as goal

pub resize-requires : goal.resize-requires
resize-requires g c = omega (arith, c.requires.full, c.kept.ensures.valid.limits.heads)

pub put_at_heads-requires-clause-room : goal.put_at_heads-requires-clause-room
put_at_heads-requires-clause-room g c = ap length c.as_mut_slice.ensures.value ∙ c.resize.ensures

-- the labels are the kept ones and the removed ones
put : (g : Over) (c : After-set_past g) → let order = c.args.join.now.order.now in let rule = c.args.join.now.rule.now in
    AreParts (length c.kept.result.now) (with_items c.resize.new.labels c.put_at_heads.new.heads).items (labels_at_heads order c.args.labels.now 1 (length rule.kept)) (labels_at_heads order c.args.labels.now (suc (length rule.kept)) (length rule.removed))
put g c =
    let rule = c.args.join.now.rule.now in
    let order = c.args.join.now.order.now in
    let ls = c.args.labels.now in
    each_parts (label_at_head order ls) (labels_at_heads order ls) (λ h. refl) (λ h n. refl) (length rule.kept) (length rule.removed) (length c.kept.result.now) _
    (items-with_items c.resize.new.labels c.put_at_heads.new.heads (c.put_at_heads.auto.heads ∙ ap length c.as_mut_slice.ensures.value) ∙ c.put_at_heads.ensures)
    (sym (length-map c.kept.result.now shape) ∙ ap length c.kept.ensures.heads)

pub invariant_of-self : goal.invariant_of-self
invariant_of-self g c = (put g c).within

pub returns : goal.returns
returns g c = record {
  number_is = refl;
  kept_are = (put g c).first;
  removed_are = (put g c).rest;
  label_is = c.set_past.ensures.label;
  past_is = c.set_past.ensures.past;
}
