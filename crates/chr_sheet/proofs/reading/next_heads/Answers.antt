use Rattle.std.proofs.Common.{◌≡◌, ℕ, ◌+◌, length, map, Some, sym, ap, subst, ◌∙◌, arith}
use Rattle.chr_sheet.proofs.Words.{arc_value, Simpagation, rule_at, head_in, rule_or_none}
use Rattle.chr_value.specs.declared.atom.Pred.{Pred}
use Rattle.chr_rule.specs.Occurrences.{IsNextOccurrence, AreHeadsFrom}
use Rattle.chr_sheet.proofs.NextBeside.{last_head, heads_push, last_pushed, one_more}
use Rattle.chr_sheet.proofs.reading.next_heads.Goals as goal

pub heads-preserved : goal.heads-preserved
heads-preserved g c =
    let rules = c.args.program.now in
    let r = c.args.after.0 in
    let h = c.args.after.1 in
    let old = c.heads.heads.items in
    let new = c.push_with_room.new.list.items in
    let pushed = c.in_ok-push_with_room.ensures in
    let last = last_head r h (map (head_in rules) old) in
    let found = c.in-Some.ensures.next _ _ _ c.heads.invariant.ahead in
    let there : rule_at rules c.from.result ≡ Some (arc_value c.in-Some-rule.rule.now) = sym c.in-Some-rule.ensures.rule in
    let rule : arc_value c.in-Some-rule.rule.now ≡ rule_or_none (rule_at rules c.from.result) = ap rule_or_none (sym there) in
    record {
      few = (let count = one_more old new _ pushed in omega arith);
      next = heads_push (head_in rules) rules c.args.pred r h old new _ c.heads.invariant.next pushed (subst (λ (p : Pred). IsNextOccurrence rules p last.0 (last.1 + 1) (c.in-Some.number, c.in-Some.head)) c.heads.invariant.pred found.0)
          (subst (λ n. rule_at rules n ≡ Some (rule_or_none (rule_at rules n))) c.from.ensures (there ∙ ap (λ r. Some r) rule))
          (subst (λ (r : Simpagation ℕ). length r.kept + length r.removed ≡ 1) (c.deref.ensures ∙ rule ∙ ap (λ n. rule_or_none (rule_at rules n)) c.from.ensures) (sym c.heads-in-heads.ensures.count ∙ c.if-heads-ne1.false));
      pred = c.in-Some.ensures.pred ∙ c.heads.invariant.pred;
      ahead = subst (λ (at : ℕ × ℕ). AreHeadsFrom rules c.next.new.self at.0 (at.1 + 1)) (sym (last_pushed (head_in rules) r h old new _ pushed)) found.1;
    }
