use Rattle.std.proofs.Common.{◌≡◌, ◌≤◌, ℕ, [], ◌∷◌, length, IsTrue, Option, Some, None, MatchOption, refl, sym, ap, ap₂, subst, ◌∙◌, arith, rules}
use Rattle.chr_sheet.proofs.Words.{⊤, placed_as, Placed, Trial, Column, at_head, head_in}
use Rattle.chr_sheet.proofs.Rows.{only_read, kept_at, kept_there, first_trial, other_trial, other_placed, column_step}
use Rattle.chr_sheet.proofs.Turns.{other_alone, ArePredOf, AreAfter, alone_met_none, alone_met_other, alone_met_one, follows_there, met_as, next_low, pred_of, pred_as}
use Rattle.chr_sheet.proofs.reporting.meet_alone.Goals.{then-is_at, else-is_at}
use Rattle.chr_sheet.proofs.reporting.meet_alone.Goals as goal

pub overflow_add-first : goal.overflow_add-first
overflow_add-first g c = omega (arith, next_low c.requires.0 c.args.program.now c.requires.1 c.args.first c.args.column.now.first c.requires.2 c.rules-rules.ensures.valid c.requires.3)

-- what is told of the last one that was met
abbrev IsLow : Option (ℕ × ℕ) → Type 0
IsLow met = MatchOption met ⊤ (λ o. (1 ≤ o.0) × (1 ≤ o.1))

pub loop-other-init : goal.loop-other-init
loop-other-init g c =
    let k : Column = c.args.column.now in
    let t : Trial = k.first in
    let number : c.number.result ≡ t.number = c.number.ensures ∙ ap (λ (t : Trial). t.number) c.first-trial.ensures.first in
    let head : c.head.result ≡ t.head = c.head.ensures ∙ ap (λ (t : Trial). t.head) c.first-trial.ensures.first in
    let here : ℕ × ℕ = (c.number.result, c.head.result) in
    let at : here ≡ (t.number, t.head) = ap₂ (λ (r h : ℕ). (r, h)) number head in
    let rule : c.rule.result.now ≡ t.rule = c.rule.ensures.rule ∙ ap (λ (t : Trial). t.rule) c.first-trial.ensures.first in
    let is = first_trial k c.first-trial.ensures.column in
    let p : Placed = placed_as c.index-placed-0.result in
    let one = only_read placed_as c.placed.result.now c.index-placed-0.result t.placed (c.placed.ensures.placed ∙ ap (λ (t : Trial). t.placed) c.first-trial.ensures.first) c.first-trial.ensures.column.alone c.index-placed-0.is in
    let name : c.pred-pred.result.name.number ≡ p.atom.name = c.pred-pred.ensures.name ∙ ap (λ z. (placed_as z).atom.name) (sym c.index-placed-0.is) in
    let arity : c.pred-pred.result.arity ≡ length p.atom.args = c.pred-pred.ensures.arity ∙ ap (λ z. length (placed_as z).atom.args) (sym c.index-placed-0.is) in
    let heads = c.heads_from-ahead.result in
    let pred : ArePredOf heads t = pred_of heads c.pred-pred.result t p c.heads_from-ahead.ensures.pred one name arity in
    elim c.if-is_at.branch [
      | then-is_at w ↦
          let new = w.next-next.new.self in
          let yes : IsTrue c.is_at.result = search rules in
          let told = c.is_at.ensures.0 yes in
          let after = follows_there c.args.program.now heads.pred new here w.next-next.result (w.next-next.ensures.next _ _ _ (subst (AreAfter c.args.program.now heads) told.0 c.heads_from-ahead.ensures.heads)) in
          let first = pred p one in
          record {
            more = c.more.ensures.more;
            few = omega (arith, w.count-is);
            met = λ s place a n. met_as s place (t ∷ []) 1 c.if-is_at.count (Some here) c.if-is_at.met w.next-next.result c.if-is_at.next w.count-is w.met-is w.next-is
                (alone_met_one s c.args.program.now place t p heads.pred here [] (t ∷ []) 0 None (Some c.args.first) w.next-next.result refl at one first.0 first.1 a is (told.0, told.1 ∙ ap (λ r. Some r) rule) after.0 (alone_met_none s place c.args.first n));
            pred = subst (λ h. ArePredOf h t) (sym w.ahead-is) (pred_as heads new t w.next-next.ensures.pred pred);
            ahead = subst (AreAfter c.args.program.now c.if-is_at.ahead) (sym w.next-is) (subst (λ h. AreAfter c.args.program.now h w.next-next.result) (sym w.ahead-is) after.1);
            low = subst IsLow (sym w.met-is) (subst (λ n. 1 ≤ n) (sym number) is.formed.number, subst (λ n. 1 ≤ n) (sym head) is.formed.head);
          }
      | else-is_at w ↦ record {
        more = c.more.ensures.more;
        few = omega (arith, w.count-is);
        met = λ s place a n. met_as s place (t ∷ []) 0 c.if-is_at.count None c.if-is_at.met (Some c.args.first) c.if-is_at.next w.count-is w.met-is w.next-is
            (alone_met_other s c.args.program.now place t here [] (t ∷ []) 0 None (Some c.args.first) refl at a (λ z. let yes = c.is_at.ensures.1 (z.0, z.1 ∙ ap (λ r. Some r) (sym rule)) in absurd (search rules)) (alone_met_none s place c.args.first n));
        pred = subst (λ h. ArePredOf h t) (sym w.ahead-is) pred;
        ahead = subst (AreAfter c.args.program.now c.if-is_at.ahead) (sym w.next-is) (subst (λ h. AreAfter c.args.program.now h (Some c.args.first)) (sym w.ahead-is) c.heads_from-ahead.ensures.heads);
        low = subst IsLow (sym w.met-is) tt;
      }
    ]

pub rule_of-requires : goal.rule_of-requires
rule_of-requires g c = (other_trial (head_in c.more.result.0.now) c.args.column.now c.more.result.1.now c.loop-other.other-index (kept_at c.more.result.1.now c.loop-other.other-index) c.first-trial.ensures.column c.loop-other.invariant.more c.loop-other-test.true (kept_there c.more.result.1.now c.loop-other.other-index c.loop-other-test.true)).full

pub loop-other-preserved-then-not-is_at : goal.loop-other-preserved-then-not-is_at
loop-other-preserved-then-not-is_at g c =
    let k : Column = c.args.column.now in
    let x = kept_at c.more.result.1.now c.loop-other.other-index in
    let t : Trial = at_head k.first (head_in c.more.result.0.now x) in
    let i = c.loop-other.invariant in
    let step = column_step (head_in c.more.result.0.now) k c.more.result.1.now c.loop-other.other-index x i.more c.loop-other-test.true (kept_there c.more.result.1.now c.loop-other.other-index c.loop-other-test.true) in
    record {
      more = i.more;
      few = omega arith;
      met = λ s place a n. alone_met_other s c.args.program.now place t (x.number, x.head) _ _ c.loop-other.count c.loop-other.met c.loop-other.next step refl (other_alone s c.args.program.now k.first (head_in c.more.result.0.now x) a) (λ z. let yes = c.if-not-is_at.ensures.1 (z.0, z.1 ∙ ap (λ r. Some r) (sym (c.deref.ensures ∙ c.rule_of.ensures))) in absurd (cc)) (i.met s place a n);
      pred = i.pred;
      ahead = i.ahead;
      low = i.low;
    }

pub loop-other-preserved : goal.loop-other-preserved
loop-other-preserved g c =
    let k : Column = c.args.column.now in
    let x = kept_at c.more.result.1.now c.loop-other.other-index in
    let p : Placed = placed_as c.index-placed-0.result in
    let t : Trial = at_head k.first (head_in c.more.result.0.now x) in
    let i = c.loop-other.invariant in
    let one = only_read placed_as c.placed.result.now c.index-placed-0.result k.first.placed (c.placed.ensures.placed ∙ ap (λ (t : Trial). t.placed) c.first-trial.ensures.first) c.first-trial.ensures.column.alone c.index-placed-0.is in
    let w = other_trial (head_in c.more.result.0.now) k c.more.result.1.now c.loop-other.other-index x c.first-trial.ensures.column i.more c.loop-other-test.true (kept_there c.more.result.1.now c.loop-other.other-index c.loop-other-test.true) in
    let step = column_step (head_in c.more.result.0.now) k c.more.result.1.now c.loop-other.other-index x i.more c.loop-other-test.true (kept_there c.more.result.1.now c.loop-other.other-index c.loop-other-test.true) in
    let told = c.if-not-is_at.ensures.0 refl in
    let of = i.pred p one in
    let heads = c.loop-other.ahead in
    let new = c.next-next-in-loop-other.new.self in
    let then = c.next-next-in-loop-other.result in
    let after = follows_there c.args.program.now heads.pred new (x.number, x.head) then (c.next-next-in-loop-other.ensures.next _ _ _ (subst (AreAfter c.args.program.now heads) told.0 i.ahead)) in
    record {
      more = i.more;
      few = omega arith;
      met = λ s place a n. alone_met_one s c.args.program.now place t (record p { head = x.head }) heads.pred (x.number, x.head) _ _ c.loop-other.count c.loop-other.met c.loop-other.next then step refl (other_placed k.first p (head_in c.more.result.0.now x) one) of.0 of.1
          (other_alone s c.args.program.now k.first (head_in c.more.result.0.now x) a) w (told.0, told.1 ∙ ap (λ r. Some r) (c.deref.ensures ∙ c.rule_of.ensures)) after.0 (i.met s place a n);
      pred = pred_as heads new k.first c.next-next-in-loop-other.ensures.pred i.pred;
      ahead = after.1;
      low = (w.formed.number, w.formed.head);
    }
