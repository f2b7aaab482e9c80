use Rattle.std.proofs.Common.{◌≡◌, ℕ, ◌+◌, length, subst, sym, ap, ◌∙◌, arith}
use Rattle.chr_sheet.proofs.Words.{Simpagation, heads_of, Trial, placed_as, Column, at_head, head_in, column_trials}
use Rattle.chr_sheet.proofs.Rows.{only_read, taken_up_to, told_up_to, told_settled, told_more, IsTold, column_count, other_trial, first_told, kept_at, kept_there, other_told}
use Rattle.chr_sheet.proofs.column.Column.count_misfits.Goals as goal
use Rattle.chr_sheet.proofs.column.Column.count_misfits.Goals.{After-is_misfit_alone, After-is_misfit_alone-in-loop-i}

pub rule_of-requires : goal.rule_of-requires
rule_of-requires g c = (other_trial (head_in c.more.result.0.now) c.args.self.now c.more.result.1.now c.loop-i.i (kept_at c.more.result.1.now c.loop-i.i) c.first-first.ensures.column c.loop-i.invariant.more c.loop-i-test.true (kept_there c.more.result.1.now c.loop-i.i c.loop-i-test.true)).full

pub is_misfit_alone-requires-in-loop-i : goal.is_misfit_alone-requires-in-loop-i
is_misfit_alone-requires-in-loop-i g c =
    let k : Column = c.args.self.now in
    let is = other_trial (head_in c.more.result.0.now) k c.more.result.1.now c.loop-i.i (kept_at c.more.result.1.now c.loop-i.i) c.first-first.ensures.column c.loop-i.invariant.more c.loop-i-test.true (kept_there c.more.result.1.now c.loop-i.i c.loop-i-test.true) in
    (omega arith, subst (λ (r : Simpagation ℕ). length (heads_of r) ≡ 1) (sym (c.deref.ensures ∙ c.rule_of.ensures)) is.full)

-- what is told of the first trial, and of another
told_first : (g : _) (c : After-is_misfit_alone g) → IsTold (column_trials c.args.self.now) 0 c.args.self.now.first c.is_misfit_alone.result c.is_misfit_alone.new.binding
told_first g c =
    let k : Column = c.args.self.now in
    let w = c.first-first.ensures.column in
    let one = only_read placed_as c.placed.result.now c.index-placed-0.result k.first.placed (c.placed.ensures.placed ∙ ap (λ (t : Trial). t.placed) c.first-first.ensures.first) w.alone c.index-placed-0.is in
    first_told k (placed_as c.index-placed-0.result) c.rule.result.now c.is_misfit_alone.result c.is_misfit_alone.new.binding w one (c.rule.ensures.rule ∙ ap (λ (t : Trial). t.rule) c.first-first.ensures.first) (λ t same places formed. (c.is_misfit_alone.ensures.misfit t same places formed, λ no. c.is_misfit_alone.ensures.whole no t same places formed))

told_other : (g : _) (c : After-is_misfit_alone-in-loop-i g) → IsTold (column_trials c.args.self.now) (c.loop-i.i + 1) (at_head c.args.self.now.first (head_in c.more.result.0.now (kept_at c.more.result.1.now c.loop-i.i))) c.is_misfit_alone-in-loop-i.result c.is_misfit_alone-in-loop-i.new.binding
told_other g c =
    let k : Column = c.args.self.now in
    let w = c.first-first.ensures.column in
    let one = only_read placed_as c.placed.result.now c.index-placed-0.result k.first.placed (c.placed.ensures.placed ∙ ap (λ (t : Trial). t.placed) c.first-first.ensures.first) w.alone c.index-placed-0.is in
    other_told (head_in c.more.result.0.now) k c.more.result.1.now c.loop-i.i (kept_at c.more.result.1.now c.loop-i.i) (placed_as c.index-placed-0.result) c.deref.result.now c.is_misfit_alone-in-loop-i.result c.is_misfit_alone-in-loop-i.new.binding w c.loop-i.invariant.more c.loop-i-test.true (kept_there c.more.result.1.now c.loop-i.i c.loop-i-test.true) one (c.deref.ensures ∙ c.rule_of.ensures) (λ t same places formed. (c.is_misfit_alone-in-loop-i.ensures.misfit t same places formed, λ no. c.is_misfit_alone-in-loop-i.ensures.whole no t same places formed))

pub returns-then-not-is_misfit_alone-clause-misfits : goal.returns-then-not-is_misfit_alone-clause-misfits
returns-then-not-is_misfit_alone-clause-misfits g c = told_up_to (told_first g (goal.at.returns-then-not-is_misfit_alone-clause-misfits g c).After-is_misfit_alone) c.if-not-is_misfit_alone.true tt

pub returns-then-not-is_misfit_alone-2-clause-misfits : goal.returns-then-not-is_misfit_alone-2-clause-misfits
returns-then-not-is_misfit_alone-2-clause-misfits g c = told_up_to (told_other g (goal.at.returns-then-not-is_misfit_alone-2-clause-misfits g c).After-is_misfit_alone-in-loop-i) c.if-not-is_misfit_alone-2.true c.loop-i.invariant.misfits

pub returns-then-not-is_misfit_alone-clause-settled : goal.returns-then-not-is_misfit_alone-clause-settled
returns-then-not-is_misfit_alone-clause-settled g c =
    told_settled _ c.settled.result (told_first g (goal.at.returns-then-not-is_misfit_alone-clause-settled g c).After-is_misfit_alone) c.if-not-is_misfit_alone.true c.settled.ensures c.ok.ensures.value

pub returns-then-not-is_misfit_alone-2-clause-settled : goal.returns-then-not-is_misfit_alone-2-clause-settled
returns-then-not-is_misfit_alone-2-clause-settled g c =
    told_settled _ c.settled-then-not-is_misfit_alone-2.result (told_other g (goal.at.returns-then-not-is_misfit_alone-2-clause-settled g c).After-is_misfit_alone-in-loop-i) c.if-not-is_misfit_alone-2.true c.settled-then-not-is_misfit_alone-2.ensures c.ok-then-not-is_misfit_alone-2.ensures.value

pub loop-i-preserved : goal.loop-i-preserved
loop-i-preserved g c = record {
  more = c.loop-i.invariant.more;
  misfits = told_more (told_other g (goal.at.loop-i-preserved g c).After-is_misfit_alone-in-loop-i) c.if-not-is_misfit_alone-2.false c.loop-i.invariant.misfits;
}

pub returns-clause-misfits : goal.returns-clause-misfits
returns-clause-misfits g c =
    let k : Column = c.args.self.now in
    let xs = c.more.result.1.now in
    let looked : length (column_trials k) ≡ length c.more.result.1.now + 1 = column_count (head_in c.more.result.0.now) k c.more.result.1.now c.loop-i.invariant.more in
    taken_up_to (column_trials k) (c.loop-i.i + 1) (length xs + 1) (omega arith) (column_count (head_in c.more.result.0.now) k xs c.more.ensures.more) c.loop-i.invariant.misfits
