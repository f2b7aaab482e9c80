use Rattle.std.proofs.Common.{◌+◌, ◌++◌, ℕ, List, [], ◌∷◌, refl, ap, ◌∙◌, arith}
use Rattle.chr_search.proofs.PassingOver.{label_small}
use Rattle.chr_search.proofs.Below.{first_misfit, first_whole, first_part, first_below, first_passed, below_same}
use Rattle.chr_search.proofs.join.Join.pass_first.Goals as goal

pub overflow_add-active : goal.overflow_add-active
overflow_add-active g c =
    let t = c.requires.begins.trials (c.args.self.now.view.active ∷ []) (omega arith) (c.requires.begins.begins, tt) in
    omega (arith, c.active.ensures.value, label_small _ [] c.args.self.now.view.active t.0 t.1)

-- a misfit
pub returns-then-most-count-clause-passes : goal.returns-then-most-count-clause-passes
returns-then-most-count-clause-passes g c =
    let misfit = first_misfit _ _ c.requires.begins.begins c.in-Misfit.ensures in
    record { after = (c.args.self.now.view.active + 1) ∷ []; passes = misfit.0; ends = misfit.1 }

pub returns-else-most-count-clause-passes : goal.returns-else-most-count-clause-passes
returns-else-most-count-clause-passes g c =
    let misfit = first_misfit _ _ c.requires.begins.begins c.in-Misfit.ensures in
    record {
      after = (c.args.self.now.view.active + 1) ∷ [];
      passes = misfit.0;
      ends = c.set_alone.ensures ∙ ap (λ (x : ℕ). (x + 1) ∷ []) c.active.ensures.value;
    }

-- or whole, or a part
pub returns-in-Whole-clause-passes : goal.returns-in-Whole-clause-passes
returns-in-Whole-clause-passes g c =
    record { after = []; passes = refl; ends = first_whole _ _ c.requires.begins.begins _ c.in-Whole.ensures _ c.requires.alone }

-- a part, which is all that was asked for
pub returns-then-most-eq1-clause-passes : goal.returns-then-most-eq1-clause-passes
returns-then-most-eq1-clause-passes g c = record {
  after = c.args.self.now.view.active ∷ 0 ∷ [];
  passes = first_part _ _ c.requires.begins.begins c.in-Part.ensures.0;
  ends = c.push.ensures.items ∙ ap (λ (ls : List ℕ). ls ++ 0 ∷ []) c.requires.alone;
}

-- or not
pub returns-else-most-eq1-clause-passes : goal.returns-else-most-eq1-clause-passes
returns-else-most-eq1-clause-passes g c =
    let alone = c.requires.alone in
    let active = c.args.self.now.view.active in
    first_passed _ _ c.requires.begins.begins c.in-Part.ensures.0 _ alone c.pass_below-below.result _ _ (c.pass_below-below.ensures.passes (active ∷ 0 ∷ []) (first_below _ _ c.requires.begins.begins _ alone))

pub returns-else-most-eq1-clause-alone : goal.returns-else-most-eq1-clause-alone
returns-else-most-eq1-clause-alone g c = λ none.
    let alone = c.requires.alone in
    let active = c.args.self.now.view.active in
    below_same _ _ _ c.pass_below-below.result _ _ (c.pass_below-below.ensures.passes (active ∷ 0 ∷ []) (first_below _ _ c.requires.begins.begins _ alone)) none ∙ alone
