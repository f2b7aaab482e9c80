use Rattle.std.proofs.Common.{map, get_or, sym, ap, ◌∙◌}
use Rattle.std.specs.List.{list_any}
use Rattle.std.proofs.lemmas.List.{drop_all}
use Rattle.chr_guard.specs.declared.settled.Mark.TheVariants as marks
use Rattle.chr_guard.specs.Settled.{mark_view, is_compound}
use Rattle.chr_guard.proofs.Steps.{read_there, any_here, any_later}
use Rattle.chr_guard.proofs.settled.Settled.has_compound.Goals as goal

pub returns-in-Compound : goal.returns-in-Compound
returns-in-Compound g c =
    let i = c.loop-mark.mark-index in
    sym (any_here c.deref-mark-items.result.now i (get_or c.deref-mark-items.result.now i marks.Free) c.loop-mark-test.true (read_there c.deref-mark-items.result.now i marks.Free c.loop-mark-test.true) c.in-Compound.is) ∙ c.loop-mark.invariant
    ∙ ap (λ ks. list_any is_compound (map mark_view ks)) c.deref-mark-items.ensures.value ∙ ap (list_any is_compound) c.self.view_is

pub loop-mark-preserved : goal.loop-mark-preserved
loop-mark-preserved g c =
    let i = c.loop-mark.mark-index in
    any_later c.deref-mark-items.result.now i (get_or c.deref-mark-items.result.now i marks.Free) c.loop-mark-test.true (read_there c.deref-mark-items.result.now i marks.Free c.loop-mark-test.true) c.in_default.not-Compound ∙ c.loop-mark.invariant

pub returns : goal.returns
returns g c =
    sym (ap (λ ks. list_any is_compound (map mark_view ks)) (drop_all c.loop-mark.mark-index c.deref-mark-items.result.now c.loop-mark-test.false)) ∙ c.loop-mark.invariant
    ∙ ap (λ ks. list_any is_compound (map mark_view ks)) c.deref-mark-items.ensures.value ∙ ap (list_any is_compound) c.self.view_is
