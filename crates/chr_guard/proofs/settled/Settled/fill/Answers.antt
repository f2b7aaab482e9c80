use Rattle.std.proofs.Common.{◌≡◌, ◌<◌, rules, length, map, get_or, None, sym, subst, ap, ◌∙◌, arith, slice_index_or}
use Rattle.std.proofs.lemmas.List.{length-map}
use Rattle.chr_value.specs.Atoms.{Int, Sym}
use Rattle.chr_guard.specs.declared.settled.Mark.TheVariants as marks
use Rattle.chr_guard.specs.Settled.{mark_view, IsFilled}
use Rattle.chr_guard.proofs.Steps.{read_there, filling_start, filling_put, filling_skip, filling_end, mark_there, nothing_kept}
use Rattle.chr_guard.proofs.settled.Settled.fill.Goals as goal
use Rattle.chr_guard.proofs.settled.Settled.fill.Goals.{in-Number, in-Symbol, in_default}

pub loop-variable-init : goal.loop-variable-init
loop-variable-init g c = filling_start (map mark_view c.deref-mark-items.result.now) c.args.binding.now

pub put-requires : goal.put-requires
put-requires g c =
    let marks : length c.args.self.now ≡ length c.deref-mark-items.result.now = sym (ap length c.self.view_is) ∙ length-map c.self.inside.marks.items mark_view ∙ sym (ap length c.deref-mark-items.ensures.value) in
    (omega (arith, marks, c.loop-variable-test.true), (omega (arith, marks, c.loop-variable-test.true, c.loop-variable.invariant.places), record { depth = omega arith; size = omega arith }))

pub put-requires-in-Symbol : goal.put-requires-in-Symbol
put-requires-in-Symbol g c =
    let marks : length c.args.self.now ≡ length c.deref-mark-items.result.now = sym (ap length c.self.view_is) ∙ length-map c.self.inside.marks.items mark_view ∙ sym (ap length c.deref-mark-items.ensures.value) in
    (omega (arith, marks, c.loop-variable-test.true), (omega (arith, marks, c.loop-variable-test.true, c.loop-variable.invariant.places), record { depth = omega arith; size = omega arith }))

pub loop-variable-preserved : goal.loop-variable-preserved
loop-variable-preserved g c =
    let ms = c.deref-mark-items.result.now in
    let i = c.loop-variable.variable in
    let count : length c.args.self.now ≡ length c.deref-mark-items.result.now = sym (ap length c.self.view_is) ∙ length-map c.self.inside.marks.items mark_view ∙ sym (ap length c.deref-mark-items.ensures.value) in
    let within : c.loop-variable.variable < length c.loop-variable.binding = omega (arith, count, c.loop-variable-test.true, c.loop-variable.invariant.places) in
    let at = mark_there ms i (get_or ms i marks.Free) c.loop-variable-test.true (read_there ms i marks.Free c.loop-variable-test.true) in
    elim c.match-mark.branch [
      | in-Number w ↦
          rw w.binding-is
          (filling_put (map mark_view ms) i (Int w.in-Number.n) c.args.binding.now c.loop-variable.binding w.put.new.self within (at ∙ ap mark_view w.in-Number.is) (search rules) c.loop-variable.invariant)
      | in-Symbol w ↦
          rw w.binding-is
          (filling_put (map mark_view ms) i (Sym w.in-Symbol.name.number) c.args.binding.now c.loop-variable.binding w.put-in-Symbol.new.self within (at ∙ ap mark_view w.in-Symbol.is) (search rules) c.loop-variable.invariant)
      | in_default w ↦
          rw w.binding-is
          (filling_skip (map mark_view ms) i c.args.binding.now c.loop-variable.binding (nothing_kept (get_or ms i marks.Free) (slice_index_or (map mark_view ms) i None) at w.in_default.not-Number w.in_default.not-Symbol) c.loop-variable.invariant)
    ]

pub returns : goal.returns
returns g c =
    subst (λ s. IsFilled s c.args.binding.now c.loop-variable.binding) (ap (map mark_view) c.deref-mark-items.ensures.value ∙ c.self.view_is)
    (filling_end (map mark_view c.deref-mark-items.result.now) c.loop-variable.variable c.args.binding.now c.loop-variable.binding (rw length-map c.loop-variable-test.false) c.loop-variable.invariant)
