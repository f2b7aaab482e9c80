use Rattle.std.proofs.Common.{ℕ, Option, Some, None, nat_eq, if◌then◌else◌, ap, ◌∙◌, refl, arith, slice_set}
use Rattle.std.specs.Option.{option_or}
use Rattle.chr_store.specs.Marks.{mark_at}
use Rattle.chr_store.proofs.Marks.{IsRoomy, mark_set, roomy_filled}
use Rattle.chr_store.proofs.chosen.set_mark.Goals as goal
use Rattle.chr_store.proofs.chosen.set_mark.Goals.{then-len-index+in_ok-resize, else-len-index}

pub returns : goal.returns
returns g c = λ i.
    let roomy : IsRoomy c.args.marks.now.items c.if-len-index.marks.items c.args.index = elim c.if-len-index.branch [
      | then-len-index+in_ok-resize w ↦ rw w.marks-is (rw w.in_ok-resize.ensures.items (roomy_filled c.args.marks.now.items c.args.index c.args.marks.now.len c.args.marks.now.ok.0 (omega (arith, w.if-len-index.true, c.len.ensures))))
      | else-len-index w ↦ rw w.marks-is (record { within = omega (arith, w.if-len-index.false, c.len.ensures, c.args.marks.now.ok.0); same = λ j. refl })
    ] in
    ap (λ (o : Option ℕ). mark_at (slice_set c.if-len-index.marks.items c.args.index o) i) (c.or.ensures ∙ ap (λ (z : Option ℕ). option_or z (Some c.args.number)) c.index.ensures)
    ∙ mark_set c.if-len-index.marks.items c.args.index i _ (Some c.args.number) roomy.within ∙ ap (λ (o : Option ℕ). option_or o (if nat_eq i c.args.index then Some c.args.number else None)) (roomy.same i)
