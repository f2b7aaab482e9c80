use Rattle.std.proofs.Common.{◌≡◌, ℕ, sym, subst, take, arith, get_or, ◌∙◌, take_all, length, length-take-le}
use Rattle.std.proofs.lemmas.List.{take_more}
use Rattle.chr_value.specs.declared.atom.Pred.{Pred}
use Rattle.chr_store.specs.Index.{Places}
use Rattle.chr_store.specs.Marks.{AreMarks}
use Rattle.chr_store.proofs.Marks.{marks_more}
use Rattle.chr_store.proofs.chosen.Chosen.of.Goals as goal

pub loop-number-preserved : goal.loop-number-preserved
loop-number-preserved g c =
    let ps : Places = c.args.places.now in
    let k : ℕ = c.loop-number.number in
    let d : Pred × ℕ = (record { name = record { number = 0 }; arity = 0 }, 0) in
    subst (AreMarks c.mark_place-in-loop-number.new.marks.items) (sym (take_more ps k d c.loop-number-test.true))
    (marks_more (take k ps) (get_or ps k d) c.in-Ok.number c.loop-number.marks.items c.mark_place.new.marks.items c.mark_place-in-loop-number.new.marks.items (let z : length (take k ps) ≡ k = length-take-le k ps (omega arith) in omega (arith, z, c.in-Ok.ensures)) c.loop-number.invariant c.in_ok-mark_place.ensures c.in_ok-mark_place-2.ensures)

pub invariant_of-result : goal.invariant_of-result
invariant_of-result g c = subst (AreMarks c.loop-number.marks.items) (take_all c.loop-number.number c.args.places.now (omega arith) ∙ sym c.in_ok-from_slice.ensures.items) c.loop-number.invariant
