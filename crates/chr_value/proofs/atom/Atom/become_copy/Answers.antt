use Rattle.std.proofs.Common.{subst, sym, ap, map, ◌∙◌}
use Rattle.chr_value.specs.Atoms.{ground_comp}
use Rattle.chr_value.specs.Slots.{further_slots, all_slots, comps_of, LieInOrder, AreArguments}
use Rattle.chr_value.proofs.ArgumentLaws.{beside-copied}
use Rattle.chr_value.proofs.atom.Atom.become_copy.Goals.{in-None, in_default+in_ok-beside-in_default}
use Rattle.chr_value.proofs.atom.Atom.become_copy.Goals as goal

pub invariant_of-self : goal.invariant_of-self
invariant_of-self g c =
    let f = c.other.inside.front in
    let r = c.other.inside.beside in
    let q = c.match-other.beside in
    elim c.match-other.branch [
      | in-None w ↦ subst (λ b. LieInOrder f b × AreArguments (comps_of b) (all_slots f b)) (w.in-None.is ∙ sym w.beside-is) c.other.invariant
      | in_default+in_ok-beside-in_default w ↦
          let made = w.in_ok-beside-in_default in
          beside-copied f r q c.other.invariant (ap further_slots w.beside-is ∙ made.ensures.slots) (ap (λ b. map ground_comp (comps_of b)) w.beside-is ∙ made.ensures.comps)
    ]
