use Rattle.std.proofs.Common.{◌≡◌, rules, ℤ, sym, ap, ◌∙◌}
use Rattle.chr_value.specs.Atoms.{Int, ground, ground_comp}
use Rattle.chr_value.specs.Slots.{all_slots, comps_of}
use Rattle.chr_value.specs.declared.names.Name.{Name}
use Rattle.chr_value.proofs.Levels.{ground-Int, ground-Sym, ground-Comp}
use Rattle.chr_value.proofs.ArgumentLaws.{Pushed, constant-pushed, compound-pushed, atom-pushed, room-left}
use Rattle.chr_value.proofs.atom.Atom.push.Given.{Over}
use Rattle.chr_value.proofs.atom.Atom.push.Goals as goal
use Rattle.chr_value.proofs.atom.Atom.push.Goals.{Joined-value, in-Int, in-Sym, in-Comp}

pushed : (g : Over) (c : Joined-value g) → Pushed c.match-value.result (comps_of c.self.inside.beside) (comps_of c.match-value.self-inside.beside) (all_slots c.self.inside.front c.self.inside.beside) (all_slots c.match-value.self-inside.front c.match-value.self-inside.beside) (ground c.args.value)
pushed g c =
    let cs = comps_of c.self.inside.beside in
    let ss = all_slots c.self.inside.front c.self.inside.beside in
    let room = room-left cs ss c.self.inside.front.name.number c.args.self.now c.self.view_is c.requires.room in
    elim c.match-value.branch [
      | in-Int w ↦ rw (w.result-is, w.self-inside-is)
          (constant-pushed _ cs _ ss _ _ _ c.self.invariant.1 room tt (ap (λ (z : ℤ). Int z) (search rules) ∙ sym (ap ground w.in-Int.is ∙ ground-Int _ w.in-Int.n)) c.requires.within w.push_constant.ensures.ok w.push_constant.ensures.err w.push_constant.ensures.comps)
      | in-Sym w ↦ rw (w.result-is, w.self-inside-is)
          (constant-pushed _ cs _ ss _ _ _ c.self.invariant.1 room tt (sym (ap ground w.in-Sym.is ∙ ground-Sym _ w.in-Sym.name)) c.requires.within w.push_constant-in-Sym.ensures.ok w.push_constant-in-Sym.ensures.err w.push_constant-in-Sym.ensures.comps)
      | in-Comp w ↦ rw (w.result-is, w.self-inside-is)
          (compound-pushed _ cs _ ss _ w.into_inner.result _ c.self.invariant.1 room (ap ground_comp w.into_inner.ensures ∙ sym (ap ground w.in-Comp.is ∙ ground-Comp w.in-Comp.comp)) c.requires.within w.push_compound.ensures.ok w.push_compound.ensures.err w.push_compound.ensures.comps w.push_compound.ensures.same)
    ]

pub invariant_of-self : goal.invariant_of-self
invariant_of-self g c = (
  elim c.match-value.branch [
    | in-Int w ↦ rw w.self-inside-is w.push_constant.ensures.order
    | in-Sym w ↦ rw w.self-inside-is w.push_constant-in-Sym.ensures.order
    | in-Comp w ↦ rw w.self-inside-is w.push_compound.ensures.order
  ],
  (pushed g c).0,
)

pub returns-clause-ok : goal.returns-clause-ok
returns-clause-ok g c =
    let cs = comps_of c.self.inside.beside in
    let ss = all_slots c.self.inside.front c.self.inside.beside in
    let name : c.match-value.self-inside.front.name.number ≡ c.self.inside.front.name.number = elim c.match-value.branch [
      | in-Int w ↦ ap (λ (i : _). i.front.name.number) w.self-inside-is ∙ ap (λ (n : Name). n.number) w.push_constant.ensures.name
      | in-Sym w ↦ ap (λ (i : _). i.front.name.number) w.self-inside-is ∙ ap (λ (n : Name). n.number) w.push_constant-in-Sym.ensures.name
      | in-Comp w ↦ ap (λ (i : _). i.front.name.number) w.self-inside-is ∙ ap (λ (n : Name). n.number) w.push_compound.ensures.name
    ] in
    atom-pushed _ cs _ ss _ _ _ _ c.args.self.now (pushed g c) name c.self.view_is
