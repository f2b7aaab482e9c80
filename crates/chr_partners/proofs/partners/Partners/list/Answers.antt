use Rattle.std.proofs.Common.{◌↔◌, ℕ, List, Bool, subst}
use Rattle.chr_partners.specs.Partners.{ListedStore, IsIn}
use Rattle.chr_partners.specs.Homes.{IsEntered, IsComplete}
use Rattle.chr_partners.proofs.Completing.{has_all, complete_all, holds_listed}
use Rattle.chr_partners.proofs.partners.Partners.list.Goals as goal

pub invariant_of-self-in_err-put : goal.invariant_of-self-in_err-put
invariant_of-self-in_err-put g c =
    let i = c.self.inside in (
      has_all i.atoms i.listed c.put.new.self c.put.ensures.all c.self.invariant.0,
      subst (λ (ps : List Bool). IsComplete i.atoms ps c.make_room.new.homes) c.deref.ensures.value c.make_room.ensures.complete,
    )

pub invariant_of-self-in_err-enter : goal.invariant_of-self-in_err-enter
invariant_of-self-in_err-enter g c =
    let i = c.self.inside in (
      has_all i.atoms i.listed c.put.new.self c.put.ensures.all c.self.invariant.0,
      complete_all i.places.items i.atoms c.make_room.new.homes c.enter.new.homes c.enter.ensures.all
          (subst (λ (ps : List Bool). IsComplete i.atoms ps c.make_room.new.homes) c.deref.ensures.value c.make_room.ensures.complete),
    )

pub invariant_of-self-2 : goal.invariant_of-self-2
invariant_of-self-2 g c =
    let i = c.self.inside in
    let h = c.in-Some.held.now in (
      holds_listed (λ l a. IsIn l c.put.new.self) c.args.label h.atom i.atoms c.set_listed.new.self c.in-Some.ensures.atom
          (subst (λ (n : ℕ). IsIn n c.put.new.self) c.in-Some.ensures.label c.in_ok-put.ensures.put)
          c.set_listed.ensures.store c.set_listed.ensures.others
          (has_all i.atoms i.listed c.put.new.self c.put.ensures.all c.self.invariant.0),
      holds_listed (IsEntered i.places.items c.enter.new.homes) c.args.label h.atom i.atoms c.set_listed.new.self c.in-Some.ensures.atom
          (subst (λ (n : ℕ). IsEntered i.places.items c.enter.new.homes n h.atom) c.in-Some.ensures.label (subst (λ (ps : List Bool). IsEntered ps c.enter.new.homes h.label h.atom) c.deref-2.ensures.value c.in_ok-enter.ensures.entered))
          c.set_listed.ensures.store c.set_listed.ensures.others
          (complete_all i.places.items i.atoms c.make_room.new.homes c.enter.new.homes c.enter.ensures.all
          (subst (λ (ps : List Bool). IsComplete i.atoms ps c.make_room.new.homes) c.deref.ensures.value c.make_room.ensures.complete)),
    )

pub returns-clause-others : goal.returns-clause-others
returns-clause-others g c l d =
    subst (λ (s : ListedStore). IsIn l c.set_listed.new.self.listed ↔ IsIn l s.listed) c.self.view_is (c.set_listed.ensures.others l d)
