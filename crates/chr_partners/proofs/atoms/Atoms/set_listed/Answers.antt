use Rattle.std.proofs.Common.{ap, sym, subst, ◌∙◌}
use Rattle.chr_partners.specs.Atoms.{held_at, IsSlotOf}
use Rattle.chr_partners.proofs.Holding.{absent, set_store, set_listed, set_others}
use Rattle.chr_partners.proofs.atoms.Atoms.set_listed.Goals as goal

pub returns-in_default-clause-listed : goal.returns-in_default-clause-listed
returns-in_default-clause-listed g c =
    let i = c.self.inside in
    let none = absent i.held i.slots.items c.args.self.now c.self.view_is c.args.label (ap (λ xs. held_at i.held xs c.args.label) (sym c.deref.ensures.value) ∙ c.in_default.ensures) in
    λ a e. absurd (cc)

pub returns-clause-store : goal.returns-clause-store
returns-clause-store g c =
    let i = c.self.inside in
    let at = subst (λ xs. IsSlotOf i.held xs c.args.label c.in-Some.slot) c.deref.ensures.value c.in-Some.ensures in
    set_store i.held i.slots.items c.args.self.now c.self.view_is c.args.label c.in-Some.slot at c.index_mut.result.now c.index_mut.ensures.value

pub returns-clause-listed : goal.returns-clause-listed
returns-clause-listed g c a e =
    let i = c.self.inside in
    let at = subst (λ xs. IsSlotOf i.held xs c.args.label c.in-Some.slot) c.deref.ensures.value c.in-Some.ensures in
    set_listed i.held i.slots.items c.args.self.now c.self.view_is c.args.label c.in-Some.slot at c.index_mut.result.now c.index_mut.ensures.value

pub returns-clause-others : goal.returns-clause-others
returns-clause-others g c =
    let i = c.self.inside in
    let at = subst (λ xs. IsSlotOf i.held xs c.args.label c.in-Some.slot) c.deref.ensures.value c.in-Some.ensures in
    set_others i.held i.slots.items c.args.self.now c.self.view_is c.args.label c.in-Some.slot at c.index_mut.result.now c.index_mut.ensures.value
