use Rattle.std.proofs.Common.{◌≡◌, ap, sym, subst, ◌∙◌, ◌++◌, ◌∷◌, [], refl, Some, false, arith}
use Rattle.slab.specs.Slab.{get, Updates}
use Rattle.chr_partners.specs.Partners.{with_atom}
use Rattle.chr_partners.specs.Atoms.{seen_in}
use Rattle.chr_partners.proofs.Holding.{seen_pushed, fresh}
use Rattle.chr_partners.proofs.atoms.Atoms.push.Goals as goal

pub returns-clause-ok : goal.returns-clause-ok
returns-clause-ok g c =
    let i = c.self.inside in
    let slot = c.in-Ok-try_from.slot in
    let key = c.in-Ok-insert.ensures.key in
    let at : slot ≡ c.in-Ok-insert.field-0 = omega (arith, c.in-Ok-try_from.ensures, c.vacant_key.ensures.value, key) in
    ap (seen_in c.insert.new.self) (c.push_reserved.ensures.items ∙ ap (λ xs. xs ++ slot ∷ []) c.reserve.ensures.items)
    ∙ (seen_pushed i.held c.insert.new.self i.slots.items slot (record { label = c.in-Ok.label; listed = false; atom = c.args.atom })
    (subst (λ k. Updates i.held c.insert.new.self k (Some (record { label = c.in-Ok.label; listed = false; atom = c.args.atom }))) (sym at) c.in-Ok-insert.ensures.updates)
    (ap (get i.held) at ∙ c.in-Ok-insert.ensures.was_vacant)
    (omega (arith, c.in-Ok.ensures, c.len.ensures)) refl
    ∙ ap (with_atom c.args.atom) c.self.view_is)

pub returns-clause-fresh : goal.returns-clause-fresh
returns-clause-fresh g c = fresh c.self.inside.held c.self.inside.slots.items c.args.self.now c.self.view_is
