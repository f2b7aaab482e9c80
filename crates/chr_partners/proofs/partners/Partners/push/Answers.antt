use Rattle.chr_partners.specs.Partners.{IsIn}
use Rattle.chr_partners.specs.Homes.{IsEntered}
use Rattle.chr_partners.proofs.Completing.{holds_after_push}
use Rattle.chr_partners.proofs.partners.Partners.push.Goals as goal

pub invariant_of-self : goal.invariant_of-self
invariant_of-self g c =
    let i = c.self.inside in
    let is = c.push.ensures in (
      holds_after_push (λ l a. IsIn l i.listed) c.push.result i.atoms c.push.new.self c.args.atom is.ok is.unchanged is.fresh c.self.invariant.0,
      holds_after_push (IsEntered i.places.items i.homes) c.push.result i.atoms c.push.new.self c.args.atom is.ok is.unchanged is.fresh c.self.invariant.1,
    )
