use Rattle.chr_partners.specs.Partners.{IsIn}
use Rattle.chr_partners.specs.Homes.{IsEntered}
use Rattle.chr_partners.proofs.Completing.{holds_without, has_left, complete_left}
use Rattle.chr_partners.proofs.partners.Partners.remove.Goals as goal

pub invariant_of-self : goal.invariant_of-self
invariant_of-self g c =
    let i = c.self.inside in (
      holds_without (λ l a. IsIn l i.listed) c.args.label i.atoms c.remove.new.self c.remove.ensures.rest c.self.invariant.0,
      holds_without (IsEntered i.places.items i.homes) c.args.label i.atoms c.remove.new.self c.remove.ensures.rest c.self.invariant.1,
    )

pub invariant_of-self-then-held : goal.invariant_of-self-then-held
invariant_of-self-then-held g c =
    let i = c.self.inside in (
      has_left c.remove.new.self i.listed c.count_left.new.self c.count_left.ensures
          (holds_without (λ l a. IsIn l i.listed) c.args.label i.atoms c.remove.new.self c.remove.ensures.rest c.self.invariant.0),
      complete_left i.places.items c.remove.new.self i.homes c.leave.new.homes c.leave.ensures
          (holds_without (IsEntered i.places.items i.homes) c.args.label i.atoms c.remove.new.self c.remove.ensures.rest c.self.invariant.1),
    )

pub invariant_of-self-else-held : goal.invariant_of-self-else-held
invariant_of-self-else-held g c =
    let i = c.self.inside in (
      holds_without (λ l a. IsIn l i.listed) c.args.label i.atoms c.remove.new.self c.remove.ensures.rest c.self.invariant.0,
      holds_without (IsEntered i.places.items i.homes) c.args.label i.atoms c.remove.new.self c.remove.ensures.rest c.self.invariant.1,
    )
