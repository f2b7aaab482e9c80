use Rattle.std.proofs.Common.{sym, ◌∙◌, ap, List}
use Rattle.std.specs.List.{list_any}
use Rattle.chr_plan.specs.Places.{Place, same_place}
use Rattle.chr_plan.proofs.Once.{once_has, once_lacks}
use Rattle.chr_plan.proofs.places.add_place.Goals as goal

pub returns-then-is_among : goal.returns-then-is_among
returns-then-is_among g c = λ met e. once_has (c.args.pred, c.args.place) met c.args.places.now.items (ap (λ (z : List Place). list_any (λ p. same_place p (c.args.pred, c.args.place)) z) (sym c.deref.ensures.value) ∙ sym c.is_among.ensures ∙ c.if-is_among.true) e

pub returns : goal.returns
returns g c = λ met e. c.in_ok-push.ensures.items ∙ once_lacks (c.args.pred, c.args.place) met c.args.places.now.items (ap (λ (z : List Place). list_any (λ p. same_place p (c.args.pred, c.args.place)) z) (sym c.deref.ensures.value) ∙ sym c.is_among.ensures ∙ c.if-is_among.false) e
