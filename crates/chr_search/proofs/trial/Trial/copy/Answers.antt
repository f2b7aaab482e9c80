use Rattle.std.proofs.Common.{◌≡◌, map, sym, ap, ap₂, subst, ◌∙◌}
use Rattle.std.specs.Arc.{arc_value}
use Rattle.chr_search.specs.Placed.{placed_as}
use Rattle.chr_search.specs.Verdicts.{Trial, IsFormed}
use Rattle.chr_search.proofs.trial.Trial.copy.Goals.{In_ok-try_clone}
use Rattle.chr_search.proofs.trial.Trial.copy.Goals as goal

-- the copy has the same parts
same : (g : _) (c : In_ok-try_clone g) → ◌≡◌ {A = Trial} (record { rule = arc_value c.in_ok-try_clone.field-0; number = c.self.inside.number; head = c.self.inside.head; placed = map placed_as c.in_ok-placed.placed.items }) (record { rule = arc_value c.self.inside.rule; number = c.self.inside.number; head = c.self.inside.head; placed = map placed_as c.self.inside.placed.items })
same g c = ap₂ (λ r ps. record { rule = r; number = c.self.inside.number; head = c.self.inside.head; placed = ps }) c.in_ok-try_clone.ensures (c.in_ok-placed.ensures ∙ ap (map placed_as) c.deref.ensures.value)

pub invariant_of-result : goal.invariant_of-result
invariant_of-result g c = subst IsFormed (sym (same g (goal.at.invariant_of-result g c).In_ok-try_clone)) c.self.invariant

pub returns : goal.returns
returns g c = same g (goal.at.returns g c).In_ok-try_clone ∙ c.self.view_is
