use Rattle.std.proofs.Common.{subst, ap, ◌∙◌}
use Rattle.chr_rule.specs.Rules.{Compared}
use Rattle.chr_rule.specs.Parts.{expression, comparison}
use Rattle.chr_guard.specs.Values.{Holds}
use Rattle.chr_guard.specs.Bindings.{bound_at}
use Rattle.chr_guard.proofs.Valued.{holds_bound}
use Rattle.chr_guard.proofs.values.holds.Goals as goal
use Rattle.chr_guard.proofs.values.holds.Goals.{in-Numbers+then-are_bound, in-Numbers+else-are_bound, in_default}

pub returns-else-ready : goal.returns-else-ready
returns-else-ready g c =
    let binding = c.args.binding.now in (
      λ ready. absurd (cc),
      λ holds.
          elim c.match-test.branch [
            | in-Numbers+then-are_bound w ↦
                let sides = holds_bound binding (Compared w.in-Numbers.field-0 (expression w.in-Numbers.a) (expression w.in-Numbers.b)) (subst (Holds (bound_at binding)) (ap comparison w.in-Numbers.is) holds) in
                w.ready-is ∙ w.are_bound-then-are_bound.ensures.1 sides.1
            | in-Numbers+else-are_bound w ↦
                let sides = holds_bound binding (Compared w.in-Numbers.field-0 (expression w.in-Numbers.a) (expression w.in-Numbers.b)) (subst (Holds (bound_at binding)) (ap comparison w.in-Numbers.is) holds) in
                w.ready-is ∙ w.are_bound.ensures.1 sides.0
            | in_default w ↦ w.ready-is
          ],
    )
