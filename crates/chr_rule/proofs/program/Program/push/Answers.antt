use Rattle.std.proofs.Common.{◌≡◌, ◌+◌, ◌++◌, ◌∷◌, [], map, sym, ap, ◌∙◌, rules}
use Rattle.std.proofs.lemmas.List.{map_push, length-map}
use Rattle.std.specs.Arc.{arc_value}
use Rattle.chr_rule.specs.Scope.{IsRule}
use Rattle.chr_rule.proofs.Index.{index_kept, index_pushed, few_pushed, numbers_within}
use Rattle.chr_rule.proofs.Places.{all_push}
use Rattle.chr_rule.proofs.program.Program.push.Goals as goal

pub invariant_of-self : goal.invariant_of-self
invariant_of-self g c = rw (c.reserve.ensures.items) c.self.invariant

pub invariant_of-self-in_err-reserve-2 : goal.invariant_of-self-in_err-reserve-2
invariant_of-self-in_err-reserve-2 g c =
    let kept = index_kept (map arc_value c.self.inside.rules.items) _ _ c.reserve-2.ensures.keeps.rows c.self.invariant.2 in
    rw c.reserve.ensures.items (c.self.invariant.0, c.self.invariant.1, kept)

pub invariant_of-self-2 : goal.invariant_of-self-2
invariant_of-self-2 g c =
    let xs = c.self.inside.rules.items in
    let items : c.push_reserved.new.self.items ≡ c.self.inside.rules.items ++ c.args.rule ∷ [] = c.push_reserved.ensures.items ∙ ap (λ ys. ys ++ c.args.rule ∷ []) c.reserve.ensures.items in
    let pushed = ap (map arc_value) items ∙ map_push arc_value xs c.args.rule in
    let number = ap (λ n. n + 1) ((search rules) ∙ sym (length-map xs arc_value)) in
    let kept = index_kept (map arc_value xs) _ _ c.reserve-2.ensures.keeps.rows c.self.invariant.2 in (
      few_pushed arc_value xs _ c.args.rule c.args.self.now items c.self.view_is c.requires,
      rw pushed (all_push IsRule (map arc_value xs) (arc_value c.args.rule) c.self.invariant.1 (rw c.deref-3.ensures at c.variables-variables.ensures.valid)),
      rw pushed (index_pushed (map arc_value xs) _ _ (arc_value c.args.rule) (c.len.result + 1) number kept (rw c.deref-2.ensures at c.add_rule.ensures)),
    )

pub add_rule-requires-clause-last : goal.add_rule-requires-clause-last
add_rule-requires-clause-last g c =
    let kept = index_kept (map arc_value c.self.inside.rules.items) _ _ c.reserve-2.ensures.keeps.rows c.self.invariant.2 in
    numbers_within (map arc_value c.self.inside.rules.items) _ (c.len.result + 1) (ap (λ n. n + 1) ((search rules) ∙ sym (length-map c.self.inside.rules.items arc_value))) kept
