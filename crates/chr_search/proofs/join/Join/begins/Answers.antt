use Rattle.std.proofs.Common.{ap, ◌∙◌, ◌≡◌, Some, sym, subst}
use Rattle.chr_value.specs.Stores.{atom_at}
use Rattle.chr_rule.specs.Parts.{shape}
use Rattle.chr_rule.specs.Rules.{head_at}
use Rattle.chr_search.specs.Joined.{join_of}
use Rattle.chr_search.proofs.Asking.{begins_if, begins_pred, pred_decides}
use Rattle.chr_search.proofs.join.Join.begins.Goals as goal

pub returns-in-Some-get : goal.returns-in-Some-get
returns-in-Some-get g c =
    let head = shape c.in-Some-head.head.now in
    let is : head_at c.args.self.now.rule.now c.in-Some.step.now.head ≡ Some head = subst (λ n. head_at c.args.self.now.rule.now n ≡ Some head) c.from.ensures (sym c.in-Some-head.ensures.head) in
    let live = ap (atom_at c.args.self.now.view.store.entries) (sym c.active.ensures.value) ∙ sym c.in-Some-get.ensures in
    let decides = pred_decides c.eq.result c.pred.result c.pred_of.result head c.in-Some-get.atom.now c.eq.ensures c.pred.ensures.name c.pred.ensures.arity c.pred_of.ensures.name c.pred_of.ensures.arity in (
      λ t. begins_if (join_of c.args.self.now) c.requires _ _ _ (sym c.in-Some.ensures.value) is live (decides.0 t),
      λ m. decides.1 (begins_pred (join_of c.args.self.now) _ _ _ (sym c.in-Some.ensures.value) is live m),
    )
