use Rattle.std.proofs.Common.{◌≡◌, ℕ, false, List, Option, sym, ap, subst, ◌∙◌}
use Rattle.chr_store.specs.Index.{Places, chosen}
use Rattle.chr_store.specs.Marks.{mark_at}
use Rattle.chr_store.proofs.Marks.{none_chosen, some_not}
use Rattle.chr_store.proofs.chosen.Chosen.may_have.Goals as goal

pub returns-in-Some : goal.returns-in-Some
returns-in-Some g c = λ none place over.
    let mark = c.mark_at.ensures ∙ ap (λ (ms : List (Option ℕ)). mark_at ms c.in-Some.index) c.deref.ensures.value ∙ c.self.invariant c.args.pred 0 c.in-Some.index c.in-Some.ensures in
    subst (λ (z : Places). chosen z c.args.pred place ≡ false) c.self.view_is (none_chosen c.self.inside.places.items c.args.pred (sym mark ∙ some_not c.mark_at.result (sym c.is_some.ensures ∙ none)) place over)
