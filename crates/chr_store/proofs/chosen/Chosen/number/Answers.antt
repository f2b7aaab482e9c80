use Rattle.std.proofs.Common.{ℕ, List, Option, sym, ap, ◌∙◌, arith}
use Rattle.chr_store.specs.Index.{Places, number_of}
use Rattle.chr_store.specs.Marks.{mark_at}
use Rattle.chr_store.proofs.Marks.{first_numbered}
use Rattle.chr_store.proofs.chosen.Chosen.number.Goals as goal

pub returns-in-None : goal.returns-in-None
returns-in-None g c =
    sym c.in-None.is ∙ c.mark_at.ensures ∙ ap (λ (ms : List (Option ℕ)). mark_at ms c.in-Some.index) c.deref-2.ensures.value ∙ c.self.invariant c.args.pred c.args.place c.in-Some.index c.in-Some.ensures
    ∙ first_numbered c.self.inside.places.items c.args.pred c.args.place (omega arith) ∙ ap (λ (z : Places). number_of z c.args.pred c.args.place) c.self.view_is

pub returns-in-Some-mark_at : goal.returns-in-Some-mark_at
returns-in-Some-mark_at g c =
    sym c.in-Some-mark_at.is ∙ c.mark_at.ensures ∙ ap (λ (ms : List (Option ℕ)). mark_at ms c.in-Some.index) c.deref-2.ensures.value ∙ c.self.invariant c.args.pred c.args.place c.in-Some.index c.in-Some.ensures
    ∙ first_numbered c.self.inside.places.items c.args.pred c.args.place (omega arith) ∙ ap (λ (z : Places). number_of z c.args.pred c.args.place) c.self.view_is
