use Rattle.std.proofs.Common.{MatchBool, sym, ap, ◌∙◌, subst}
use Rattle.chr_value.specs.Stores.{atom_at}
use Rattle.chr_store.specs.Views.{Seen}
use Rattle.chr_search.specs.Trials.{older, IsNext, NoneLeft}
use Rattle.chr_search.specs.Reach.{SearchState}
use Rattle.chr_search.proofs.PlanByPlan.{gone_none}
use Rattle.chr_search.proofs.search.Search.find_to.Goals as goal

pub returns-in_default : goal.returns-in_default
returns-in_default g c = gone_none _ _ (ap (λ (z : SearchState). atom_at c.args.store.now.entries z.label) (sym c.self.view_is) ∙ sym c.in_default.ensures)

pub returns : goal.returns
returns g c =
    let space = λ (v : Seen). older c.args.program.now c.args.plans.now v.store.entries c.args.self.now.label in
    subst (λ (v : Seen). MatchBool c.find_in.result (IsNext (space v) c.args.self.now.place c.find_in.new.found) (NoneLeft (space v) c.args.self.now.place)) c.of-view.ensures c.find_in.ensures
