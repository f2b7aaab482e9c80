use Rattle.std.proofs.Common.{refl, sym, ap, ◌∙◌}
use Rattle.chr_value.specs.Stores.{atom_at}
use Rattle.chr_search.specs.Reach.{SearchState}
use Rattle.chr_search.proofs.PlanByPlan.{gone_none}
use Rattle.chr_search.proofs.search.Search.pass_over.Goals as goal

pub returns-in_default-clause-passed : goal.returns-in_default-clause-passed
returns-in_default-clause-passed g c = record {
  after = c.args.self.now.place;
  passes = refl;
  next = gone_none _ _ (ap (λ (z : SearchState). atom_at c.args.store.now.entries z.label) (sym c.self.view_is) ∙ sym c.in_default.ensures);
  stands = refl;
}
