use Rattle.std.proofs.Common.{subst, option_copied}
use Rattle.chr_store.specs.Labels.{IsLabelled}
use Rattle.chr_store.specs.Views.{Seen}
use Rattle.chr_store.proofs.Views.{seen_labelled}
use Rattle.chr_store.proofs.view.View.active.Goals as goal

pub returns-clause-labelled : goal.returns-clause-labelled
returns-clause-labelled g c = let i = c.self.inside in subst (λ (v : Seen). IsLabelled v.store) c.self.view_is (seen_labelled i.store.now (option_copied i.fresh) i.active c.self.invariant)
