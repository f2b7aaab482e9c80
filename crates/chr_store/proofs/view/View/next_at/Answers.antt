use Rattle.std.proofs.Common.{subst, option_copied}
use Rattle.chr_store.specs.Labels.{IsLabelled}
use Rattle.chr_store.specs.Keys.{key_of, IsLeastMatch}
use Rattle.chr_store.specs.Views.{Seen}
use Rattle.chr_store.proofs.Stored.{asked}
use Rattle.chr_store.proofs.Views.{seen_labelled, seen_least}
use Rattle.chr_store.proofs.view.View.next_at.Goals as goal

pub returns-clause-least : goal.returns-clause-least
returns-clause-least g c =
    subst (λ (v : Seen). IsLeastMatch v.store.entries (asked c.args.pred (key_of c.args.key) c.args.after v.active) c.next_at.result) c.self.view_is
    (seen_least c.self.inside.store.now (option_copied c.self.inside.fresh) (asked c.args.pred (key_of c.args.key) c.args.after c.self.inside.active) c.next_at.result c.self.invariant c.next_at.ensures.least)

pub returns-clause-labelled : goal.returns-clause-labelled
returns-clause-labelled g c = let i = c.self.inside in subst (λ (v : Seen). IsLabelled v.store) c.self.view_is (seen_labelled i.store.now (option_copied i.fresh) i.active c.self.invariant)
