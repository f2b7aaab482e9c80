use Rattle.std.proofs.Common.{◌≡◌, ◌∙◌, sym, ap, option_copied}
use Rattle.chr_value.specs.Stores.{atom_at}
use Rattle.chr_store.specs.Views.{Seen}
use Rattle.chr_store.proofs.Views.{seen_other}
use Rattle.chr_store.proofs.view.View.older.Given.{Over}
use Rattle.chr_store.proofs.view.View.older.Goals as goal
use Rattle.chr_store.proofs.view.View.older.Goals.{After-self}

-- the store itself has what is seen there
same : (g : Over) (c : After-self g) → atom_at c.self.inside.store.now.entries c.args.label ≡ atom_at c.args.self.now.store.entries c.args.label
same g c =
    let i = c.self.inside in
    seen_other i.store.now (option_copied i.fresh) i.active c.args.label c.self.invariant (λ e. c.requires.older (e ∙ ap (λ (v : Seen). v.active) c.self.view_is))
    ∙ ap (λ (v : Seen). atom_at v.store.entries c.args.label) c.self.view_is

pub atom_of-requires : goal.atom_of-requires
atom_of-requires g c = (c.requires.live.0, same g c ∙ c.requires.live.1)

pub returns : goal.returns
returns g c = sym (same g (goal.at.returns g c).After-self) ∙ c.atom_of.ensures
