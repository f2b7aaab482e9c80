use Rattle.std.proofs.Common.{◌∙◌, sym, ap, option_copied}
use Rattle.chr_value.specs.Stores.{atom_at}
use Rattle.chr_store.specs.Views.{Seen, seen_with}
use Rattle.chr_store.proofs.Views.{seen_active, seen_other}
use Rattle.chr_store.proofs.view.View.get.Goals.{in_default-via-in-Some+else-label-self, in_default-via-in_default}
use Rattle.chr_store.proofs.view.View.get.Goals as goal

pub returns-in-Some : goal.returns-in-Some
returns-in-Some g c =
    let i = c.self.inside in
    seen_active i.store.now (option_copied i.fresh) c.in-Some.atom.now i.active c.args.label c.self.invariant (ap option_copied c.in-Some.is) c.if-label-self.true ∙ ap (λ (v : Seen). atom_at v.store.entries c.args.label) c.self.view_is

pub returns-in_default : goal.returns-in_default
returns-in_default g c =
    c.get.ensures
    ∙ (elim c.in_default.branch [
      | in_default-via-in-Some+else-label-self w ↦ seen_other c.self.inside.store.now (option_copied c.self.inside.fresh) c.self.inside.active c.args.label c.self.invariant w.if-label-self.false
      | in_default-via-in_default w ↦ ap (λ r. atom_at (seen_with c.self.inside.store.now (option_copied r)).entries c.args.label) (sym w.in_default.is)
    ])
    ∙ ap (λ (v : Seen). atom_at v.store.entries c.args.label) c.self.view_is
