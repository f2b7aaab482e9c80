use Rattle.std.proofs.Common.{is_some, sym, subst}
use Rattle.chr_value.specs.Stores.{atom_at}
use Rattle.chr_partners.specs.Partners.{IsIn}
use Rattle.chr_partners.proofs.Listing.{in_filter}
use Rattle.chr_partners.proofs.labels.Labels.count_left.Goals as goal

pub returns : goal.returns
returns g c l i some =
    subst (IsIn l) (sym c.keep_live.ensures) (in_filter (λ l. is_some (atom_at c.args.atoms.now.store l)) l c.self.inside.labels.items (subst (IsIn l) (sym c.self.view_is) i) some)
