use Rattle.std.proofs.Common.{ap, sym, subst, ◌∙◌}
use Rattle.chr_partners.specs.Partners.{ListedStore, IsIn, IsListed}
use Rattle.chr_partners.specs.Homes.{labels_at}
use Rattle.chr_partners.proofs.Completing.{named}
use Rattle.chr_partners.proofs.partners.Partners.candidates.Goals as goal

pub returns : goal.returns
returns g c l a listed is =
    let i = c.self.inside in
    subst (IsIn l) (sym (c.labels_at.ensures ∙ ap (labels_at i.homes) c.hash.ensures))
    (named i.places.items i.atoms i.homes c.self.invariant.1 c.args.name.number l a (subst (λ (s : ListedStore). IsListed s l a) (sym c.self.view_is) listed) is)
