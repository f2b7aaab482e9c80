use Rattle.std.proofs.Common.{List, Bool, ap, sym, subst, ◌∙◌}
use Rattle.chr_value.specs.Atoms.{said}
use Rattle.chr_partners.specs.Partners.{ListedStore, IsIn, IsListed}
use Rattle.chr_partners.specs.Hashes.{hash}
use Rattle.chr_partners.specs.Homes.{labels_at, is_kept}
use Rattle.chr_partners.proofs.Completing.{keyed}
use Rattle.chr_partners.proofs.partners.Partners.candidates_at.Goals as goal

pub returns : goal.returns
returns g c l a listed is at =
    let i = c.self.inside in
    subst (IsIn l) (sym (c.labels_at.ensures ∙ ap (labels_at i.homes) (c.hash.ensures ∙ ap (hash c.args.name.number c.args.place) c.value_word.ensures)))
    (keyed i.places.items i.atoms i.homes c.self.invariant.1 c.args.name.number l a (subst (λ (s : ListedStore). IsListed s l a) (sym c.self.view_is) listed) is c.args.place (said c.args.value.now) at
    (c.if-not-is_kept.ensures ∙ ap (λ (ps : List Bool). is_kept ps c.args.name.number c.args.place) c.deref.ensures.value))
