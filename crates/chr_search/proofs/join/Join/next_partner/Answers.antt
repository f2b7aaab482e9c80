use Rattle.std.proofs.Common.{refl, sym, subst}
use Rattle.chr_search.specs.Joined.{join_of}
use Rattle.chr_search.specs.Partners.{IsPartnerFrom}
use Rattle.chr_search.proofs.Partners.{least_partner}
use Rattle.chr_search.proofs.Asking.{asked}
use Rattle.chr_search.proofs.join.Join.next_partner.Goals as goal

pub returns-in_err-asked : goal.returns-in_err-asked
returns-in_err-asked g c = subst (IsPartnerFrom (join_of c.args.self.now) c.args.labels.now c.args.from) (sym c.from_residual.ensures) (λ x m low. c.in_err-asked.ensures x m)

pub returns : goal.returns
returns g c =
    least_partner (join_of c.args.self.now) _ _ c.args.from _
    (asked (join_of c.args.self.now) _ _ c.args.from c.in_ok-asked.asked _ c.saturating_sub-after.result _ c.requires.some c.requires.ready c.in_ok-asked.ensures refl c.saturating_sub-after.ensures c.next_at.ensures.labelled.given)
    c.next_at.result c.next_at.ensures.least
