use Rattle.std.proofs.Common.{sym, subst, ◌∙◌}
use Rattle.chr_search.specs.Joined.{join_of}
use Rattle.chr_search.specs.Fronts.{IsFront}
use Rattle.chr_search.specs.Partners.{IsPartnerFrom}
use Rattle.chr_search.proofs.Asking.{partner_from}
use Rattle.chr_search.proofs.Fronts.{end_from}
use Rattle.chr_search.proofs.front.Front.next.Goals as goal

pub returns : goal.returns
returns g c = λ s r h ls f. (
  end_from s r h (join_of c.args.self.now.join) ls c.args.from c.next_after.result f.join f.grows
      (subst (λ xs. IsPartnerFrom (join_of c.args.self.now.join) xs c.args.from c.next_after.result) (c.as_slice-labels.ensures.value ∙ f.labels)
      (partner_from (join_of c.args.self.now.join) _ c.active-given.ensures.labelled.given _ c.args.from c.saturating_sub-after.result c.saturating_sub-after.ensures c.next_after.result c.next_after.ensures.least)),
  subst (λ level. IsFront s r h ls (record { join = c.args.self.now.join; labels = c.args.self.now.labels; binding = c.args.self.now.binding; level = level; head = c.args.self.now.head })) (sym c.next_after.ensures.same) f,
)
