use Rattle.std.proofs.Common.{◌≡◌, ◌+◌, ◌-◌, ℕ, Option, Some, None, IfSome, subst, arith}
use Rattle.chr_index.specs.Buckets.{IsLeastBetween}
use Rattle.chr_search.specs.Joined.{join_of}
use Rattle.chr_search.specs.Partners.{GivePartners, IsPartnerFrom}
use Rattle.chr_search.proofs.join.Join.next_atom_after.Goals.{After-next_at}
use Rattle.chr_search.proofs.join.Join.next_atom_after.Goals as goal

-- what is found among the partners may be tried
partner : (g : _) (c : After-next_at g) (found : Option ℕ) → IsLeastBetween c.in-Some.partners c.args.after c.active.result found → IsPartnerFrom (join_of c.args.self.now) c.args.labels.now (c.args.after + 1) found
partner g c found least =
    let give = subst (λ o. IfSome o (GivePartners (join_of c.args.self.now) c.args.labels.now)) c.in-Some.is c.requires.level.partners in
    let below = subst (λ b. IsLeastBetween c.in-Some.partners c.args.after b found) c.active.ensures.value least in
    let before : c.args.after ≡ c.args.after + 1 - 1 = omega arith in
    give (c.args.after + 1) found (subst (λ a. IsLeastBetween c.in-Some.partners a c.args.self.now.view.active found) before below)

pub returns-in_err-label-in-Some-clause-least : goal.returns-in_err-label-in-Some-clause-least
returns-in_err-label-in-Some-clause-least g c =
    rw c.from_residual.ensures (partner g (goal.at.returns-in_err-label-in-Some-clause-least g c).After-next_at None c.in_err-label-in-Some.ensures.least)

pub older-requires-clause-live : goal.older-requires-clause-live
older-requires-clause-live g c =
    let found = partner g (goal.at.older-requires-clause-live g c).After-next_at (Some c.in_ok-label-in-Some.label) c.in_ok-label-in-Some.ensures.least in
    (found.holds.atom, found.holds.live)

pub returns-in_ok-label-in-Some-clause-least : goal.returns-in_ok-label-in-Some-clause-least
returns-in_ok-label-in-Some-clause-least g c =
    partner g (goal.at.returns-in_ok-label-in-Some-clause-least g c).After-next_at (Some c.in_ok-label-in-Some.label) c.in_ok-label-in-Some.ensures.least
