use Rattle.std.proofs.Common.{◌≡◌, ◌+◌, ◌-◌, IfSome, subst, arith}
use Rattle.chr_index.specs.Buckets.{IsLeastBetween}
use Rattle.chr_search.specs.Joined.{join_of}
use Rattle.chr_search.specs.Partners.{GivePartners}
use Rattle.chr_search.proofs.join.Join.next_after.Goals as goal

pub returns-in-Some-clause-least : goal.returns-in-Some-clause-least
returns-in-Some-clause-least g c =
    let give = subst (λ o. IfSome o (GivePartners (join_of c.args.self.now) c.args.labels.now)) c.in-Some.is c.requires.level.partners in
    let least = subst (λ b. IsLeastBetween c.in-Some.partners c.args.after b c.next_at.result) c.active.ensures.value c.next_at.ensures.least in
    let before : c.args.after ≡ c.args.after + 1 - 1 = omega arith in
    give (c.args.after + 1) c.next_at.result (subst (λ a. IsLeastBetween c.in-Some.partners a c.args.self.now.view.active c.next_at.result) before least)
