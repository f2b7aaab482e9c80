use Rattle.std.proofs.Common.{true≢false, [], sym, subst, ◌∙◌}
use Rattle.chr_search.specs.Trials.{MayFollow}
use Rattle.chr_search.specs.Joined.{join_of}
use Rattle.chr_search.proofs.Partners.{none_at_all}
use Rattle.chr_search.proofs.join.Join.find.Goals as goal

pub returns-then-not-begins : goal.returns-then-not-begins
returns-then-not-begins g c = none_at_all _ _ (λ x m. true≢false (sym (c.begins.ensures.1 (subst (MayFollow (join_of c.args.self.now) []) m.turn m)) ∙ c.if-not-begins.true))
