use Rattle.chr_search.proofs.After.{gone_after}
use Rattle.chr_search.proofs.search.Search.go_after.Goals as goal

pub returns-clause-place : goal.returns-clause-place
returns-clause-place g c = gone_after _ c.args.trial.now c.become_after.new.self c.requires c.rules-rules.ensures.valid c.become_after.ensures.most c.become_after.ensures.fewer
