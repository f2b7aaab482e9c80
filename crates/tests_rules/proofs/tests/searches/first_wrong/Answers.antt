use Rattle.tests_rules.proofs.tests.searches.first_wrong.Goals as goal

pub first_other-requires : goal.first_other-requires
first_other-requires c = c.in_ok-plans.ensures
