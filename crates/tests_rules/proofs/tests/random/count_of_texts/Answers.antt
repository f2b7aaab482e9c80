use Rattle.tests_rules.proofs.tests.random.count_of_texts.Goals as goal

pub count_reached-requires : goal.count_reached-requires
count_reached-requires c = c.in_ok-plans.ensures
