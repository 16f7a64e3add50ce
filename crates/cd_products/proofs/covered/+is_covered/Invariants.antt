use Rattle.cd_products.proofs.covered.+is_covered.Given as goal

-- each call takes a step
abbrev pub decreases-is_covered : goal.decreases-is_covered
decreases-is_covered l = l.steps.now

abbrev pub decreases-one_is_covered : goal.decreases-one_is_covered
decreases-one_is_covered l = l.steps.now

abbrev pub decreases-all_are_covered : goal.decreases-all_are_covered
decreases-all_are_covered l = l.steps.now
