use Rattle.cd_products.proofs.likely.+is_likely.Given as goal

-- each call takes a step
abbrev pub decreases-is_node_likely : goal.decreases-is_node_likely
decreases-is_node_likely l = l.steps.now

abbrev pub decreases-is_likely : goal.decreases-is_likely
decreases-is_likely l = l.steps.now

abbrev pub decreases-one_is_likely : goal.decreases-one_is_likely
decreases-one_is_likely l = l.steps.now

abbrev pub decreases-all_are_likely : goal.decreases-all_are_likely
decreases-all_are_likely l = l.steps.now

abbrev pub decreases-is_likely_in : goal.decreases-is_likely_in
decreases-is_likely_in l = l.steps.now

abbrev pub decreases-is_likely_in_all : goal.decreases-is_likely_in_all
decreases-is_likely_in_all l = l.steps.now

abbrev pub decreases-is_likely_in_one : goal.decreases-is_likely_in_one
decreases-is_likely_in_one l = l.steps.now

abbrev pub decreases-are_parts_likely : goal.decreases-are_parts_likely
decreases-are_parts_likely l = l.steps.now
