use Rattle.cd_products.proofs.covered.+covers.Given as goal

-- each call takes a step
abbrev pub decreases-covers : goal.decreases-covers
decreases-covers l = l.steps.now

abbrev pub decreases-all_cover : goal.decreases-all_cover
decreases-all_cover l = l.steps.now

abbrev pub decreases-one_covers : goal.decreases-one_covers
decreases-one_covers l = l.steps.now
