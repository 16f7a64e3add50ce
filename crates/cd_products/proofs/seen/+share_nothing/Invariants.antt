use Rattle.cd_products.proofs.seen.+share_nothing.Given as goal

-- so many are compared still
abbrev pub decreases-share_nothing : goal.decreases-share_nothing
decreases-share_nothing l = l.most
