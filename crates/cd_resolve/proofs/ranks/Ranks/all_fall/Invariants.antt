use Rattle.std.proofs.Common.{◌≡◌, map, drop}
use Rattle.cd_resolve.specs.Inner.Ranks.{all_fall}
use Rattle.cd_resolve.specs.Inner.PlainFound.{plain_link}
use Rattle.cd_resolve.proofs.ranks.Ranks.all_fall.Given as goal

abbrev pub invariant-loop-link : goal.invariant-loop-link
invariant-loop-link l = all_fall l.self (map plain_link (drop l.link-index l.links))
    ≡ all_fall l.self (map plain_link l.links)
