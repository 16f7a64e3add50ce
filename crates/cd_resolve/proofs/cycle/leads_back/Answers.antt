use Rattle.std.proofs.Common.{map, is_some, sym, ap, ◌∙◌}
use Rattle.cd_resolve.specs.Inner.PlainFound.{plain_id, plain_link}
use Rattle.cd_resolve.proofs.Falling.{with_rank_not_cyclic}
use Rattle.cd_resolve.proofs.cycle.leads_back.Goals as goal

-- a name with a rank does not lead back to itself
pub returns-then-is_some : goal.returns-then-is_some
returns-then-is_some c =
    sym (with_rank_not_cyclic c.args.ranks.now (map plain_link c.args.links.now) (plain_id c.args.id.now)
    c.requires (ap is_some (sym c.rank.ensures) ∙ sym c.is_some.ensures ∙ c.if-is_some.true))
