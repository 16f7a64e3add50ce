use Rattle.cd_needs.proofs.Asked.{is_with_id}
use Rattle.cd_parts.proofs.sets_of.with.Goals as goal

pub returns : goal.returns
returns c = is_with_id c.args.id _ _ c.knows.ensures c.knows-2.ensures c.in_ok-insert.ensures.added
