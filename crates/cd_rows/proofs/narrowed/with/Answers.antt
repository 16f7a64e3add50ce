use Rattle.cd_products.proofs.OneMore.{is_with_id}
use Rattle.cd_rows.proofs.narrowed.with.Goals as goal

pub returns : goal.returns
returns c = is_with_id c.args.id _ _ c.knows.ensures c.knows-2.ensures c.in_ok-insert.ensures.added
