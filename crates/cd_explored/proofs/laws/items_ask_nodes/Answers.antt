use Rattle.cd_explored.proofs.GatheredItems.{items_ask}
use Rattle.cd_explored.proofs.laws.items_ask_nodes.Goals as goal

pub returns : goal.returns
returns c graph kernel accepts root table place next variable item explored =
    items_ask graph kernel accepts root table explored place next variable item
