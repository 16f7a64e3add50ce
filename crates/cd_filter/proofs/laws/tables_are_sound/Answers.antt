use Rattle.std.specs.Prelude.{◌<◌, length}
use Rattle.cd_model.specs.Formula.{in_node}
use Rattle.cd_model.specs.Thing.{IsElement}
use Rattle.cd_products.proofs.Decided.{elements_apart}
use Rattle.cd_filter.proofs.Capturing.{caught_is_captured}
use Rattle.cd_filter.proofs.laws.tables_are_sound.Goals as goal

pub returns : goal.returns
returns c graph test nodes accepts variables =
    caught_is_captured (in_node graph) IsElement (λ d e one other. (one, other))
    (elements_apart graph) test nodes accepts variables (λ type. type.0 < length graph)
