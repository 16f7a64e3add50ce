-- A graph begins with itself.
use Rattle.std.proofs.Common.{[], sym, append-nil}
use Rattle.cd_model.specs.Formula.{Graph, IsGraph}
use Rattle.cd_typing.specs.Later.{IsLater}

pub later_itself : (graph : Graph) → IsGraph graph → IsLater graph graph
later_itself graph sound = record { more = []; is = sym (append-nil graph); sound = sound }
