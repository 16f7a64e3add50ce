-- A document is in a node as it is in the type that the node stands for.
use Rattle.std.proofs.Common.{Bool, []}
use Rattle.cd_sets.specs.declared.node_id.NodeId.{NodeId}
use Rattle.cd_model.specs.Formula.{Graph, nodes}
use Rattle.cd_model.specs.Interfaces.{Interfaces, OfWritten, admits, value_in_node}
use Rattle.cd_model.specs.StandsFor.{StandsFor}
use Rattle.cd_model.specs.Thing.{Thing}
use Rattle.cd_model.specs.Written.{Written, in_written}
use Rattle.cd_model.proofs.NoClosure.{data_same}
use Rattle.cd_safety.specs.SafeProgram.{IsDocument}

-- the interfaces of no functions
no_functions : Interfaces
no_functions = OfWritten 0 (λ at. [])

pub in_type : (graph : Graph) (id : NodeId) (type : Written) (v : Thing) → IsDocument v → StandsFor graph id type → (answer : Bool)
    → ((interfaces : Interfaces) → value_in_node graph interfaces v id answer) → in_written v type answer
in_type graph id type v is stands answer inside =
    (stands.elements v answer is.element).0 ((data_same (nodes graph) (admits no_functions) v id answer is.plain).0 (inside no_functions))
