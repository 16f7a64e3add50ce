-- Questions about one node.
use Rattle.std.specs.Prelude.{◌≡◌, ◌↔◌, Bool, true, [], ◌∷◌}
use Rattle.cd_sets.specs.declared.node_id.NodeId.{NodeId}
use Rattle.cd_sets.specs.declared.question.Question.{Question}
use Rattle.cd_model.specs.Formula.{Graph, in_node, asked}
use Rattle.cd_matching.specs.Sequences.{nil}

-- what is in a node is asked
abbrev pub asking : NodeId → Question
asking id = record { pos = id ∷ []; neg = [] }

-- whether the empty sequence is in a question
abbrev pub HasNil : Graph → Question → Bool → Type 0
HasNil graph question answer = (answer ≡ true) ↔ asked (in_node graph nil) question true
