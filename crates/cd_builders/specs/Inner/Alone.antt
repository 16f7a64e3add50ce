-- Questions that ask for what is in one node.
use Rattle.std.specs.Prelude.{◌≡◌, ◌⊎◌, List, [], ◌∷◌}
use Rattle.cd_sets.specs.declared.node_id.NodeId.{NodeId}
use Rattle.cd_sets.specs.declared.question.Question.{Question}
use Rattle.cd_model.specs.BuiltIns.{ANY}

-- the only node of some, where that of everything counts for nothing
abbrev pub IsOnly : List NodeId → NodeId → Type 0
IsOnly ids id = ((ids ≡ []) × (id ≡ ANY)) ⊎ (ids ≡ id ∷ []) ⊎ (ids ≡ ANY ∷ id ∷ [])

abbrev pub AsksAlone : Question → NodeId → Type 0
AsksAlone question id = (question.neg ≡ []) × IsOnly question.pos id
