-- What is so of each number that a set holds is so of each number in its list.
use Rattle.std.proofs.Common.{◌≡◌, true, List, [], ◌∷◌, arith}
use Rattle.cd_sets.specs.declared.node_id.NodeId.{NodeId}
use Rattle.cd_sets.specs.IdSet.{holds}
use Rattle.cd_model.specs.AllOf.{AllOf}

holds_first : (id : NodeId) (ids : List NodeId) → holds (id ∷ ids) id ≡ true
holds_first id ids = grind arith

holds_later : (id one : NodeId) (ids : List NodeId) → holds ids one ≡ true → holds (id ∷ ids) one ≡ true
holds_later id one ids later = grind arith

pub each_member : (fact : NodeId → Type 0) (ids : List NodeId) → ((id : NodeId) → holds ids id ≡ true → fact id)
    → AllOf fact ids
each_member fact [] members = tt
each_member fact (id ∷ ids) members =
    (members id (holds_first id ids), each_member fact ids (λ one later. members one (holds_later id one ids later)))
