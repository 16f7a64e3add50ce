-- Pairs in a row: things of some nodes, one of each, and then a thing of a last one.
use Rattle.std.specs.Prelude.{◌≡◌, ◌+◌, ℕ, List, [], ◌∷◌, map}
use Rattle.cd_sets.specs.declared.node_id.NodeId.{NodeId}
use Rattle.cd_model.specs.BuiltIns.{node}
use Rattle.cd_model.specs.Formula.{Formula, Pair}
use Rattle.cd_model.specs.Thing.{Thing, Character, IsElement}
use Rattle.cd_meaning.specs.Sets.{Set}
use Rattle.cd_meaning.specs.Sequences.{followed_by}
use Rattle.cd_typing.specs.Typ.{Typ, AreIn}

-- elements of these types, one of each, and then an element of the set
abbrev pub AreBefore : List Typ → Set → Set
AreBefore types last e = (ds : List Thing) × (end : Thing) × AreIn types ds × IsElement end
    × last end × (e ≡ followed_by ds end)

-- these characters, and then a thing of the set
abbrev pub IsTextBefore : List ℕ → Set → Set
IsTextBefore text last e = (end : Thing) × last end
    × (e ≡ followed_by (map Character text) end)

-- where pairs that are put in from this number on begin, if there are any
abbrev pub begin : (first : ℕ) → List NodeId → (end : NodeId) → NodeId
begin first [] end = end
begin first (head ∷ heads) end = node first

-- the formulas of these pairs
abbrev pub chain_from : (first : ℕ) → List NodeId → (end : NodeId) → List Formula
chain_from first [] end = []
chain_from first (head ∷ heads) end =
    Pair head (begin (first + 1) heads end) ∷ chain_from (first + 1) heads end
