-- Items of a sequence that are put before those that follow them, the last one first.
use Rattle.std.specs.Prelude.{◌≡◌, ◌<◌, ◌++◌, ℕ, suc, List, [], ◌∷◌, map, length, Option, Some}
use Rattle.std.specs.Prelude.{None}
use Rattle.cd_sets.specs.declared.node_id.NodeId.{NodeId}
use Rattle.cd_model.specs.Formula.{Graph}
use Rattle.cd_meaning.specs.Sets.{Set, ◌⊆◌, elements_of}
use Rattle.cd_meaning.specs.Sequences.{IsJoinOf}
use Rattle.cd_program.specs.Expr.{Items, NoItem, AnItem, Item, One, Splice, Run, items_of}
use Rattle.cd_typing.specs.Results.{IsSequenceOf}
use Rattle.cd_typing.specs.Typ.{typ}
use Rattle.cd_forms.specs.Inner.Chains.{AreBefore, IsTextBefore}

-- a node of a graph holds exactly the elements of a set
pub record HoldsJust (graph : Graph) (id : NodeId) (set : Set) : Type 0 where
  pub node : id.0 < length graph
  pub has : set ⊆ elements_of graph id
  pub only : elements_of graph id ⊆ set

-- the last part is put before what follows, unless there is none
abbrev pub IsPartPut : (new : Graph) → (before : NodeId → Set) → (parts left : List NodeId)
    → Option NodeId → Type 0
IsPartPut new before parts left None = parts ≡ []
IsPartPut new before parts left (Some id) = (part : NodeId) × (parts ≡ left ++ part ∷ [])
    × HoldsJust new id (before part)

-- an item is put before what is in a node; characters have no part
abbrev pub IsPut : (old new : Graph) → Item → (parts left : List NodeId) → (rest : NodeId)
    → Option NodeId → Type 0
IsPut old new (One e) parts left rest found =
    IsPartPut new (λ part. AreBefore (typ old part ∷ []) (elements_of old rest)) parts left found
IsPut old new (Splice e) parts left rest found =
    IsPartPut new (λ part. IsJoinOf (elements_of old part) (elements_of old rest)) parts left found
IsPut old new (Run text) parts left rest None = ⊥
IsPut old new (Run text) parts left rest (Some id) = (left ≡ parts)
    × HoldsJust new id (IsTextBefore text (elements_of old rest))

-- how many parts items have
abbrev pub wanted : Items → ℕ
wanted NoItem = 0
wanted (AnItem (One e) rest) = suc (wanted rest)
wanted (AnItem (Splice e) rest) = suc (wanted rest)
wanted (AnItem (Run text) rest) = wanted rest

-- all items are put, with the last parts, unless there are too few
abbrev pub ArePut : (old new : Graph) → List Item → (parts left : List NodeId) → Option NodeId
    → Type 0
ArePut old new items parts left None = length parts < wanted (items_of items)
ArePut old new items parts left (Some id) = (put : List NodeId) × (parts ≡ left ++ put)
    × (wanted (items_of items) ≡ length put)
    × HoldsJust new id (IsSequenceOf (items_of items) (map (typ old) put))

-- the node of a whole sequence, where no part is left
abbrev pub whole : Option NodeId → (left : List NodeId) → (nothing : NodeId) → NodeId
whole None left nothing = nothing
whole (Some id) [] nothing = id
whole (Some id) (part ∷ left) nothing = nothing
