-- The sides of a test.
use Rattle.std.specs.Prelude.{◌≡◌, ◌⊎◌, Bool, true, false, Option, Some, None}
use Rattle.cd_sets.specs.declared.node_id.NodeId.{NodeId}
use Rattle.cd_model.specs.Formula.{Graph}
use Rattle.cd_model.specs.Thing.{Thing, IsElement}
use Rattle.cd_program.specs.declared.operator.Op.{Op}
use Rattle.cd_program.specs.declared.operator.Op.TheVariants as op
use Rattle.cd_meaning.specs.Sets.{Set, ◌⊆◌, elements_of}
use Rattle.cd_check.specs.declared.base.Base.{Base}

-- the operator whose second operand is met where the first has this value
abbrev pub short_op : Bool → Op
short_op true = op.And
short_op false = op.Or

-- an operator whose second operand is always met
abbrev pub IsMet : Op → Type 0
IsMet op.And = ⊥
IsMet op.Or = ⊥
IsMet is = Unit {0}

abbrev pub truth_node : Base → Bool → NodeId
truth_node base true = base.yes
truth_node base false = base.no

-- no element is in both
abbrev pub AreDisjoint : Set → Set → Type 0
AreDisjoint one other = (e : Thing) → IsElement e → one e → other e → ⊥

-- some element is
abbrev pub AreTogether : Set → Set → Type 0
AreTogether one other = (e : Thing) × IsElement e × one e × other e

abbrev pub IfSome : Option NodeId → (NodeId → Type 0) → Type 0
IfSome None fact = Unit {0}
IfSome (Some id) fact = fact id

-- what is in a node that is there is in the other one
abbrev pub HoldsSome : (old new : Graph) → Option NodeId → NodeId → Type 0
HoldsSome old new None id = Unit {0}
HoldsSome old new (Some other) id = elements_of old other ⊆ elements_of new id

-- what is in a node that is there
abbrev pub IsInSome : Graph → Option NodeId → Set
IsInSome graph None e = ⊥
IsInSome graph (Some id) e = elements_of graph id e

abbrev pub IsInEither : Graph → (one other : Option NodeId) → Set
IsInEither graph one other e = IsInSome graph one e ⊎ IsInSome graph other e

-- what is tested may have the value of a node, or no element is in both
abbrev pub MaySkip : Graph → (tested value : NodeId) → Option NodeId → Type 0
MaySkip graph tested value None = AreDisjoint (elements_of graph tested) (elements_of graph value)
MaySkip graph tested value (Some id) = id ≡ value
