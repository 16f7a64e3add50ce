-- The types of the variables of a pattern, before those that were seen outside.
use Rattle.std.proofs.Common.{◌≡◌, [], ◌∷◌, ◌++◌, Some, refl}
use Rattle.cd_sets.specs.declared.node_id.NodeId.{NodeId}
use Rattle.cd_syntax.specs.TypeTree.{Tree}
use Rattle.cd_model.specs.BuiltIns.{built_ins}
use Rattle.cd_model.specs.Formula.{Graph, IsGraph}
use Rattle.cd_model.specs.Scope.{Scope}
use Rattle.cd_program.specs.Expr.{Expr}
use Rattle.cd_meaning.specs.Sets.{Set, elements_of}
use Rattle.cd_typing.specs.Typ.{Types, AreTypes}
use Rattle.cd_typing.specs.Branches.{HoldCaptured}
use Rattle.cd_typing.specs.Typing.{Has}
use Rattle.cd_typing.proofs.Subsets.{itself}
use Rattle.cd_coming.specs.CapturedTypes.{types_of}
use Rattle.cd_check.specs.Inner.Environment.{Nodes, AreOfTypes, AreNodesOf, Gives}
use Rattle.cd_typing.specs.Later.{IsLater}
use Rattle.cd_check.specs.Inner.Bodies.{BodyGives}
use Rattle.cd_check.proofs.TypesLater.{types_later}

pub own_of_types : (graph : Graph) (own nodes : Nodes) (types : Types) → AreOfTypes graph nodes types
    → AreOfTypes graph (own ++ nodes) (types_of graph own ++ types)
own_of_types graph [] nodes types of = of
own_of_types graph (one ∷ own) nodes types of = (
  refl,
  record { within = itself (elements_of graph one.1); whole = itself (elements_of graph one.1) },
  own_of_types graph own nodes types of,
)

pub are_types : (graph more : Graph) → graph ≡ built_ins ++ more → IsGraph graph → (own : Nodes) → AreNodesOf graph own
    → AreTypes (types_of graph own)
are_types graph more begins sound [] are = tt
are_types graph more begins sound (one ∷ own) are = (
  record { more = more; begins = begins; sound = sound; is_node = are.0 },
  are_types graph more begins sound own are.1,
)

module _ (scope : Scope) (old : Graph) (sound : IsGraph old) (nodes : Nodes) (old_nodes : AreNodesOf old nodes)
    (middle : Graph) (is : IsLater old middle) (more : Graph) (begins : middle ≡ built_ins ++ more) where
  pub body_gives : (own : Nodes) → AreNodesOf middle own → (matched : Set) (pattern : Tree)
      → HoldCaptured scope (types_of middle own) [] pattern matched → (new : Graph) (body : Expr) (id : NodeId)
      → Gives middle (own ++ nodes) new (λ types t. Has scope types body t) id
      → BodyGives scope old nodes new matched pattern body (Some id)
  body_gives own are matched pattern hold new body id gives = (
    gives.is_type,
    λ types of. (
      types_of middle own,
      are_types middle more begins is.sound own are,
      hold,
      gives.has (types_of middle own ++ types)
          (own_of_types middle own nodes types (types_later old middle is sound nodes old_nodes types of)),
    ),
  )
