-- What is known of least types and of faults, in longer graphs.
use Rattle.std.proofs.Common.{ℕ, List}
use Rattle.cd_sets.specs.declared.node_id.NodeId.{NodeId}
use Rattle.cd_model.specs.Formula.{Graph, IsGraph}
use Rattle.cd_model.specs.Scope.{Scope}
use Rattle.cd_model.specs.Thing.{Thing}
use Rattle.cd_program.specs.Expr.{Expr}
use Rattle.cd_meaning.specs.Sets.{elements_of}
use Rattle.cd_typing.proofs.Later.{earlier_in, type_later, has_later}
use Rattle.cd_typing.proofs.Subsets.{through}
use Rattle.cd_typing.specs.Later.{IsLater}
use Rattle.cd_typing.specs.Typ.{Typ, typ, In, IsType, Types}
use Rattle.cd_typing.specs.Typing.{Has}
use Rattle.cd_typing.specs.declared.rule.Rule.{Rule}
use Rattle.cd_check.proofs.TypesLater.{types_later}
use Rattle.cd_check.specs.Faults.{Reports}
use Rattle.cd_check.specs.Inner.Environment.{Nodes, AreOfTypes, AreNodesOf, Gives}
use Rattle.cd_check.specs.Inner.Known.{IsBelow, IsKnown, Fails}
use Rattle.cd_check.specs.declared.fault.CheckError.{CheckError}
use Rattle.cd_check.specs.declared.fault.CheckError.TheVariants.{IllTyped, Memory}

-- a fault of which another one follows
pub reports_more : (table : List Thing) (fault other : ℕ → Rule → Thing → Type 0)
    → ((at : ℕ) (reported : Rule) (d : Thing) → fault at reported d → other at reported d) → (error : CheckError) → Reports table fault error
    → Reports table other error
reports_more table fault other more (IllTyped is) reports = (reports.0, more _ _ _ reports.1)
reports_more table fault other more Memory reports = tt

-- what is of the type and within each, is known
pub known : (scope : Scope) (old : Graph) (nodes : Nodes) (new : Graph) (e : Expr) (id : NodeId)
    → Gives old nodes new (λ types t. Has scope types e t) id → IsBelow old nodes new (λ types t. Has scope types e t) id
    → IsKnown old nodes scope new e id
known scope old nodes new e id gives least types of = record {
  is_type = gives.is_type;
  has = gives.has types of;
  least = least types of;
}

-- in a longer graph
pub least_later : (old : Graph) (nodes : Nodes) (new later : Graph) → IsLater new later → IsGraph new → (fact : Types → Typ → Type 0)
    (id : NodeId) → IsType (typ new id) → IsBelow old nodes new fact id → IsBelow old nodes later fact id
least_later old nodes new later is sound fact id node least types of t is_type has =
    through (elements_of later id) (elements_of new id) (In t) (earlier_in new later is sound id node.is_node) (least types of t is_type has)

pub known_later : (scope : Scope) (old : Graph) (nodes : Nodes) (new later : Graph) → IsLater new later → IsGraph new → (e : Expr) (id : NodeId)
    → IsKnown old nodes scope new e id → IsKnown old nodes scope later e id
known_later scope old nodes new later is sound e id known types of = let one = known types of in record {
  is_type = type_later new later is id one.is_type;
  has = has_later scope new later is sound e types id one.is_type.is_node one.has;
  least = λ s s_type has. through (elements_of later id) (elements_of new id) (In s)
      (earlier_in new later is sound id one.is_type.is_node) (one.least s s_type has);
}

-- what is known whatever types the nodes are of in a longer graph is known whatever they are of in the old one
module _ (old middle : Graph) (is : IsLater old middle) (sound : IsGraph old) (nodes : Nodes) (are : AreNodesOf old nodes) where
  pub least_earlier : (new : Graph) (fact : Types → Typ → Type 0) (id : NodeId) → IsBelow middle nodes new fact id
      → IsBelow old nodes new fact id
  least_earlier new fact id least types of = least types (types_later old middle is sound nodes are types of)

  pub known_earlier : (scope : Scope) (new : Graph) (e : Expr) (id : NodeId) → IsKnown middle nodes scope new e id
      → IsKnown old nodes scope new e id
  known_earlier scope new e id known types of = known types (types_later old middle is sound nodes are types of)

  -- and another fault follows
  pub fails_earlier : (table : List Thing) (fault other : Types → ℕ → Rule → Thing → Type 0)
      → ((types : Types) → AreOfTypes old nodes types → (at : ℕ) (reported : Rule) (d : Thing) → fault types at reported d → other types at reported d)
      → (error : CheckError) → Fails middle nodes table fault error → Fails old nodes table other error
  fails_earlier table fault other more = reports_more table
      (λ at reported d. (types : Types) → AreOfTypes middle nodes types → fault types at reported d)
      (λ at reported d. (types : Types) → AreOfTypes old nodes types → other types at reported d)
      (λ at reported d is_fault types of. more types of at reported d (is_fault types (types_later old middle is sound nodes are types of)))

pub fails_more : (old : Graph) (nodes : Nodes) (table : List Thing) (fault other : Types → ℕ → Rule → Thing → Type 0)
    → ((types : Types) → AreOfTypes old nodes types → (at : ℕ) (reported : Rule) (d : Thing) → fault types at reported d → other types at reported d)
    → (error : CheckError) → Fails old nodes table fault error → Fails old nodes table other error
fails_more old nodes table fault other more = reports_more table
    (λ at reported d. (types : Types) → AreOfTypes old nodes types → fault types at reported d)
    (λ at reported d. (types : Types) → AreOfTypes old nodes types → other types at reported d)
    (λ at reported d is_fault types of. more types of at reported d (is_fault types of))
