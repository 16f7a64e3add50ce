-- What is not within a node that is needed breaks a rule.
use Rattle.std.proofs.Common.{◌≡◌, ◌∙◌, ℕ, List}
use Rattle.cd_sets.specs.declared.node_id.NodeId.{NodeId}
use Rattle.cd_model.specs.Formula.{Graph}
use Rattle.cd_model.specs.Scope.{Scope}
use Rattle.cd_model.specs.Thing.{Thing, IsElement}
use Rattle.cd_program.specs.Expr.{Expr}
use Rattle.cd_meaning.specs.Sets.{Set, ◌⊆◌, elements_of}
use Rattle.cd_typing.specs.Typ.{Types}
use Rattle.cd_typing.specs.declared.rule.Rule.{Rule}
use Rattle.cd_least.specs.Faults.{Breaks}
use Rattle.cd_least.specs.Misses.{Misses, place_of}
use Rattle.cd_check.proofs.KnownTypes.{reports_more}
use Rattle.cd_check.specs.Inner.Environment.{Nodes, AreOfTypes}
use Rattle.cd_check.specs.Inner.Known.{IsKnown, Fails, IsOutside}
use Rattle.cd_check.specs.declared.fault.CheckError.{CheckError}

-- a node that is known has its type, and its elements are in all types
pub known_misses : (scope : Scope) (old : Graph) (nodes : Nodes) (graph : Graph) (e : Expr) (id : NodeId) → IsKnown old nodes scope graph e id
    → (types : Types) → AreOfTypes old nodes types → (needed : Set) (at : ℕ) → at ≡ place_of e → (d : Thing) → IsElement d
    → elements_of graph id d → (needed d → ⊥) → Misses scope types e needed at d
known_misses scope old nodes graph e id known types of needed at place d element inside outside = let one = known types of in record {
  place = place;
  some = (_, one.is_type, one.has);
  element = element;
  least = λ t is_type has. one.least t is_type has d element inside;
  outside = outside;
}

-- of what is needed the node holds all
pub breaks : (scope : Scope) (old : Graph) (nodes : Nodes) (graph : Graph) (e : Expr) (id : NodeId) → IsKnown old nodes scope graph e id
    → (needed : NodeId) (set : Set) → set ⊆ elements_of graph needed → (at : ℕ) → at ≡ place_of e → (rule : Rule) (table : List Thing)
    (error : CheckError) → IsOutside graph table id needed at rule error
    → Fails old nodes table (λ types. Breaks scope types e set rule) error
breaks scope old nodes graph e id known needed set within at place rule table = reports_more table
    (λ reported_at reported d. (reported_at ≡ at) × (reported ≡ rule) × IsElement d × elements_of graph id d × (elements_of graph needed d → ⊥))
    (λ reported_at reported d. (types : Types) → AreOfTypes old nodes types → Breaks scope types e set rule reported_at reported d)
    (λ reported_at reported d is types of. (
      is.1,
      known_misses scope old nodes graph e id known types of set reported_at (is.0 ∙ place) d is.2 is.3 (λ inside. is.4 (within d is.2 inside)),
    ))
