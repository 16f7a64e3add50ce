-- The functions of a program, with their nodes.
use Rattle.std.specs.Prelude.{◌≡◌, ℕ, true, List, []}
use Rattle.cd_sets.specs.declared.node_id.NodeId.{NodeId}
use Rattle.cd_syntax.specs.Name.{Name}
use Rattle.cd_model.specs.AllOf.{AllOf, AnyOf}
use Rattle.cd_model.specs.BuiltIns.{DATA}
use Rattle.cd_model.specs.Formula.{Graph}
use Rattle.cd_model.specs.Thing.{Thing, IsElement, Atom}
use Rattle.cd_program.specs.Expr.{Program}
use Rattle.cd_meaning.specs.Sets.{◌⊆◌, elements_of}
use Rattle.cd_names.specs.ProgramFaults.{Seen}
use Rattle.cd_typing.specs.declared.rule.Rule.{Rule}
use Rattle.cd_typing.specs.declared.rule.Rule.TheVariants as rule
use Rattle.cd_least.specs.Faults.{FunctionFault}
use Rattle.cd_resolved.specs.Resolved.{function_of}
use Rattle.cd_resolved.specs.declared.function_nodes.FunctionNodes.{FunctionNodes}
use Rattle.cd_check.specs.declared.base.Base.{Base}
use Rattle.cd_check.specs.declared.fault.CheckError.{CheckError}
use Rattle.cd_check.specs.Inner.FunctionNames.{begins_at, is_main}
use Rattle.cd_check.specs.Inner.Known.{Fails}
use Rattle.cd_check.specs.Inner.Promises.{ArePairs}
use Rattle.cd_check.specs.Inner.Ready.{scope_of, seen_by}
use Rattle.cd_check.specs.Inner.SoundNames.{FunctionIsSound}

abbrev pub IsSoundFunction : Program → Seen → FunctionNodes → Type 0
IsSoundFunction program seen one = FunctionIsSound program seen (function_of one)

-- the nodes of its arrows are of the graph
abbrev pub HasArrows : Graph → FunctionNodes → Type 0
HasArrows graph one = ArePairs graph one.arrows.items

abbrev pub ResultsAreData : Graph → List (NodeId × NodeId) → Type 0
ResultsAreData graph arrows =
    AllOf (λ arrow. elements_of graph arrow.1 ⊆ elements_of graph DATA) arrows

-- what `main` gives is data
abbrev pub MainGives : Graph → FunctionNodes → Type 0
MainGives graph one = is_main (function_of one) ≡ true
    → ResultsAreData graph one.arrows.items

-- a fault of one of the functions
abbrev pub FunctionsFail : Base → Graph → List Thing → List FunctionNodes → CheckError → Type 0
FunctionsFail base graph table functions =
    Fails graph (seen_by base []) table (λ types at reported d.
    AnyOf (λ one. FunctionFault (scope_of base) types (function_of one) at reported d) functions)

-- a result of one of the arrows, which is no data, is reported here
abbrev pub ResultsFault : Graph → (here : ℕ) → List (NodeId × NodeId) → (at : ℕ) → Rule → Thing
    → Type 0
ResultsFault graph here arrows at reported d = (at ≡ here) × (reported ≡ rule.MainResult)
    × IsElement d
    × (elements_of graph DATA d → ⊥) × AnyOf (λ arrow. elements_of graph arrow.1 d) arrows

abbrev pub MainsFault : Graph → List FunctionNodes → (at : ℕ) → Rule → Thing → Type 0
MainsFault graph functions at reported d = AnyOf (λ one. (is_main (function_of one) ≡ true)
    × ResultsFault graph (begins_at (function_of one)) one.arrows.items at reported d)
    functions

-- the node holds the atom of this name alone
pub record IsAtomNode (graph : Graph) (name : Name) (id : NodeId) : Type 0 where
  pub only : elements_of graph id ⊆ (λ d. d ≡ Atom name)
  pub has : (λ d. d ≡ Atom name) ⊆ elements_of graph id
