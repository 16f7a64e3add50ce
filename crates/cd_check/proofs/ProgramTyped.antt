-- A program whose functions keep what they promise has types.
use Rattle.std.proofs.Common.{◌≡◌, ◌<◌, refl, subst, true, List, [], ◌∷◌, ◌++◌, map, length, codes, Option, Some, None, lit<}
use Rattle.std.proofs.lemmas.Slice.Eq.{bytes_eq-Decides}
use Rattle.cd_sets.specs.declared.node_id.NodeId.{NodeId}
use Rattle.cd_syntax.specs.Name.{Name}
use Rattle.cd_syntax.specs.TypeTree.{Declarations}
use Rattle.cd_model.specs.AllOf.{AllOf}
use Rattle.cd_model.specs.BuiltIns.{DATA, built_ins}
use Rattle.cd_model.specs.Formula.{Graph, IsGraph}
use Rattle.cd_model.specs.Scope.{Scope}
use Rattle.cd_program.specs.Expr.{FunctionTree, function, Program}
use Rattle.cd_program.specs.WellMade.{HasName}
use Rattle.cd_meaning.specs.Sets.{◌⊆◌, elements_of}
use Rattle.cd_typing.specs.Typ.{typ, In, BuiltIn, Types}
use Rattle.cd_typing.specs.Kept.{Anything}
use Rattle.cd_typing.specs.Typed.{IsOfInterface, AreDeclared, GivesData, HasOwnType, IsTyped}
use Rattle.cd_typing.proofs.BuiltInSets.{node_within}
use Rattle.cd_typing.proofs.Subsets.{itself, through}
use Rattle.cd_check.specs.Inner.Environment.{Nodes, AreOfTypes, declared}
use Rattle.cd_check.specs.Inner.FunctionNames.{function_names, is_main}
use Rattle.cd_check.specs.Inner.Promises.{HasPromise, KeepsPromise, ArePairs, arrows_in}
use Rattle.cd_check.proofs.Itself.{later_itself}
use Rattle.cd_check.proofs.Promises.{function_has}
use Rattle.cd_check.proofs.PromisesKept.{pairs_below}

abbrev IsNone : Option Name → Type 0
IsNone None = Unit {0}
IsNone (Some name) = ⊥

abbrev IsName : Name → Option Name → Type 0
IsName name None = ⊥
IsName name (Some other) = name ≡ other

some_is : (name other : Name) → Some name ≡ Some other → name ≡ other
some_is name other same = subst (λ (found : Option Name). IsName name found) same refl

module _ (scope : Scope) (graph : Graph) where
  -- a function with its arrows and its type
  abbrev pub IsPromisedBy : FunctionTree → List (NodeId × NodeId) → NodeId → Type 0
  IsPromisedBy f arrows whole = HasPromise scope graph f arrows whole

  abbrev pub GivesDataBy : FunctionTree → List (NodeId × NodeId) → Type 0
  GivesDataBy f arrows = is_main f ≡ true → AllOf (λ arrow. elements_of graph arrow.1 ⊆ elements_of graph DATA) arrows

  -- functions that are declared, with their types
  abbrev pub type_before : FunctionTree → NodeId → Types → Types
  type_before (function at None name_at interface branches) whole types = types
  type_before (function at (Some name) name_at interface branches) whole types = (name, typ graph whole) ∷ types

  type_of : (f : FunctionTree) (arrows : List (NodeId × NodeId)) (whole : NodeId) → IsPromisedBy f arrows whole
      → IsOfInterface scope f (typ graph whole)
  type_of (function at name name_at interface branches) arrows whole promise = (arrows_in graph arrows, promise.written, promise.is_whole)

  pub whole_below : (f : FunctionTree) (arrows : List (NodeId × NodeId)) (whole : NodeId) → IsPromisedBy f arrows whole → whole.0 < length graph
  whole_below (function at name name_at interface branches) arrows whole promise = promise.is_whole.is_type.is_node

  pub arrows_below : IsGraph graph → (f : FunctionTree) (arrows : List (NodeId × NodeId)) (whole : NodeId) → IsPromisedBy f arrows whole
      → ArePairs graph arrows
  arrows_below sound (function at name name_at interface branches) arrows whole promise =
      pairs_below graph graph (later_itself graph sound) sound scope interface arrows promise.written

  one_of_types : (f : FunctionTree) (whole : NodeId) (functions : List FunctionTree) (ids : List NodeId) (types : Types) → HasName f
      → AreOfTypes graph (declared (function_names functions) ids) types
      → AreOfTypes graph (declared (function_names (f ∷ functions)) (whole ∷ ids)) (type_before f whole types)
  one_of_types (function at None name_at interface branches) whole functions ids types named of = absurd named
  one_of_types (function at (Some name) name_at interface branches) whole functions ids types named of =
      (refl, record { within = itself (elements_of graph whole); whole = itself (elements_of graph whole) }, of)

  one_declared : (f : FunctionTree) (arrows : List (NodeId × NodeId)) (whole : NodeId) (functions : List FunctionTree) (types : Types)
      → HasName f → IsPromisedBy f arrows whole → AreDeclared scope functions types
      → AreDeclared scope (f ∷ functions) (type_before f whole types)
  one_declared (function at None name_at interface branches) arrows whole functions types named promise more = absurd named
  one_declared (function at (Some name) name_at interface branches) arrows whole functions types named promise more =
      (refl, (arrows_in graph arrows, promise.written, promise.is_whole), more)

  module _ (sound : IsGraph graph) where
    pub has_own_type : (nodes : Nodes) (types : Types) → AreOfTypes graph nodes types → (f : FunctionTree)
        → (arrows : List (NodeId × NodeId)) (whole : NodeId) → IsPromisedBy f arrows whole → KeepsPromise scope graph nodes f arrows whole
        → HasOwnType scope Anything types f
    has_own_type nodes types of f arrows whole promise keeps = let same = later_itself graph sound in (
      typ graph whole,
      type_of f arrows whole promise,
      function_has scope graph graph graph same same sound nodes f arrows whole (arrows_below sound f arrows whole promise)
          (whole_below f arrows whole promise) promise keeps types of,
    )

  module _ (more : Graph) (begins : graph ≡ built_ins ++ more) where
    results_data : (arrows : List (NodeId × NodeId)) → AllOf (λ arrow. elements_of graph arrow.1 ⊆ elements_of graph DATA) arrows
        → AllOf (λ arrow. In arrow.result ⊆ BuiltIn DATA) (arrows_in graph arrows)
    results_data [] within = tt
    results_data (arrow ∷ arrows) within = (
      through (elements_of graph arrow.1) (elements_of graph DATA) (BuiltIn DATA) within.0 (node_within graph more begins DATA (lit< tt)),
      results_data arrows within.1,
    )

    pub gives_data : (f : FunctionTree) (arrows : List (NodeId × NodeId)) (whole : NodeId) → IsPromisedBy f arrows whole
        → GivesDataBy f arrows → GivesData scope f
    gives_data (function at None name_at interface branches) arrows whole promise main =
        λ is. absurd (subst (λ (found : Option Name). IsNone found) is tt)
    gives_data (function at (Some name) name_at interface branches) arrows whole promise main = λ is.
        (arrows_in graph arrows, promise.written, results_data arrows (main ((bytes_eq-Decides name (codes "main")).1 (some_is name (codes "main") is))))

-- functions with arrows and types, however they are kept
module _ {P : Type 0} (function_of : P → FunctionTree) (arrows_of : P → List (NodeId × NodeId)) (whole_of : P → NodeId) (declarations : Declarations)
    (graph more : Graph) (begins : graph ≡ built_ins ++ more) (sound : IsGraph graph) where
  abbrev scope : Scope
  scope = declarations ∷ []

  abbrev pub types_by : List P → Types
  types_by [] = []
  types_by (one ∷ rest) = type_before scope graph (function_of one) (whole_of one) (types_by rest)

  abbrev pub ArePromised : List P → Type 0
  ArePromised all = AllOf (λ one. IsPromisedBy scope graph (function_of one) (arrows_of one) (whole_of one)) all

  abbrev pub HaveNames : List P → Type 0
  HaveNames all = AllOf (λ one. HasName (function_of one)) all

  pub of_types : (all : List P) → HaveNames all
      → AreOfTypes graph (declared (function_names (map function_of all)) (map whole_of all)) (types_by all)
  of_types [] named = tt
  of_types (one ∷ rest) named = one_of_types scope graph (function_of one) (whole_of one) (map function_of rest) (map whole_of rest)
      (types_by rest) named.0 (of_types rest named.1)

  pub all_declared : (all : List P) → HaveNames all → ArePromised all → AreDeclared scope (map function_of all) (types_by all)
  all_declared [] named promised = tt
  all_declared (one ∷ rest) named promised = one_declared scope graph (function_of one) (arrows_of one) (whole_of one) (map function_of rest)
      (types_by rest) named.0 promised.0 (all_declared rest named.1 promised.1)

  all_have : (nodes : Nodes) (types : Types) → AreOfTypes graph nodes types → (all : List P) → ArePromised all
      → AllOf (λ one. KeepsPromise scope graph nodes (function_of one) (arrows_of one) (whole_of one)) all
      → AllOf (HasOwnType scope Anything types) (map function_of all)
  all_have nodes types of [] promised keep = tt
  all_have nodes types of (one ∷ rest) promised keep = (
    has_own_type scope graph sound nodes types of (function_of one) (arrows_of one) (whole_of one) promised.0 keep.0,
    all_have nodes types of rest promised.1 keep.1,
  )

  all_give : (all : List P) → ArePromised all → AllOf (λ one. GivesDataBy scope graph (function_of one) (arrows_of one)) all
      → AllOf (GivesData scope) (map function_of all)
  all_give [] promised main = tt
  all_give (one ∷ rest) promised main = (
    gives_data scope graph more begins (function_of one) (arrows_of one) (whole_of one) promised.0 main.0,
    all_give rest promised.1 main.1,
  )

  pub program_typed : (program : Program) → declarations ≡ program.types → (all : List P) → map function_of all ≡ program.functions
      → HaveNames all → ArePromised all
      → AllOf (λ one. KeepsPromise scope graph (declared (function_names (map function_of all)) (map whole_of all)) (function_of one)
      (arrows_of one) (whole_of one)) all
      → AllOf (λ one. GivesDataBy scope graph (function_of one) (arrows_of one)) all → IsTyped program
  program_typed program same all are named promised keep main = record {
    types = types_by all;
    declared = subst (λ ts. AreDeclared (ts ∷ []) program.functions (types_by all)) same
        (subst (λ functions. AreDeclared scope functions (types_by all)) are (all_declared all named promised));
    functions = subst (λ ts. AllOf (HasOwnType (ts ∷ []) Anything (types_by all)) program.functions) same
        (subst (λ functions. AllOf (HasOwnType scope Anything (types_by all)) functions) are
        (all_have (declared (function_names (map function_of all)) (map whole_of all)) (types_by all) (of_types all named) all promised keep));
    main = subst (λ ts. AllOf (GivesData (ts ∷ [])) program.functions) same
        (subst (λ functions. AllOf (GivesData scope) functions) are (all_give all promised main));
  }
