-- The functions of a program, with their nodes: what is asked of them, and that they make a program that has types.
use Rattle.std.proofs.Common.{◌≡◌, ◌∙◌, ◌<◌, List, [], ◌∷◌, ◌++◌, refl, sym, ap, ap₂, subst, map, length, Some, None, lit<}
use Rattle.cd_sets.specs.declared.node_id.NodeId.{NodeId}
use Rattle.cd_syntax.specs.Name.{Name}
use Rattle.cd_model.specs.AllOf.{AllOf}
use Rattle.cd_model.specs.BuiltIns.{DATA, built_ins}
use Rattle.cd_model.specs.Formula.{Graph, IsGraph}
use Rattle.cd_model.specs.Scope.{Scope}
use Rattle.cd_model.proofs.Covered.{each_parts}
use Rattle.cd_program.specs.Expr.{FunctionTree, function, Program}
use Rattle.cd_program.specs.WellMade.{HasName, AreWellMadeFunctions, IsWellMadeProgram}
use Rattle.cd_resolve.specs.Faults.{Fault}
use Rattle.cd_names.specs.ProgramFaults.{IsFaultOfProgram, Seen, all_functions, declared_names}
use Rattle.cd_meaning.specs.Sets.{◌⊆◌, elements_of}
use Rattle.cd_typing.specs.Later.{IsLater}
use Rattle.cd_typing.specs.Typ.{In, with_type}
use Rattle.cd_typing.specs.Typed.{IsTyped}
use Rattle.cd_typing.proofs.Later.{later_in, earlier_in, below_later}
use Rattle.cd_typing.proofs.Subsets.{through}
use Rattle.cd_resolved.specs.Resolved.{function_of, function_nodes}
use Rattle.cd_resolved.specs.declared.function_nodes.FunctionNodes.{FunctionNodes}
use Rattle.cd_resolved.specs.declared.resolved.Resolved.{Resolved}
use Rattle.cd_check.specs.declared.base.Base.{Base}
use Rattle.cd_check.specs.Inner.Environment.{Nodes, AreNodes, AreNodesOf, declared}
use Rattle.cd_check.specs.Inner.FunctionNames.{function_names}
use Rattle.cd_check.specs.Inner.Giving.{PromiseKept}
use Rattle.cd_check.specs.Inner.Programs.{IsSoundFunction, HasArrows, MainGives, ResultsAreData}
use Rattle.cd_check.specs.Inner.Promises.{ArePairs, KeepsPromise, IsPromised}
use Rattle.cd_check.specs.Inner.Ready.{scope_of, program_of, names_seen}
use Rattle.cd_check.specs.Inner.SoundNames.{FunctionIsSound}
use Rattle.cd_check.proofs.Promises.{keep_earlier}
use Rattle.cd_check.proofs.PromisesKept.{has_promise_later}
use Rattle.cd_check.proofs.ProgramTyped.{program_typed, whole_below, arrows_below}
use Rattle.cd_check.proofs.SoundExprs.{program_sound}
use Rattle.cd_check.proofs.TypesLater.{types_later}
use Rattle.cd_names.proofs.ArrowsResolved.{all_of_map}

abbrev pub arrows_of : FunctionNodes → List (NodeId × NodeId)
arrows_of one = one.arrows.items

abbrev pub whole_of : FunctionNodes → NodeId
whole_of one = one.whole

-- in the same graph
pub within_same : (graph other : Graph) → graph ≡ other → (one two : NodeId) → elements_of graph one ⊆ elements_of graph two
    → elements_of other one ⊆ elements_of other two
within_same graph other same one two within = subst (λ (is : Graph). elements_of is one ⊆ elements_of is two) same within

-- all that are declared have names
pub all_named : (all : List FunctionTree) → AreWellMadeFunctions all → AllOf HasName all
all_named [] made = tt
all_named (f ∷ rest) made = (made.0, all_named rest made.2)

-- the names of functions with nodes are those that are declared
one_name : (f : FunctionTree) (whole : NodeId) (rest : List FunctionTree) (ids : List NodeId) → HasName f
    → map (λ node. node.0) (declared (function_names rest) ids) ≡ map (λ occurrence. occurrence.name) (declared_names rest)
    → map (λ node. node.0) (declared (function_names (f ∷ rest)) (whole ∷ ids)) ≡ map (λ occurrence. occurrence.name) (declared_names (f ∷ rest))
one_name (function at None name_at interface branches) whole rest ids named same = absurd named
one_name (function at (Some name) name_at interface branches) whole rest ids named same = ap (λ names. name ∷ names) same

pub names_declared : (all : List FunctionNodes) → AllOf (λ one. HasName (function_of one)) all
    → map (λ node. node.0) (declared (function_names (map function_of all)) (map whole_of all))
    ≡ map (λ occurrence. occurrence.name) (declared_names (map function_of all))
names_declared [] named = refl
names_declared (one ∷ rest) named =
    one_name (function_of one) (whole_of one) (map function_of rest) (map whole_of rest) named.0 (names_declared rest named.1)

-- the nodes of functions are of the graph
pub nodes_declared : (graph : Graph) (names : List Name) (ids : List NodeId) → AreNodes graph ids → AreNodesOf graph (declared names ids)
nodes_declared graph [] ids are = tt
nodes_declared graph (name ∷ names) [] are = tt
nodes_declared graph (name ∷ names) (id ∷ ids) are = (are.0, nodes_declared graph names ids are.1)

module _ (scope : Scope) where
  pub wholes_below : (graph : Graph) (all : List FunctionNodes) → AllOf (IsPromised scope graph) all → AreNodes graph (map whole_of all)
  wholes_below graph [] promised = tt
  wholes_below graph (one ∷ rest) promised =
      (whole_below scope graph (function_of one) (arrows_of one) (whole_of one) promised.0, wholes_below graph rest promised.1)

  pub have_arrows : (graph : Graph) → IsGraph graph → (all : List FunctionNodes) → AllOf (IsPromised scope graph) all → AllOf (HasArrows graph) all
  have_arrows graph sound [] promised = tt
  have_arrows graph sound (one ∷ rest) promised = (
    arrows_below scope graph sound (function_of one) (arrows_of one) (whole_of one) promised.0,
    have_arrows graph sound rest promised.1,
  )

  module _ (graph later : Graph) (is : IsLater graph later) (sound : IsGraph graph) where
    pub promise_later : (one : FunctionNodes) → IsPromised scope graph one → IsPromised scope later one
    promise_later one promised = has_promise_later graph later is sound scope (function_of one) (arrows_of one) (whole_of one) promised

    -- what is kept in a longer graph
    keeps_earlier : (nodes : Nodes) → AreNodesOf graph nodes → (f : FunctionTree) (arrows : List (NodeId × NodeId)) (whole : NodeId)
        → ArePairs graph arrows → whole.0 < length graph → KeepsPromise scope later nodes f arrows whole → KeepsPromise scope graph nodes f arrows whole
    keeps_earlier nodes nodes_are (function at name name_at interface branches) arrows whole pairs below keeps = λ types self of same.
        keep_earlier scope graph later is sound (with_type name self types) branches arrows pairs
        (keeps types self (types_later graph later is sound nodes nodes_are types of) (record {
          within = through (elements_of later whole) (elements_of graph whole) (In self) (earlier_in graph later is sound whole below) same.within;
          whole = through (In self) (elements_of graph whole) (elements_of later whole) same.whole (later_in graph later is sound whole below);
        }))

    pub promise_kept_earlier : (nodes : Nodes) → AreNodesOf graph nodes → (one : FunctionNodes) → IsPromised scope graph one
        → KeepsPromise scope later nodes (function_of one) (arrows_of one) (whole_of one)
        → KeepsPromise scope graph nodes (function_of one) (arrows_of one) (whole_of one)
    promise_kept_earlier nodes nodes_are one promised keeps = keeps_earlier nodes nodes_are (function_of one) (arrows_of one) (whole_of one)
        (arrows_below scope graph sound (function_of one) (arrows_of one) (whole_of one) promised)
        (whole_below scope graph (function_of one) (arrows_of one) (whole_of one) promised) keeps

    results_earlier : DATA.0 < length graph → (arrows : List (NodeId × NodeId)) → ArePairs graph arrows → ResultsAreData later arrows
        → ResultsAreData graph arrows
    results_earlier below [] pairs are = tt
    results_earlier below (arrow ∷ arrows) pairs are = (
      through (elements_of graph arrow.1) (elements_of later arrow.1) (elements_of graph DATA) (later_in graph later is sound arrow.1 pairs.0.1)
          (through (elements_of later arrow.1) (elements_of later DATA) (elements_of graph DATA) are.0 (earlier_in graph later is sound DATA below)),
      results_earlier below arrows pairs.1 are.1,
    )

    pub main_earlier : DATA.0 < length graph → (all : List FunctionNodes) → AllOf (IsPromised scope graph) all → AllOf (MainGives later) all
        → AllOf (MainGives graph) all
    main_earlier below [] promised main = tt
    main_earlier below (one ∷ rest) promised main = (
      (λ is. results_earlier below (arrows_of one)
          (arrows_below scope graph sound (function_of one) (arrows_of one) (whole_of one) promised.0) (main.0 is)),
      main_earlier below rest promised.1 main.1,
    )

-- the first of those of the program that a check goes by
pub first_promised : (base : Base) (graph : Graph) → AllOf (IsPromised (scope_of base) graph) (function_nodes base.resolved.now)
    → (program : Resolved) → base.resolved.now ≡ program → (first rest : List FunctionNodes) → function_nodes program ≡ first ++ rest
    → AllOf (IsPromised (scope_of base) graph) first
first_promised base graph promised program same first rest are = (each_parts (IsPromised (scope_of base) graph) first rest
    (subst (λ (all : List FunctionNodes). AllOf (IsPromised (scope_of base) graph) all) (ap function_nodes same ∙ are) promised)).0

-- a check of these functions goes by these names and nodes
module _ (program : Program) (base : Base) (same : program_of base ≡ program) (all : List FunctionNodes)
    (are : map function_of all ≡ program.functions) (names : base.functions.now ≡ function_names program.functions)
    (ids : base.interfaces.now ≡ map whole_of all) (made : IsWellMadeProgram program) where
  pub are_named : AllOf (λ one. HasName (function_of one)) all
  are_named = all_of_map function_of HasName all
      (subst (λ (functions : List FunctionTree). AllOf HasName functions) (sym are) (all_named program.functions made.1))

  names_of_all : base.functions.now ≡ function_names (map function_of all)
  names_of_all = names ∙ ap function_names (sym are)

  pub nodes_of_all : declared base.functions.now base.interfaces.now ≡ declared (function_names (map function_of all)) (map whole_of all)
  nodes_of_all = ap₂ declared names_of_all ids

  names_seen_are : names_seen base [] ≡ all_functions program
  names_seen_are = ap (λ (nodes : Nodes). map (λ node. node.0) nodes) nodes_of_all ∙ names_declared all are_named
      ∙ ap (λ functions. map (λ occurrence. occurrence.name) (declared_names functions)) are

  -- no name in them is at fault
  pub all_sound : ((fault : Fault) → IsFaultOfProgram program fault → ⊥)
      → AllOf (IsSoundFunction (program_of base) (names_seen base [])) all
  all_sound none = all_of_map function_of (FunctionIsSound (program_of base) (names_seen base [])) all
      (subst (λ (functions : List FunctionTree). AllOf (FunctionIsSound (program_of base) (names_seen base [])) functions) (sym are)
      (subst (λ (seen : Seen). AllOf (FunctionIsSound (program_of base) seen) program.functions) (sym names_seen_are)
      (subst (λ (whole : Program). AllOf (FunctionIsSound whole (all_functions program)) program.functions) (sym same)
      (program_sound program made none))))

  -- they keep what they promise, and `main` gives data by a longer graph
  pub checked_typed : (graph last more : Graph) → graph ≡ built_ins ++ more → IsGraph graph → IsLater graph last
      → AllOf (IsPromised (scope_of base) graph) all
      → AllOf (λ one. PromiseKept base graph [] (function_of one) one) all → AllOf (MainGives last) all → IsTyped program
  checked_typed graph last more begins sound is promised kept main =
      program_typed function_of arrows_of whole_of (program_of base).types graph more begins sound program (ap (λ (whole : Program). whole.types) same)
      all are are_named promised
      (subst (λ (nodes : Nodes). AllOf (λ one. KeepsPromise (scope_of base) graph nodes (function_of one) (arrows_of one) (whole_of one)) all)
      nodes_of_all kept)
      (main_earlier (scope_of base) graph last is sound
      (below_later built_ins graph (record { more = more; is = begins; sound = sound }) DATA (lit< tt)) all promised main)
