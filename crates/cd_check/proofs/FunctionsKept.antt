-- Functions of the code whose branches keep what their interfaces promise.
use Rattle.std.proofs.Common.{◌≡◌, ◌∙◌, ◌<◌, ◌+◌, ℕ, zero, suc, arith, ap, refl, sym, subst, List, [], ◌∷◌, length, drop, get_or, Option, Some, None}
use Rattle.cd_sets.specs.declared.node_id.NodeId.{NodeId}
use Rattle.cd_syntax.specs.Name.{Name}
use Rattle.cd_model.specs.AllOf.{AllOf}
use Rattle.cd_model.specs.Formula.{Graph, IsGraph}
use Rattle.cd_model.specs.Scope.{Scope}
use Rattle.cd_program.specs.Expr.{Branches, NoBranch, ABranch, FunctionTree, function, Program}
use Rattle.cd_program.specs.PlainExpr.{plain_branches, plain_function}
use Rattle.cd_program.specs.declared.expr.FunctionTree.{FunctionTree as CodeFunction}
use Rattle.cd_program.specs.declared.expr.ExprKind.TheViews.{out-FunctionTree}
use Rattle.cd_meaning.specs.Sets.{◌⊆◌, elements_of}
use Rattle.cd_empty.specs.Seen.{Seen as World, graph_of}
use Rattle.cd_names.specs.ProgramFaults.{Seen, with_name}
use Rattle.cd_typing.specs.Branches.{Cover}
use Rattle.cd_typing.specs.Later.{IsLater}
use Rattle.cd_typing.specs.Typing.{FunctionHas}
use Rattle.cd_typing.proofs.Later.{below_later}
use Rattle.cd_resolved.specs.declared.function_nodes.FunctionNodes.{FunctionNodes}
use Rattle.cd_resolved.specs.Parts.{IsFunctionOf}
use Rattle.cd_check.specs.declared.base.Base.{Base}
use Rattle.cd_check.specs.Inner.Environment.{Nodes, AreNodesOf, Gives, with_node}
use Rattle.cd_check.specs.Inner.Giving.{BodiesGive, PromiseKept}
use Rattle.cd_check.specs.Inner.Promises.{ArePairs, HasPromise}
use Rattle.cd_check.specs.Inner.Ready.{IsReady, IsAfter, program_of, names_seen, scope_of, seen_by}
use Rattle.cd_check.specs.Inner.SoundNames.{BranchesAreSound, ArePatternsOf, FunctionIsSound}
use Rattle.cd_check.proofs.ArrowsKept.{KeptAt, kept_earlier, arrow_kept, all_kept}
use Rattle.cd_check.proofs.BodiesChecked.{ready_with}
use Rattle.cd_check.proofs.BranchesGiven.{bodies_from}
use Rattle.cd_check.proofs.FromReady.{type_in}
use Rattle.cd_check.proofs.Itself.{later_itself}
use Rattle.cd_check.proofs.NextOne.{one_shown}
use Rattle.cd_check.proofs.OwnNames.{named_seen, names_in}
use Rattle.cd_check.proofs.ProgramViews.{function_is}
use Rattle.cd_check.proofs.Promises.{function_has}
use Rattle.cd_check.proofs.PromisesKept.{pairs_below}

pub patterns_sound : (program : Program) (seen : Seen) (branches : Branches) → BranchesAreSound program seen branches
    → ArePatternsOf program branches
patterns_sound program seen NoBranch sound = tt
patterns_sound program seen (ABranch pattern body rest) sound = (sound.0, patterns_sound program seen rest sound.2)

-- a function's own name before others
pub seen_named : (base : Base) (locals : Nodes) (name : Option Name) (whole : NodeId) (all : Nodes) → all ≡ with_node name whole locals
    → seen_by base all ≡ with_node name whole (seen_by base locals)
seen_named base locals name whole all same = ap (seen_by base) same ∙ by name
  where
    by : (name : Option Name) → seen_by base (with_node name whole locals) ≡ with_node name whole (seen_by base locals)
    by None = refl
    by (Some name) = refl

named_nodes : (graph : Graph) (name : Option Name) (whole : NodeId) (nodes : Nodes) → whole.0 < length graph → AreNodesOf graph nodes
    → AreNodesOf graph (with_node name whole nodes)
named_nodes graph None whole nodes below are = are
named_nodes graph (Some name) whole nodes below are = (below, are)

pub ready_named : (base : Base) (graph : Graph) (locals : Nodes) (name : Option Name) (whole : NodeId) (all : Nodes)
    → all ≡ with_node name whole locals → whole.0 < length graph → IsReady base graph locals → IsReady base graph all
ready_named base graph locals name whole all same below ready = ready_with base graph locals all
    (subst (AreNodesOf graph) (sym (seen_named base locals name whole all same))
    (named_nodes graph name whole (seen_by base locals) below ready.nodes)) ready

-- the nodes of a promise are of the graph
pub whole_below : (scope : Scope) (graph : Graph) (f : FunctionTree) (arrows : List (NodeId × NodeId)) (whole : NodeId)
    → HasPromise scope graph f arrows whole → whole.0 < length graph
whole_below scope graph (function at name name_at interface branches) arrows whole promise = promise.is_whole.is_type.is_node

pub arrows_below : (scope : Scope) (graph : Graph) → IsGraph graph → (f : FunctionTree) (arrows : List (NodeId × NodeId)) (whole : NodeId)
    → HasPromise scope graph f arrows whole → ArePairs graph arrows
arrows_below scope graph sound (function at name name_at interface branches) arrows whole promise =
    pairs_below graph graph (later_itself graph sound) sound scope interface arrows promise.written

-- a function of the code by its parts
pub function_sound : (program : Program) (seen : Seen) (one : CodeFunction) → FunctionIsSound program seen (plain_function one)
    → BranchesAreSound program (with_name (out-FunctionTree one).name seen) (plain_branches (out-FunctionTree one).branches)
function_sound program seen one sound = (subst (λ (f : FunctionTree). FunctionIsSound program seen f) (function_is one) sound).1

-- it is one of the program
pub function_within : (program : Program) (seen : Seen) (f : FunctionTree) → FunctionIsSound program seen f → IsFunctionOf program f
function_within program seen (function at name name_at interface branches) sound = sound.0

-- its branches see its own name
pub branches_sound : (base : Base) (locals all : Nodes) (whole : NodeId) (one : CodeFunction)
    → all ≡ with_node (out-FunctionTree one).name whole locals
    → FunctionIsSound (program_of base) (names_seen base locals) (plain_function one)
    → BranchesAreSound (program_of base) (names_seen base all) (plain_branches (out-FunctionTree one).branches)
branches_sound base locals all whole one same sound = subst
    (λ (seen : Seen). BranchesAreSound (program_of base) seen (plain_branches (out-FunctionTree one).branches))
    (named_seen (out-FunctionTree one).name whole (seen_by base locals)
    ∙ ap names_in (sym (seen_named base locals (out-FunctionTree one).name whole all same)))
    (function_sound (program_of base) (names_seen base locals) one sound)

-- one arrow, whose argument is divided in a second graph, and whose bodies are checked in a third one
pub arrow_given : (base : Base) (locals : Nodes) (first : Graph) → IsReady base first locals → (second third : Graph) → IsLater first second
    → IsLater second third → (branches : Branches) (arrow : NodeId × NodeId) → arrow.0.0 < length first → arrow.1.0 < length first
    → (at : NodeId) → at ≡ arrow.0 → Cover (scope_of base) branches (elements_of second at)
    → (same : Graph) → same ≡ second → (results : List NodeId) → BodiesGive base same locals third branches at results
    → AllOf (λ id. elements_of third id ⊆ elements_of third arrow.1) results
    → KeptAt (scope_of base) first (seen_by base locals) branches arrow
arrow_given base locals first ready second third is_second is_third branches arrow argument result at is_at cover same is_same results gives within =
    arrow_kept (scope_of base) first second third is_second is_third ready.sound (seen_by base locals) ready.nodes branches arrow argument
    result (subst (λ (id : NodeId). Cover (scope_of base) branches (elements_of second id)) is_at cover)
    (bodies_from base locals second branches arrow.0 third results
    (subst (λ (id : NodeId). BodiesGive base second locals third branches id results) is_at
    (subst (λ (graph : Graph). BodiesGive base graph locals third branches at results) is_same gives)) third arrow.1 within)

-- all arrows
pub promise_kept : (base : Base) (old : Graph) (locals all : Nodes) (one : CodeFunction) (promise : FunctionNodes)
    → all ≡ with_node (out-FunctionTree one).name promise.whole locals
    → AllOf (KeptAt (scope_of base) old (seen_by base all) (plain_branches (out-FunctionTree one).branches)) promise.arrows.items
    → PromiseKept base old locals (plain_function one) promise
promise_kept base old locals all one promise same kept = subst (λ (f : FunctionTree). PromiseKept base old locals f promise)
    (sym (function_is one))
    (all_kept (scope_of base) old (seen_by base locals) (out-FunctionTree one).name promise.whole
    (plain_branches (out-FunctionTree one).branches) promise.arrows.items
    (subst (λ nodes. AllOf (KeptAt (scope_of base) old nodes (plain_branches (out-FunctionTree one).branches)) promise.arrows.items)
    (seen_named base locals (out-FunctionTree one).name promise.whole all same) kept))

-- the function has the type of its interface
pub function_gives : (base : Base) (old : World) (locals : Nodes) → IsReady base (graph_of old) locals → (last : World) → IsAfter base locals old last
    → (f : FunctionTree) (nodes : FunctionNodes) → HasPromise (scope_of base) (graph_of old) f nodes.arrows.items nodes.whole
    → PromiseKept base (graph_of old) locals f nodes
    → Gives (graph_of old) (seen_by base locals) (graph_of last) (λ types t. FunctionHas (scope_of base) types f t) nodes.whole
function_gives base old locals ready last after f nodes has kept =
    let first = graph_of old in record {
      is_type = type_in base (graph_of last) locals after.ready nodes.whole
          (below_later first (graph_of last) after.later nodes.whole (whole_below (scope_of base) first f nodes.arrows.items nodes.whole has));
      has = function_has (scope_of base) first first (graph_of last) (later_itself first ready.sound) after.later ready.sound (seen_by base locals) f
          nodes.arrows.items nodes.whole (arrows_below (scope_of base) first ready.sound f nodes.arrows.items nodes.whole has)
          (whole_below (scope_of base) first f nodes.arrows.items nodes.whole has) has kept;
    }

-- a fact of each of a list is one of what stands at a place
pub all_at : {X : Type 0} (Is : X → Type 0) (items : List X) (index : ℕ) (item : X) → item ≡ get_or items index item → index < length items
    → AllOf Is items → Is item
all_at Is [] index item is within all = absurd (omega arith)
all_at Is (first ∷ rest) zero item is within all = subst Is (sym is) all.0
all_at Is (first ∷ rest) (suc index) item is within all = all_at Is rest index item is (omega arith) all.1

-- arrows are kept in a first graph, if those are that are left
abbrev pub KeptSoFar : Base → Nodes → Graph → Branches → (all left : List (NodeId × NodeId)) → Type 0
KeptSoFar base locals graph branches all left = AllOf (KeptAt (scope_of base) graph (seen_by base locals) branches) left
    → AllOf (KeptAt (scope_of base) graph (seen_by base locals) branches) all

pub one_kept : (base : Base) (locals : Nodes) (first : Graph) → IsReady base first locals → (graph : Graph) → IsLater first graph
    → (branches : Branches) (arrows : List (NodeId × NodeId)) → ArePairs first arrows → (index : ℕ) (arrow : NodeId × NodeId)
    → arrow ≡ get_or arrows index arrow → index < length arrows → KeptSoFar base locals first branches arrows (drop index arrows)
    → KeptAt (scope_of base) graph (seen_by base locals) branches arrow
    → KeptSoFar base locals first branches arrows (drop (index + 1) arrows)
one_kept base locals first ready graph is branches arrows are index arrow at within before kept =
    let below = all_at (λ (one : NodeId × NodeId). (one.0.0 < length first) × (one.1.0 < length first)) arrows index arrow at within are in
    one_shown (KeptAt (scope_of base) first (seen_by base locals) branches) arrows index arrow at within
    (kept_earlier (scope_of base) first graph is ready.sound (seen_by base locals) ready.nodes branches arrow below.0 below.1 kept) before

-- what stands at a place of a list is there whatever stands beyond its end
pub at_any : {X : Type 0} (items : List X) (index : ℕ) (one other : X) → index < length items
    → get_or items index one ≡ get_or items index other
at_any [] index one other within = absurd (omega arith)
at_any (first ∷ rest) zero one other within = refl
at_any (first ∷ rest) (suc index) one other within = at_any rest index one other (omega arith)

pub pair_at : (graph : Graph) (arrows : List (NodeId × NodeId)) → ArePairs graph arrows → (index : ℕ) (beyond : NodeId × NodeId)
    → index < length arrows → ((get_or arrows index beyond).0.0 < length graph) × ((get_or arrows index beyond).1.0 < length graph)
pair_at graph arrows are index beyond within =
    all_at (λ (one : NodeId × NodeId). (one.0.0 < length graph) × (one.1.0 < length graph)) arrows index (get_or arrows index beyond)
    (at_any arrows index beyond (get_or arrows index beyond) within) within are
