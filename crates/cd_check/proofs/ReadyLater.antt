-- A graph that is ready for a check stays so as it grows.
use Rattle.std.proofs.Common.{◌≡◌, Bool, true, false, List, [], ◌∷◌, ◌++◌, ap, ◌∙◌, append_assoc}
use Rattle.cd_sets.specs.declared.node_id.NodeId.{NodeId}
use Rattle.cd_model.specs.BuiltIns.{built_ins}
use Rattle.cd_model.specs.AllOf.{AllOf}
use Rattle.cd_model.specs.Formula.{Graph, IsGraph}
use Rattle.cd_model.specs.Scope.{Scope}
use Rattle.cd_model.proofs.Ones.{each_weaker}
use Rattle.cd_meaning.specs.Sequences.{IsSequence, IsListOf}
use Rattle.cd_typing.specs.Operators.{truth, IsNumbers}
use Rattle.cd_operators.specs.Tools.{AreTools, IsZero}
use Rattle.cd_operators.specs.declared.tools.Tools.{Tools}
use Rattle.cd_empty.specs.Growth.{Grows}
use Rattle.cd_empty.specs.Seen.{Seen, graph_of}
use Rattle.cd_check.specs.declared.base.Base.{Base}
use Rattle.cd_check.specs.Inner.Environment.{Nodes, AreNodesOf}
use Rattle.cd_typing.specs.Later.{IsLater}
use Rattle.cd_resolved.specs.Resolved.{function_of, function_nodes}
use Rattle.cd_resolved.specs.declared.function_nodes.FunctionNodes.{FunctionNodes}
use Rattle.cd_check.specs.Inner.Promises.{IsPromised}
use Rattle.cd_check.specs.Inner.Ready.{IsTruth, IsReady, scope_of}
use Rattle.cd_check.proofs.Divided.{all_sited_later}
use Rattle.cd_check.proofs.PromisesKept.{has_promise_later}
use Rattle.cd_typing.proofs.Later.{below_later, only_later, still_holds}

pub later_of : (old new : Seen) → Grows old new → IsGraph (graph_of new) → IsLater (graph_of old) (graph_of new)
later_of old new grows sound = record { more = grows.graph.0; is = grows.graph.1; sound = sound }

module _ (graph later : Graph) (is : IsLater graph later) (sound : IsGraph graph) where
  pub tools_later : (tools : Tools) → AreTools graph tools → AreTools later tools
  tools_later tools are = record {
    sequences = below_later graph later is tools.sequences are.sequences;
    are_sequences = only_later graph later is sound tools.sequences are.sequences IsSequence are.are_sequences;
    all_sequences = still_holds graph later is sound tools.sequences are.sequences IsSequence are.all_sequences;
    lists = below_later graph later is tools.lists are.lists;
    are_lists = only_later graph later is sound tools.lists are.lists (IsListOf IsSequence) are.are_lists;
    all_lists = still_holds graph later is sound tools.lists are.lists (IsListOf IsSequence) are.all_lists;
    zero = below_later graph later is tools.zero are.zero;
    is_zero = only_later graph later is sound tools.zero are.zero IsZero are.is_zero;
    all_zero = still_holds graph later is sound tools.zero are.zero IsZero are.all_zero;
    numbers = below_later graph later is tools.numbers are.numbers;
    are_numbers = only_later graph later is sound tools.numbers are.numbers IsNumbers are.are_numbers;
    all_numbers = still_holds graph later is sound tools.numbers are.numbers IsNumbers are.all_numbers;
  }

  pub truth_later : (value : Bool) (id : NodeId) → IsTruth graph value id → IsTruth later value id
  truth_later value id truth_is = record {
    is_node = below_later graph later is id truth_is.is_node;
    only = only_later graph later is sound id truth_is.is_node (λ d. d ≡ truth value) truth_is.only;
    has = still_holds graph later is sound id truth_is.is_node (λ d. d ≡ truth value) truth_is.has;
  }

  pub nodes_of_later : (nodes : Nodes) → AreNodesOf graph nodes → AreNodesOf later nodes
  nodes_of_later [] are = tt
  nodes_of_later (node ∷ nodes) are = (below_later graph later is node.1 are.0, nodes_of_later nodes are.1)

  pub promised_later : (scope : Scope) (all : List FunctionNodes) → AllOf (IsPromised scope graph) all → AllOf (IsPromised scope later) all
  promised_later scope = each_weaker (IsPromised scope graph) (IsPromised scope later)
      (λ one. has_promise_later graph later is sound scope (function_of one) one.arrows.items one.whole)

pub ready_later : (base : Base) (graph later : Graph) → IsLater graph later → (locals : Nodes) → IsReady base graph locals
    → IsReady base later locals
ready_later base graph later is locals ready = record {
  more = ready.more ++ is.more;
  begins = is.is ∙ ap (λ start. start ++ is.more) ready.begins ∙ append_assoc built_ins ready.more is.more;
  sound = is.sound;
  nodes = nodes_of_later graph later is ready.sound _ ready.nodes;
  resolved = ready.resolved;
  patterns = ready.patterns;
  sited = all_sited_later graph later is (scope_of base) base.sites.now ready.sited;
  promised = promised_later graph later is ready.sound (scope_of base) (function_nodes base.resolved.now) ready.promised;
  tools = tools_later graph later is ready.sound base.tools ready.tools;
  yes = truth_later graph later is ready.sound true base.yes ready.yes;
  no = truth_later graph later is ready.sound false base.no ready.no;
}
