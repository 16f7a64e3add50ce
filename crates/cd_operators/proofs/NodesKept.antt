-- Nodes that hold a set, and the nodes that operators ask about.
use Rattle.std.proofs.Common.{◌≡◌, ◌<◌, ◌++◌, [], ◌∷◌, length}
use Rattle.cd_sets.specs.declared.node_id.NodeId.{NodeId}
use Rattle.cd_model.specs.BuiltIns.{built_ins, ANY, INT}
use Rattle.cd_model.specs.Formula.{Graph, IsGraph}
use Rattle.cd_meaning.specs.Sets.{Set, ◌⊆◌, elements_of}
use Rattle.cd_meaning.specs.Sequences.{IsSequence, IsListOf}
use Rattle.cd_typing.specs.Later.{IsLater}
use Rattle.cd_typing.specs.Operators.{IsNumbers}
use Rattle.cd_typing.specs.Results.{IsTupleOf}
use Rattle.cd_typing.specs.Typ.{BuiltIn, typ}
use Rattle.cd_typing.proofs.Later.{only_later, still_holds, below_later}
use Rattle.cd_typing.proofs.Subsets.{through}
use Rattle.cd_least.proofs.Monotone.{lists_grow}
use Rattle.cd_operators.specs.declared.tools.Tools.{Tools}
use Rattle.cd_operators.specs.Tools.{AreTools, IsZero}
use Rattle.cd_operators.proofs.BuiltInNodes.{all_are_any, is_there, type_in_node, node_in_type}
use Rattle.cd_operators.proofs.ListsOfLists.{list_is_sequence, sequence_is_list}
use Rattle.cd_operators.proofs.Numbers.{numbers_are_tuples, tuples_are_numbers}

-- a node holds just this set
pub record Holds (graph : Graph) (id : NodeId) (set : Set) : Type 0 where
  pub is_node : id.0 < length graph
  pub only : elements_of graph id ⊆ set
  pub all : set ⊆ elements_of graph id

pub holds_later : (graph later : Graph) → IsLater graph later → IsGraph graph → (id : NodeId)
    (set : Set) → Holds graph id set → Holds later id set
holds_later graph later is sound id set holds = record {
  is_node = below_later graph later is id holds.is_node;
  only = only_later graph later is sound id holds.is_node set holds.only;
  all = still_holds graph later is sound id holds.is_node set holds.all;
}

-- a built-in node
pub holds_built_in : (graph : Graph) → (more : Graph) × (graph ≡ built_ins ++ more)
    → (id : NodeId) → id.0 < length built_ins → Holds graph id (BuiltIn id)
holds_built_in graph begins id below = record {
  is_node = is_there graph begins id below;
  only = node_in_type graph begins id below;
  all = type_in_node graph begins id below;
}

-- the node of all lists of anything
module _ (graph later : Graph) (id : NodeId) (is_node : id.0 < length later) where
  pub holds_sequences : (begins : (more : Graph) × (graph ≡ built_ins ++ more))
      → IsListOf (elements_of graph ANY) ⊆ elements_of later id
      → elements_of later id ⊆ IsListOf (elements_of graph ANY) → Holds later id IsSequence
  holds_sequences begins has only = record {
    is_node = is_node;
    only = through (elements_of later id) (IsListOf (elements_of graph ANY)) IsSequence only
        (list_is_sequence (elements_of graph ANY));
    all = through IsSequence (IsListOf (elements_of graph ANY)) (elements_of later id)
        (sequence_is_list (elements_of graph ANY) (all_are_any graph begins)) has;
  }

  -- and of all lists of a set
  pub holds_lists : (item : NodeId) (set : Set) → Holds graph item set
      → IsListOf (elements_of graph item) ⊆ elements_of later id
      → elements_of later id ⊆ IsListOf (elements_of graph item) → Holds later id (IsListOf set)
  holds_lists item set holds has only = record {
    is_node = is_node;
    only = through (elements_of later id) (IsListOf (elements_of graph item)) (IsListOf set) only
        (lists_grow (elements_of graph item) set holds.only);
    all = through (IsListOf set) (IsListOf (elements_of graph item)) (elements_of later id)
        (lists_grow set (elements_of graph item) holds.all) has;
  }

  -- and of an integer and a list of integers
  pub holds_numbers : (integers : NodeId) → Holds graph INT (BuiltIn INT)
      → Holds graph integers (IsListOf (BuiltIn INT))
      → IsTupleOf (typ graph INT ∷ typ graph integers ∷ []) ⊆ elements_of later id
      → elements_of later id ⊆ IsTupleOf (typ graph INT ∷ typ graph integers ∷ [])
      → Holds later id IsNumbers
  holds_numbers integers one rest has only =
      let parts = IsTupleOf (typ graph INT ∷ typ graph integers ∷ []) in record {
        is_node = is_node;
        only = through (elements_of later id) parts IsNumbers only
            (tuples_are_numbers (typ graph INT) (typ graph integers) one.only rest.only);
        all = through IsNumbers parts (elements_of later id)
            (numbers_are_tuples (typ graph INT) (typ graph integers) one.all rest.all) has;
      }

pub are_tools : (graph : Graph) (tools : Tools) → Holds graph tools.sequences IsSequence
    → Holds graph tools.lists (IsListOf IsSequence) → Holds graph tools.zero IsZero
    → Holds graph tools.numbers IsNumbers → AreTools graph tools
are_tools graph tools sequences lists zero numbers = record {
  sequences = sequences.is_node;
  are_sequences = sequences.only;
  all_sequences = sequences.all;
  lists = lists.is_node;
  are_lists = lists.only;
  all_lists = lists.all;
  zero = zero.is_node;
  is_zero = zero.only;
  all_zero = zero.all;
  numbers = numbers.is_node;
  are_numbers = numbers.only;
  all_numbers = numbers.all;
}
