-- What is made of operands whose types are known.
use Rattle.std.proofs.Common.{lit<}
use Rattle.cd_sets.specs.declared.node_id.NodeId.{NodeId}
use Rattle.cd_model.specs.BuiltIns.{ATOM, RECORD, BOOL}
use Rattle.cd_model.specs.Formula.{Graph, IsGraph}
use Rattle.cd_model.specs.Scope.{Scope}
use Rattle.cd_program.specs.Expr.{Expr, Xml}
use Rattle.cd_meaning.specs.Sets.{◌⊆◌, elements_of}
use Rattle.cd_typing.specs.Later.{IsLater}
use Rattle.cd_typing.specs.Results.{IsXmlOf}
use Rattle.cd_typing.specs.Typ.{typ, IsType, BuiltIn}
use Rattle.cd_typing.specs.Typing.{Has, KindHas}
use Rattle.cd_typing.proofs.BuiltInSets.{node_within}
use Rattle.cd_typing.proofs.Later.{later_still, type_later, has_later}
use Rattle.cd_typing.proofs.Subsets.{through}
use Rattle.cd_check.specs.declared.base.Base.{Base}
use Rattle.cd_check.specs.Inner.Environment.{Nodes, AreNodesOf, Gives}
use Rattle.cd_check.specs.Inner.Ready.{IsReady}
use Rattle.cd_check.proofs.ReadyLater.{nodes_of_later}
use Rattle.cd_check.proofs.TypesLater.{types_later}

-- what is within a built-in node of a graph that is ready is of the built-in type
module _ (base : Base) (graph : Graph) (locals : Nodes) (ready : IsReady base graph locals) (id : NodeId) where
  pub within_atom : elements_of graph id ⊆ elements_of graph ATOM → elements_of graph id ⊆ BuiltIn ATOM
  within_atom within = through (elements_of graph id) (elements_of graph ATOM) (BuiltIn ATOM) within
      (node_within graph ready.more ready.begins ATOM (lit< tt))

  pub within_record : elements_of graph id ⊆ elements_of graph RECORD → elements_of graph id ⊆ BuiltIn RECORD
  within_record within = through (elements_of graph id) (elements_of graph RECORD) (BuiltIn RECORD) within
      (node_within graph ready.more ready.begins RECORD (lit< tt))

  pub within_bool : elements_of graph id ⊆ elements_of graph BOOL → elements_of graph id ⊆ BuiltIn BOOL
  within_bool within = through (elements_of graph id) (elements_of graph BOOL) (BuiltIn BOOL) within
      (node_within graph ready.more ready.begins BOOL (lit< tt))

module _ (scope : Scope) (nodes : Nodes) (old first second third last : Graph) (sound : IsGraph old) (old_nodes : AreNodesOf old nodes)
    (one : IsLater old first) (two : IsLater first second) (three : IsLater second third) where
  pub xml_gives : (tag attributes content : Expr) (tag_id attributes_id content_id id : NodeId)
      → Gives old nodes first (λ types t. Has scope types tag t) tag_id
      → Gives first nodes second (λ types t. Has scope types attributes t) attributes_id
      → Gives second nodes third (λ types t. Has scope types content t) content_id
      → elements_of third tag_id ⊆ BuiltIn ATOM → elements_of third attributes_id ⊆ BuiltIn RECORD
      → IsXmlOf (elements_of third tag_id) (elements_of third attributes_id) (elements_of third content_id) ⊆ elements_of last id
      → IsType (typ last id)
      → Gives old nodes last (λ types t. KindHas scope types (Xml tag attributes content) t) id
  xml_gives tag attributes content tag_id attributes_id content_id id tag_gives attributes_give content_gives atoms records holds is_type =
      record {
        is_type = is_type;
        has = λ types of. let of_first = types_later old first one sound nodes old_nodes types of in
            let of_second = types_later first second two one.sound nodes (nodes_of_later old first one sound nodes old_nodes) types of_first in
            let to_third = later_still first second third two three in (
              typ third tag_id,
              typ third attributes_id,
              typ third content_id,
              type_later first third to_third tag_id tag_gives.is_type,
              has_later scope first third to_third one.sound tag types tag_id tag_gives.is_type.is_node (tag_gives.has types of),
              atoms,
              type_later second third three attributes_id attributes_give.is_type,
              has_later scope second third three two.sound attributes types attributes_id attributes_give.is_type.is_node
                  (attributes_give.has types of_first),
              records,
              content_gives.is_type,
              content_gives.has types of_second,
              holds,
            );
      }
