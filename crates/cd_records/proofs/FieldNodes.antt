-- A node for what rows ask at a label holds what records have there.
use Rattle.std.proofs.Common.{◌≡◌, true, List, [], ◌∷◌, ◌++◌, ◌⊎◌, inl, inr, Some, length}
use Rattle.cd_sets.specs.declared.node_id.NodeId.{NodeId}
use Rattle.cd_sets.specs.declared.question.Question.{Question}
use Rattle.cd_syntax.specs.Name.{Name, IsLabel}
use Rattle.cd_model.specs.AllOf.{AllOf, AnyOf}
use Rattle.cd_model.specs.BuiltIns.{built_ins}
use Rattle.cd_model.specs.Formula.{Graph, asked, in_node}
use Rattle.cd_model.specs.Thing.{Thing}
use Rattle.cd_rules.specs.Rows.{Row}
use Rattle.cd_builders.specs.Unions.{HoldsUnion}
use Rattle.cd_meaning.specs.Records.{IsFieldOf}
use Rattle.cd_meaning.specs.Sets.{◌⊆◌, elements_of}
use Rattle.cd_records.specs.Inner.Rows.{AreRowsOf}
use Rattle.cd_records.specs.Inner.Saying.{asked_by, with_questions}
use Rattle.cd_records.proofs.MergedEntries.{asked_said, said_asked}
use Rattle.cd_records.proofs.QuestionsOnce.{one_of_both, one_of_either}
use Rattle.cd_records.proofs.RowsOfNodes.{had_is_said, said_is_had}

module _ (graph before : Graph) (begins : graph ≡ built_ins ++ before) (a : NodeId)
    (rows : List Row) (are : AreRowsOf graph a rows) (label : Name) (is_label : IsLabel label)
    (new : Graph) (id : NodeId)
    (is_node : HoldsUnion graph (with_questions (asked_by rows label) []) new id) where
  abbrev In : Thing → Question → Type 0
  In d question = asked (in_node graph d) question true

  pub has_field : IsFieldOf label (elements_of graph a) ⊆ elements_of new id
  has_field e is has = (is_node.exact e is).1
      (one_of_both (In e) (asked_by rows label) []
      (inl (said_asked graph rows label e
      (had_is_said graph before begins a rows are label is_label (Some e) has))))

  pub only_field : elements_of new id ⊆ IsFieldOf label (elements_of graph a)
  only_field e is inside = by_side (one_of_either (In e) (asked_by rows label) []
      ((is_node.exact e is).0 inside))
    where
      by_side : AnyOf (In e) (asked_by rows label) ⊎ AnyOf (In e) []
          → IsFieldOf label (elements_of graph a) e
      by_side (inl one) = said_is_had graph before begins a rows are label is_label (Some e) is
          (asked_said graph rows label e one)
      by_side (inr none) = absurd none
