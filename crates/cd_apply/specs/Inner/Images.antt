-- What is found where functions of clauses are applied to what is in a node.
use Rattle.std.specs.Prelude.{List, Option, Some, None}
use Rattle.cd_sets.specs.declared.node_id.NodeId.{NodeId}
use Rattle.cd_sets.specs.declared.question.Question.{Question}
use Rattle.cd_model.specs.AllOf.{AnyOf}
use Rattle.cd_model.specs.Formula.{Graph}
use Rattle.cd_model.specs.Thing.{Thing}
use Rattle.cd_elements.specs.Table.{element_at}
use Rattle.cd_elements.specs.declared.shape.ElementId.{ElementId}
use Rattle.cd_apply.specs.declared.image.Image.{Image}
use Rattle.cd_apply.specs.declared.image.Image.TheVariants.{Fails, Union}
use Rattle.cd_apply.specs.Inner.FunctionClauses.{FunctionClause, MayFailAt}
use Rattle.cd_apply.specs.Inner.ImageUnions.{IsImageUnion, IsUnionWith, NamesArgument}

module _ (graph : Graph) (argument : NodeId) (table : List Thing) where
  -- an argument at which a function of one of these clauses fails, or the union of their results
  abbrev pub IsImage : List FunctionClause → Image → Type 0
  IsImage clauses (Fails id) = NamesArgument graph argument table id
      × AnyOf (MayFailAt graph (element_at table id)) clauses
  IsImage clauses (Union questions) = IsImageUnion graph argument clauses questions.items

  -- the same of one clause more
  abbrev pub AddsClause : FunctionClause → (before after : List Question) → Option ElementId
      → Type 0
  AddsClause clause before after None = IsUnionWith graph argument clause before after
  AddsClause clause before after (Some id) =
      NamesArgument graph argument table id × MayFailAt graph (element_at table id) clause
