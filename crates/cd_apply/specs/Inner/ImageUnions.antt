-- What the functions of clauses give for what is in a node, as what is in one of some questions.
use Rattle.std.specs.Prelude.{◌⊎◌, ◌↔◌, List, length}
use Rattle.cd_sets.specs.declared.node_id.NodeId.{NodeId}
use Rattle.cd_sets.specs.declared.question.Question.{Question}
use Rattle.cd_model.specs.AllOf.{AllOf, AnyOf}
use Rattle.cd_model.specs.Formula.{Graph, IsIn}
use Rattle.cd_model.specs.Thing.{Thing, IsElement}
use Rattle.cd_elements.specs.Table.{Names, element_at}
use Rattle.cd_elements.specs.declared.shape.ElementId.{ElementId}
use Rattle.cd_rules.specs.Family.{AsksNodes}
use Rattle.cd_apply.specs.Inner.FunctionClauses.{FunctionClause, GivesResult, MayFailAt}
use Rattle.cd_apply.specs.Inner.Results.{IsInOne}

module _ (graph : Graph) (argument : NodeId) where
  -- no function of these clauses fails at an argument, and their results are what is in one of
  -- these questions
  pub record IsImageUnion (clauses : List FunctionClause) (questions : List Question)
      : Type 0 where
    pub total : (from : Thing) → IsElement from → IsIn graph from argument
        → AnyOf (MayFailAt graph from) clauses → ⊥
    pub exact : (to : Thing)
        → IsInOne graph questions to ↔ AnyOf (GivesResult graph argument to) clauses
    pub asks : AllOf (AsksNodes (length graph)) questions

  -- with one clause more
  pub record IsUnionWith (clause : FunctionClause) (before after : List Question) : Type 0 where
    pub total : (from : Thing) → IsElement from → IsIn graph from argument
        → MayFailAt graph from clause → ⊥
    pub exact : (to : Thing) → IsInOne graph after to
        ↔ (IsInOne graph before to ⊎ GivesResult graph argument to clause)
    pub asks : AllOf (AsksNodes (length graph)) after

  -- an argument of the table
  abbrev pub NamesArgument : (table : List Thing) → ElementId → Type 0
  NamesArgument table id = Names table id × IsElement (element_at table id)
      × IsIn graph (element_at table id) argument
