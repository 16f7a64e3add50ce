-- What is found of arguments and arrows, step by step.
use Rattle.std.specs.Prelude.{◌⊎◌, ◌↔◌, Bool, true, false, List, Option, Some, None}
use Rattle.std.specs.Prelude.{length}
use Rattle.cd_sets.specs.declared.node_id.NodeId.{NodeId}
use Rattle.cd_sets.specs.declared.question.Question.{Question}
use Rattle.cd_model.specs.AllOf.{AllOf}
use Rattle.cd_model.specs.Formula.{Graph, IsIn, IsOutside}
use Rattle.cd_model.specs.Thing.{Thing, IsElement}
use Rattle.cd_elements.specs.Table.{Names, element_at}
use Rattle.cd_elements.specs.declared.shape.ElementId.{ElementId}
use Rattle.cd_rules.specs.Clauses.{Pair}
use Rattle.cd_rules.specs.Family.{AsksNodes}
use Rattle.cd_rules.specs.Members.{HasElement}
use Rattle.cd_rules.specs.Within.{IsPairWithin}
use Rattle.cd_verdicts.specs.Verdicts.{HasNoElement}
use Rattle.cd_apply.specs.Inner.Results.{IsInQuestion, IsInOne, IsBeyond, IsRight, IsResult}
use Rattle.cd_apply.specs.Inner.Results.{IsResultIn}

-- the results are within a question, and these arrows speak of a part of the arguments alone
pub record Divided : Type 0 where
  pub results : Question
  pub unsettled : List Pair

module _ (graph : Graph) where
  -- an element of a question that the table has, or there is none
  abbrev pub IsFoundIn : (table : List Thing) → Question → Option ElementId → Type 0
  IsFoundIn table asking None = HasNoElement graph asking
  IsFoundIn table asking (Some id) = Names table id × IsElement (element_at table id)
      × IsInQuestion graph asking (element_at table id)

  -- all elements of a question are in a node, or one is outside it
  abbrev pub IsInside : Question → (id : NodeId) → Type 0
  IsInside asking id = (e : Thing) → IsElement e → IsInQuestion graph asking e
      → IsOutside graph e id → ⊥

  abbrev pub SaysInside : Question → (id : NodeId) → Bool → Type 0
  SaysInside asking id true = IsInside asking id
  SaysInside asking id false =
      (e : Thing) × IsElement e × IsInQuestion graph asking e × IsOutside graph e id

  -- none is in it, or one is
  abbrev pub IsDisjoint : Question → (id : NodeId) → Type 0
  IsDisjoint asking id = (e : Thing) → IsElement e → IsInQuestion graph asking e
      → IsIn graph e id → ⊥

  abbrev pub SaysDisjoint : Question → (id : NodeId) → Bool → Type 0
  SaysDisjoint asking id true = IsDisjoint asking id
  SaysDisjoint asking id false =
      (e : Thing) × IsElement e × IsInQuestion graph asking e × IsIn graph e id

  -- an element of a node is outside the argument of each arrow, and the table has it; or none is
  abbrev pub IsFoundBeyond : (table : List Thing) → (argument : NodeId) → List Pair
      → Option ElementId → Type 0
  IsFoundBeyond table argument arrows None = (from : Thing) → IsElement from
      → IsIn graph from argument → AllOf (IsBeyond graph from) arrows → ⊥
  IsFoundBeyond table argument arrows (Some id) = Names table id
      × IsElement (element_at table id) × IsIn graph (element_at table id) argument
      × AllOf (IsBeyond graph (element_at table id)) arrows

  -- some element of one of these questions is outside a node
  abbrev pub HasOneOutside : List Question → (id : NodeId) → Type 0
  HasOneOutside questions id =
      (e : Thing) × IsElement e × IsOutside graph e id × IsInOne graph questions e

  -- the results of arguments by arrows, within a question, are in the questions after; and else
  -- these hold what those before hold
  abbrev pub AddsResults : (arguments : Question) → List Pair → (results : Question)
      → (before after : List Question) → Type 0
  AddsResults arguments arrows results before after = (to : Thing)
      → IsInOne graph after to
      ↔ (IsInOne graph before to ⊎ IsResultIn graph arguments arrows results to)

  abbrev pub AddsImage : (arguments : Question) → List Pair → (before after : List Question)
      → Type 0
  AddsImage arguments arrows before after = (to : Thing) → IsInOne graph after to
      ↔ (IsInOne graph before to ⊎ IsResult graph arguments arrows to)

  -- there are arguments; or whatever their results are by arrows, they are in these questions
  abbrev pub IsSeenToAdd : (arguments results : Question) → (questions : List Question) → Bool
      → Type 0
  IsSeenToAdd arguments results questions true = HasElement graph arguments
  IsSeenToAdd arguments results questions false = (arrows : List Pair) (to : Thing)
      → IsResultIn graph arguments arrows results to → IsInOne graph questions to

  -- a result is right by what is divided
  abbrev pub IsRightBy : Divided → (from to : Thing) → Type 0
  IsRightBy divided from to =
      AllOf (IsRight graph from to) divided.unsettled × IsInQuestion graph divided.results to

  abbrev pub IsOfNodes : Divided → Type 0
  IsOfNodes divided = AsksNodes (length graph) divided.results
      × AllOf (IsPairWithin (length graph)) divided.unsettled

  -- what is divided says of the arguments what the arrows say
  pub record IsDivided (arguments : Question) (arrows : List Pair) (divided : Divided)
      : Type 0 where
    pub same : (from to : Thing) → IsElement from → IsInQuestion graph arguments from
        → AllOf (IsRight graph from to) arrows ↔ IsRightBy divided from to
    pub nodes : IsOfNodes divided

  -- and of one arrow more
  pub record Divides (arguments : Question) (arrow : Pair) (before after : Divided) : Type 0 where
    pub same : (from to : Thing) → IsElement from → IsInQuestion graph arguments from
        → (IsRightBy before from to × IsRight graph from to arrow) ↔ IsRightBy after from to
    pub nodes : IsOfNodes before → IsOfNodes after
