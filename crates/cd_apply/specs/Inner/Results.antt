-- The results of arguments by arrows.
use Rattle.std.specs.Prelude.{◌⊎◌, true, List, [], ◌∷◌}
use Rattle.cd_sets.specs.declared.question.Question.{Question}
use Rattle.cd_model.specs.AllOf.{AllOf, AnyOf}
use Rattle.cd_model.specs.Formula.{Graph, IsIn, IsOutside, in_node, asked}
use Rattle.cd_model.specs.Thing.{Thing, IsElement}
use Rattle.cd_rules.specs.Clauses.{Pair}
use Rattle.cd_rules.specs.Needs.{question}

module _ (graph : Graph) where
  abbrev pub IsInQuestion : Question → Thing → Type 0
  IsInQuestion asking e = asked (in_node graph e) asking true

  abbrev pub IsInOne : List Question → Thing → Type 0
  IsInOne questions e = AnyOf (λ asking. IsInQuestion asking e) questions

  -- an argument is outside that of an arrow, and an argument with a result is right for an arrow
  abbrev pub IsBeyond : (from : Thing) → Pair → Type 0
  IsBeyond from arrow = IsOutside graph from arrow.0

  abbrev pub IsRight : (from to : Thing) → Pair → Type 0
  IsRight from to arrow = IsOutside graph from arrow.0 ⊎ IsIn graph to arrow.1

  -- with some element of a question as its argument, a result is right for each arrow
  abbrev pub IsResult : (arguments : Question) → (arrows : List Pair) → (to : Thing) → Type 0
  IsResult arguments arrows to = (from : Thing) × IsElement from × IsInQuestion arguments from
      × AllOf (IsRight from to) arrows

  -- and it is in a question too
  abbrev pub IsResultIn : (arguments : Question) → (arrows : List Pair) → (results : Question)
      → (to : Thing) → Type 0
  IsResultIn arguments arrows results to = IsResult arguments arrows to × IsInQuestion results to

  -- a function of the wanted arrows may fail at an argument of a refused arrow, or map it to what
  -- is outside that arrow's result
  abbrev pub CanFail : (wanted : List Pair) → (refused : Pair) → Type 0
  CanFail wanted refused =
      (from : Thing) × IsElement from × IsIn graph from refused.0 × AllOf (IsBeyond from) wanted

  abbrev pub CanLeave : (wanted : List Pair) → (refused : Pair) → Type 0
  CanLeave wanted refused = (to : Thing) × IsElement to × IsOutside graph to refused.1
      × IsResult (question (refused.0 ∷ []) []) wanted to

  abbrev pub CanRefuse : (wanted : List Pair) → (refused : Pair) → Type 0
  CanRefuse wanted refused = CanFail wanted refused ⊎ CanLeave wanted refused
