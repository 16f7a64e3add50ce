-- Questions of just what patterns take.
use Rattle.std.specs.Prelude.{◌↔◌, true, List, [], ◌∷◌, Some, length}
use Rattle.cd_sets.specs.declared.question.Question.{Question}
use Rattle.cd_syntax.specs.Name.{Name}
use Rattle.cd_syntax.specs.TypeTree.{Tree}
use Rattle.cd_model.specs.Formula.{Graph, asked, in_node}
use Rattle.cd_model.specs.Scope.{Scope}
use Rattle.cd_model.specs.Thing.{Thing, IsElement}
use Rattle.cd_matching.specs.Captures.{Captures}
use Rattle.cd_matching.specs.Takes.{WrittenTakes}
use Rattle.cd_rules.specs.Family.{AsksNodes}

module _ (scope : Scope) (graph : Graph) where
  -- the question asks for what the pattern takes
  pub record AsksTaken (pattern : Tree) (question : Question) : Type 0 where
    pub nodes : AsksNodes (length graph) question
    pub exact : (e : Thing) → IsElement e → asked (in_node graph e) question true
        ↔ ((captures : Captures Name) × WrittenTakes scope pattern e (Some captures))

  -- one question for each pattern
  abbrev pub AskTaken : List Tree → List Question → Type 0
  AskTaken [] [] = Unit {0}
  AskTaken [] (question ∷ questions) = ⊥
  AskTaken (pattern ∷ patterns) [] = ⊥
  AskTaken (pattern ∷ patterns) (question ∷ questions) =
      AsksTaken pattern question × AskTaken patterns questions
