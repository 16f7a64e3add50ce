-- Nodes of the arrows of an interface.
use Rattle.std.specs.Prelude.{List, [], ◌∷◌}
use Rattle.cd_sets.specs.declared.node_id.NodeId.{NodeId}
use Rattle.cd_model.specs.Formula.{Graph}
use Rattle.cd_model.specs.Scope.{Scope}
use Rattle.cd_model.specs.StandsFor.{StandsFor}
use Rattle.cd_matching.specs.WrittenPattern.{in_scope}
use Rattle.cd_program.specs.Expr.{Signature}

-- the nodes stand for the types of the arrows that are written
abbrev pub AreArrows : Scope → Graph → List Signature → List (NodeId × NodeId) → Type 0
AreArrows scope graph [] [] = Unit {0}
AreArrows scope graph (signature ∷ signatures) (arrow ∷ arrows) =
    StandsFor graph arrow.0 (in_scope scope signature.takes)
    × StandsFor graph arrow.1 (in_scope scope signature.gives)
    × AreArrows scope graph signatures arrows
AreArrows scope graph signatures arrows = ⊥
